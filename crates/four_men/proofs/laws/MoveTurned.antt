-- Turning a position turns its move, but for the mirror pair where two maps fit: once for all eight maps, the men in
-- either slot, the colours exchanged or not where that is allowed, every table and every position with one man or two
-- (02, P5, P9 and P10).
use Rattle.rules.specs.declared.Move.{Move}
use Rattle.std.specs.Prelude.{◌≡◌, Bool, true, false, cond, not, List, ℕ, T, eqb, Option, Err, Result}
use Rattle.std.proofs.Math.Path.{refl, ap}
use Rattle.std.proofs.Common.{sym, ◌∙◌, eqb-true}
use Rattle.theory.specs.Required.{required_at}
use Rattle.theory.specs.Play.{first_suited}
use Rattle.table_theory.specs.Tables.{reads}
use Rattle.symmetry.specs.Symmetry.{mapped, inverse, composed, exchange}
use Rattle.symmetry.proofs.laws.SymmetryLaws.{undone-by, undone-mirror}
use Rattle.rules.specs.declared.Piece.{Piece}
use Rattle.rules.specs.Rules.{Board}
use Rattle.rules.specs.Reordered.{LegalFew}
use Rattle.rules.specs.Chess.{chess}
use Rattle.numbering.specs.Change.{Change, changed_by}
use Rattle.numbering.specs.Number.{normal_by, normalised}
use Rattle.numbering.specs.Fits.{two_fit, mirror}
use Rattle.numbering.specs.declared.Material.{Material}
use Rattle.numbering.specs.Material.{known, men_of, OfMaterial, material_in}
use Rattle.numbering.proofs.laws.MaterialLaws.{known-given}
use Rattle.index.specs.Endings.{normal_in, map_in}
use Rattle.numbering.proofs.laws.ChangeLaws.{HasNumber, has-changed}
use Rattle.numbering.proofs.laws.FitLaws.{same-normal, turn-plain, turn-mirrored}
use Rattle.position.specs.declared.Position.{Position}
use Rattle.position.specs.Keyed.{board_of}
use Rattle.position.specs.Refusals.{standing_with}
use Rattle.answers.specs.declared.Answer.{Answer}
use Rattle.endings.specs.Answers.{advice_of, answer_of, mapped_advice, mapped_answer, chosen_by, chosen}
use Rattle.endings.proofs.laws.MoveTurned.{advice-by, advice-by-three, MovesOnly, mapped-only, twice-only}
use Rattle.four_men.specs.Lending.{Lent}
use Rattle.four_men.specs.Reading.{numbered}
use Rattle.four_men.specs.Same.{Same}
use Rattle.four_men.specs.Answers.{lengths_fit, look_up_with}
use Rattle.four_men.specs.MoveTurned.{turned_position, MoveTurnedWith}
use Rattle.four_men.proofs.laws.Materials.{material-in, few-of}
use Rattle.four_men.proofs.laws.Same.{changed-same}
use Rattle.four_men.proofs.laws.Numbered.{legal-number}
use Rattle.four_men.proofs.laws.Turned.{known_of, reads_turned, required-turned-with}
use Rattle.four_men.proofs.laws.Pieces.{chosen_is}
use Rattle.four_men.proofs.laws.Standing.{standing-pieces}
use Rattle.four_men.proofs.laws.TurnedStanding.{turned-board, standing-turned}

-- ---- the chosen move

module _ (bytes : Board → ℕ) (s : Change) {material : List Piece} (b : Board) (has : HasNumber material b) where
  abbrev c : Board
  c = changed_by s b

  -- both boards have one normal board, and so one move there
  there : chosen bytes c ≡ mapped_advice (inverse (normal_by c)) (advice_of (first_suited chess bytes (normalised b)))
  unfolding chosen_by
  there =
      ap (λ (n : Board). mapped_advice (inverse (normal_by c)) (advice_of (first_suited chess bytes n)))
      (same-normal b has s)

  chosen_plain : (T (two_fit b) → s.symmetry.swap ≡ false)
      → chosen bytes c ≡ mapped_advice s.symmetry (chosen bytes b)
  unfolding chosen_by
  chosen_plain h =
      there
      ∙ advice-by (inverse (normal_by c)) s.symmetry (inverse (normal_by b))
      (advice_of (first_suited chess bytes (normalised b)))
      (undone-by s.symmetry (normal_by c) (normal_by b) (turn-plain s b has h))

  chosen-mirrored : T (two_fit b) → s.symmetry.swap ≡ true
      → chosen bytes c ≡ mapped_advice s.symmetry (mapped_advice (mirror b) (chosen bytes b))
  unfolding chosen_by mirror
  chosen-mirrored w h =
      there
      ∙ advice-by-three (inverse (normal_by c)) s.symmetry (mirror b) (inverse (normal_by b))
      (advice_of (first_suited chess bytes (normalised b)))
      (λ u. undone-by s.symmetry (normal_by c) (composed (normal_by b) exchange) (turn-mirrored s b has w h) u
      ∙ ap (mapped s.symmetry) (undone-mirror (normal_by b) u))

-- ---- the answer

module _ (l : Lent) (t : List ℕ) where
  abbrev bytes_for : Material → Board → ℕ
  bytes_for m = reads chess (numbered m l) t

  -- what is answered where 1 to 6 do not refuse
  abbrev answered : Material → Board → Result Answer ℕ
  answered m b =
      cond (not (lengths_fit m l t)) (Err 7)
      (cond (not (eqb (bytes_for m b) (required_at chess (bytes_for m) b))) (Err 11)
      (answer_of (bytes_for m b) (chosen_by (map_in m) (normal_in m) (bytes_for m) b)))

  looked : (p : Position) → look_up_with l t p
      ≡ cond (not (eqb (standing_with p) 0)) (Err (standing_with p))
      (answered (material_in (board_of p).men) (board_of p))
  unfolding look_up_with
  looked p = refl

  module _ (f : Result Answer ℕ → Result Answer ℕ) (g : Option Move → Option Move) (only : MovesOnly f g) (s : Change) (p : Position)
      (pieces : material_in (board_of p).men ≡ Material.Pawn → ⊥) where
    abbrev b : Board
    b = board_of p

    abbrev m : Material
    m = material_in b.men

    -- the tests go with the turn; so it is enough to know what becomes of the chosen move
    module _ (z : standing_with p ≡ 0)
        (h : chosen (bytes_for m) (changed_by s b) ≡ g (chosen (bytes_for m) b)) where
      few : LegalFew b
      few = let w = standing-pieces p z pieces in record { legality = w.0; few = few-of m b.men w.1 }

      is_known : T (known m)
      is_known = let w = standing-pieces p z pieces in known_of m b w.0 w.1

      same : Same b (changed_by s b)
      same = changed-same s b few

      of-turned : OfMaterial m (changed_by s b)
      of-turned = let w = standing-pieces p z pieces in (has-changed s b (legal-number b w.0 w.1)).men

      answered-turned : answered m (changed_by s b) ≡ f (answered m b)
      answered-turned =
          rw (
            sym (reads_turned m is_known l t b (changed_by s b) same),
            sym (required-turned-with m is_known l t b (changed_by s b) same),
            chosen_is m is_known (bytes_for m) (changed_by s b),
            chosen_is m is_known (bytes_for m) b,
            h,
          )
          (go (lengths_fit m l t) (eqb (bytes_for m b) (required_at chess (bytes_for m) b)))
        where
          go : (x y : Bool) → cond (not x) (Err 7)
              (cond (not y) (Err 11) (answer_of (bytes_for m b) (g (chosen (bytes_for m) b))))
              ≡ f (cond (not x) (Err 7)
              (cond (not y) (Err 11) (answer_of (bytes_for m b) (chosen (bytes_for m) b))))
          go false y = sym (only.refused 7)
          go true false = sym (only.refused 11)
          go true true = sym (only.valued (bytes_for m b) (chosen (bytes_for m) b))

    answer-turned : (standing_with p ≡ 0 → chosen (bytes_for m) (changed_by s b) ≡ g (chosen (bytes_for m) b))
        → look_up_with l t (turned_position s p) ≡ f (look_up_with l t p)
    answer-turned h =
        looked (turned_position s p)
        ∙ rw (standing-turned s p pieces, turned-board s p) (go (eqb (standing_with p) 0) refl)
        ∙ ap f (sym (looked p))
      where
        go : (x : Bool) → eqb (standing_with p) 0 ≡ x
            → cond (not x) (Err (standing_with p))
            (answered (material_in (changed_by s b).men) (changed_by s b))
            ≡ f (cond (not x) (Err (standing_with p)) (answered m b))
        go false e = sym (only.refused (standing_with p))
        go true e =
            let z = eqb-true (standing_with p) 0 e in
            ap (λ (k : Material). answered k (changed_by s b))
            (material-in m (known-given m (is_known z (h z))) (changed_by s b).men (of-turned z (h z)))
            ∙ answered-turned z (h z)

  -- of endings of pieces; a pawn's position is turned by its own changes
  pub move-turned-with : (s : Change) (p : Position) → (material_in (board_of p).men ≡ Material.Pawn → ⊥)
      → MoveTurnedWith l t s p
  move-turned-with s p pieces = record {
    plain = λ h. answer-turned (mapped_answer s.symmetry) (mapped_advice s.symmetry) (mapped-only s.symmetry) s p pieces
        (λ z. chosen_plain (bytes_for (material_in (board_of p).men)) s (board_of p) (has z) h);
    mirrored = λ w h. answer-turned (λ a. mapped_answer s.symmetry (mapped_answer (mirror (board_of p)) a))
        (λ a. mapped_advice s.symmetry (mapped_advice (mirror (board_of p)) a))
        (twice-only s.symmetry (mirror (board_of p))) s p pieces
        (λ z. chosen-mirrored (bytes_for (material_in (board_of p).men)) s (board_of p) (has z) w h);
  }
    where
      has : standing_with p ≡ 0 → HasNumber (men_of (material_in (board_of p).men)) (board_of p)
      has z = let w = standing-pieces p z pieces in legal-number (board_of p) w.0 w.1

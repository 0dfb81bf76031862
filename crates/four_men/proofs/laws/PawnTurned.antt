-- Turning a position with a pawn turns its move, with no exception: the reversal of the files and the exchange of
-- colours, which turns the ranks round, on every table (02, P5, P9 and P12).
use Rattle.rules.specs.declared.Move.{Move}
use Rattle.std.specs.Prelude.{◌≡◌, refl, Bool, true, false, cond, not, List, [], ◌∷◌, map, ℕ, T, eqb, Option, Err, Result}
use Rattle.std.proofs.Common.{sym, ap₂, ◌∙◌, inl, arith, eqb-true}
use Rattle.std.proofs.Math.Path.{ap, subst⁻¹}
use Rattle.std.proofs.Math.Bool.{xor}
use Rattle.theory.specs.Required.{required_at}
use Rattle.theory.specs.Play.{first_suited}
use Rattle.theory.proofs.laws.Alike.{alike-required}
use Rattle.table_theory.proofs.laws.Acceptance.{reads_same}
use Rattle.symmetry.specs.Symmetry.{inverse, composed}
use Rattle.symmetry.proofs.laws.SymmetryLaws.{undone-by}
use Rattle.rules.specs.declared.Piece.{Piece}
use Rattle.rules.specs.Rules.{Board, piece_of, legal_with_pawn}
use Rattle.rules.specs.Changed.{changed_piece}
use Rattle.rules.specs.Chess.{chess}
use Rattle.pawn_numbers.specs.PawnNumber.{Flip, flip, flipped, pawn_flip, normal_pawn, HasPawn}
use Rattle.pawn_numbers.proofs.laws.FlipLaws.{then, flips-compose, has-flipped, flip-fits}
use Rattle.pawn_numbers.proofs.laws.NormalPawn.{normal-flipped, one-flip}
use Rattle.numbering.specs.Men.{material_of}
use Rattle.numbering.specs.declared.Material.{Material}
use Rattle.numbering.specs.Material.{OfMaterial, material_in}
use Rattle.index.specs.Endings.{normal_in, map_in}
use Rattle.position.specs.declared.Position.{Position}
use Rattle.position.specs.Keyed.{board_of}
use Rattle.position.specs.Refusals.{standing_with}
use Rattle.position.specs.Maps.{changed_position}
use Rattle.position.proofs.laws.ChangedRefusals.{change-board, standing-with-changed}
use Rattle.position.proofs.laws.StandingWith.{standing-with-pawn}
use Rattle.answers.specs.declared.Answer.{Answer}
use Rattle.endings.specs.Answers.{advice_of, answer_of, mapped_advice, mapped_answer, chosen_by}
use Rattle.endings.proofs.laws.MoveTurned.{advice-by, mapped-only}
use Rattle.four_men.specs.Lending.{Lent}
use Rattle.four_men.specs.Reading.{numbered}
use Rattle.four_men.specs.Answers.{lengths_fit, look_up_with}
use Rattle.four_men.proofs.laws.PawnWithin.{lone-pawn}
use Rattle.four_men.proofs.laws.PawnLawful.{map_by, SamePawn, pawn-alike, men-flipped, has-pawn, lawful-pawn}
use Rattle.four_men.proofs.laws.Carrying.{pawn_bytes}

-- ---- both boards have one normal board

undo : (s f : Flip) → then s (then s f) ≡ f
unfolding xor
undo s f = ap₂ flip (twice s.files f.files) (twice s.colours f.colours)
  where
    twice : (x y : Bool) → xor x (xor x y) ≡ y
    twice true true = refl
    twice true false = refl
    twice false true = refl
    twice false false = refl

module _ (s : Flip) (b : Board) (h : HasPawn b) where
  abbrev c : Board
  c = flipped s b

  there-too : flipped (then s (pawn_flip b)) c ≡ flipped (pawn_flip b) b
  there-too =
      flips-compose s (then s (pawn_flip b)) b ∙ ap (λ (f : Flip). flipped f b) (undo s (pawn_flip b))

  -- the flipped board is made normal by the flip undone, then the board's own
  pub flip-of : then s (pawn_flip b) ≡ pawn_flip c
  flip-of =
      one-flip c (has-flipped s b h) (then s (pawn_flip b))
      (subst⁻¹ (λ (d : Board). T (normal_pawn d)) there-too (normal-flipped b h))

  pub one-normal : flipped (pawn_flip c) c ≡ flipped (pawn_flip b) b
  one-normal = ap (λ (f : Flip). flipped f c) (sym flip-of) ∙ there-too

  map-of : composed (map_by s) (map_by (pawn_flip c)) ≡ map_by (pawn_flip b)
  unfolding composed xor
  map-of =
      ap (λ (f : Flip). map_by (then s f)) (sym flip-of) ∙ ap map_by (undo s (pawn_flip b))

  -- and so one move there
  pub chosen_flipped : (bytes : Board → ℕ)
      → chosen_by (map_in Material.Pawn) (normal_in Material.Pawn) bytes c
      ≡ mapped_advice (map_by s) (chosen_by (map_in Material.Pawn) (normal_in Material.Pawn) bytes b)
  unfolding chosen_by
  chosen_flipped bytes =
      ap (λ (n : Board). mapped_advice (inverse (map_by (pawn_flip c))) (advice_of (first_suited chess bytes n))) one-normal
      ∙ advice-by (inverse (map_by (pawn_flip c))) (map_by s) (inverse (map_by (pawn_flip b)))
      (advice_of (first_suited chess bytes (flipped (pawn_flip b) b)))
      (undone-by (map_by s) (map_by (pawn_flip c)) (map_by (pawn_flip b)) map-of)

-- ---- the answer

-- the men of a pawn's material are a pawn
in-pawn : (l : List Piece) → material_in l ≡ Material.Pawn → material_of l ≡ piece_of 4 0 0 ∷ []
unfolding material_of
in-pawn [] e = let z : ◌≡◌ {A = ℕ} 0 1 = cc in absurd (omega arith)
in-pawn (a ∷ []) e = go (eqb a.kind 4) refl e
  where
    go : (x : Bool) → eqb a.kind 4 ≡ x → cond x Material.Pawn (Material.One a.kind) ≡ Material.Pawn
        → piece_of a.kind 0 0 ∷ [] ≡ piece_of 4 0 0 ∷ []
    go true f e = ap (λ (k : ℕ). piece_of k 0 0 ∷ []) (eqb-true a.kind 4 f)
    go false f e = let z : ◌≡◌ {A = ℕ} 0 1 = cc in absurd (omega arith)
in-pawn (a ∷ d ∷ l) e = let z : ◌≡◌ {A = ℕ} 0 1 = cc in absurd (omega arith)

module _ (l : Lent) (t : List ℕ) where
  abbrev bytes : Board → ℕ
  bytes = pawn_bytes l t

  -- what is answered where 1 to 6 do not refuse
  abbrev answered : Board → Result Answer ℕ
  answered b =
      cond (not (lengths_fit Material.Pawn l t)) (Err 7)
      (cond (not (eqb (bytes b) (required_at chess bytes b))) (Err 11)
      (answer_of (bytes b) (chosen_by (map_in Material.Pawn) (normal_in Material.Pawn) bytes b)))

  looked : (p : Position) → material_in (board_of p).men ≡ Material.Pawn → look_up_with l t p
      ≡ cond (not (eqb (standing_with p) 0)) (Err (standing_with p)) (answered (board_of p))
  unfolding look_up_with
  looked p e = rw e

  reads-flipped : (b c : Board) → SamePawn b c → bytes b ≡ bytes c
  unfolding lawful-pawn
  reads-flipped b c x = reads_same chess (numbered Material.Pawn l) (lawful-pawn l) t b c x

  -- the tests go with the flip, and the chosen move with them
  answered-flipped : (s : Flip) (b : Board) → T (legal_with_pawn b) → OfMaterial Material.Pawn b
      → answered (flipped s b) ≡ mapped_answer (map_by s) (answered b)
  answered-flipped s b g e =
      let x : SamePawn b (flipped s b) = (s, record { legality = g; men = inl e }, refl) in
      rw (
        sym (reads-flipped b (flipped s b) x),
        sym (alike-required chess chess SamePawn pawn-alike bytes bytes reads-flipped b (flipped s b) x),
        chosen_flipped s b (has-pawn b g e) bytes,
      )
      (go (lengths_fit Material.Pawn l t) (eqb (bytes b) (required_at chess bytes b)))
    where
      advice : Option Move
      advice = chosen_by (map_in Material.Pawn) (normal_in Material.Pawn) bytes b

      go : (x y : Bool) → cond (not x) (Err 7)
          (cond (not y) (Err 11) (answer_of (bytes b) (mapped_advice (map_by s) advice)))
          ≡ mapped_answer (map_by s) (cond (not x) (Err 7)
          (cond (not y) (Err 11) (answer_of (bytes b) advice)))
      go false y = refl
      go true false = refl
      go true true = sym ((mapped-only (map_by s)).valued (bytes b) advice)

  module _ (s : Flip) (p : Position) (e : material_in (board_of p).men ≡ Material.Pawn) where
    abbrev q : Position
    q = changed_position (map_by s) s.colours p

    board-flipped : board_of q ≡ flipped s (board_of p)
    unfolding flipped
    board-flipped = change-board (map_by s) s.colours p

    here : OfMaterial Material.Pawn (board_of p)
    here = in-pawn (board_of p).men e

    there : material_in (board_of q).men ≡ Material.Pawn
    there =
        ap (λ (b : Board). material_in b.men) board-flipped
        ∙ ap material_in (men-flipped s (board_of p) ∙ ap (map (changed_piece (map_by s) s.colours))
        (lone-pawn (board_of p) here).1.1)

    -- TURNING A POSITION WITH A PAWN TURNS ITS MOVE, whatever the tables; a refused position stays refused.
    pub move-turned-pawn : look_up_with l t q ≡ mapped_answer (map_by s) (look_up_with l t p)
    move-turned-pawn =
        looked q there ∙ rw (standing-with-changed (map_by s) s.colours p (flip-fits s (board_of p)), board-flipped) (go (eqb (standing_with p) 0) refl)
        ∙ ap (mapped_answer (map_by s)) (sym (looked p e))
      where
        go : (x : Bool) → eqb (standing_with p) 0 ≡ x
            → cond (not x) (Err (standing_with p)) (answered (flipped s (board_of p)))
            ≡ mapped_answer (map_by s) (cond (not x) (Err (standing_with p)) (answered (board_of p)))
        go false f = refl
        go true f = answered-flipped s (board_of p) (standing-with-pawn p (eqb-true (standing_with p) 0 f)) here

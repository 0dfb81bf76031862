-- Whether a depth is required at a number, by what stands there.
use Rattle.std.specs.Prelude.{◌≡◌, refl, Bool, true, false, ◌&&◌, List, ℕ, ◌+◌, T}
use Rattle.std.proofs.Math.Path.{sym, ap}
use Rattle.std.proofs.Common.{◌∙◌}
use Rattle.std.proofs.Math.Bool.{and-true, and-false}
use Rattle.std.proofs.Math.Dec.{eqb}
use Rattle.theory.specs.Required.{required_at}
use Rattle.rules.specs.Rules.{Board, in_check, mated}
use Rattle.rules.specs.Chess.{chess}
use Rattle.numbering.specs.Material.{known, men_of}
use Rattle.numbering.specs.Keys.{board_at}
use Rattle.numbering.specs.Number.{used}
use Rattle.position.specs.declared.Men.{Men}
use Rattle.position.specs.declared.Place.{Place}
use Rattle.position.specs.Keyed.{board_of}
use Rattle.position.specs.Posed.{posed, board_in, material_for, Complete}
use Rattle.index.specs.Seats.{StandsAt, shares}
use Rattle.index.proofs.laws.PlaceLaws.{used-not}
use Rattle.index.proofs.laws.CompleteLaws.{shared-complete}
use Rattle.index.specs.Endings.{board_for}
use Rattle.index.proofs.laws.EndingsLaws.{pieces-board, pieces-used}
use Rattle.four_men.specs.Reading.{legal_number_of}
use Rattle.successors.specs.Successors.{bytes_in}
use Rattle.successors.proofs.laws.VerdictLaws.{depth-mate}
use Rattle.deciding.specs.Deciding.{required_of}

module _ (m : Men) (first second table : List ℕ) (k n : ℕ) where
  -- nothing legal stands there
  pub none-required : legal_number_of (material_for m) n ≡ false → false ≡ required_of m first second table k n
  unfolding required_of
  none-required e = sym (rw e)

  -- a legal position
  pub there-required : (q : Place) → legal_number_of (material_for m) n ≡ true → board_in m q ≡ board_for (material_for m) n
      → (r : Bool) → r ≡ eqb (required_at chess (bytes_in m first second table) (board_in m q)) (2 + k)
      → r ≡ required_of m first second table k n
  unfolding required_of
  there-required q g e r h =
      h ∙ ap (λ (b : Board). eqb (required_at chess (bytes_in m first second table) b) (2 + k)) e ∙ sym (rw g)

  -- ---- of pieces, legality asked last

  module _ (w : T (known (material_for m))) where
    pub unused-required : false ≡ used (board_at (men_of (material_for m)) n) → false ≡ required_of m first second table k n
    unused-required e = none-required (unfold legal_number_of in rw (pieces-used (material_for m) n w, ← e))

    module _ (q : Place) (e : board_in m q ≡ board_at (men_of (material_for m)) n) (needs : Bool)
        (h : needs ≡ eqb (required_at chess (bytes_in m first second table) (board_in m q)) (2 + k)) where
      there : needs ≡ eqb (required_at chess (bytes_in m first second table) (board_for (material_for m) n)) (2 + k)
      there =
          h ∙ ap (λ (b : Board). eqb (required_at chess (bytes_in m first second table) b) (2 + k))
          (e ∙ sym (ap (λ (f : ℕ → Board). f n) (pieces-board (material_for m) w)))

      pub not-required : needs ≡ false → false ≡ required_of m first second table k n
      unfolding required_of
      not-required z =
          sym (ap (λ (x : Bool). legal_number_of (material_for m) n && x) (sym there ∙ z)
          ∙ and-false (legal_number_of (material_for m) n))

      pub legal-required : needs ≡ true → (live : Bool) → live ≡ legal_number_of (material_for m) n
          → live ≡ required_of m first second table k n
      unfolding required_of
      legal-required z live l =
          l
          ∙ sym (ap (λ (x : Bool). legal_number_of (material_for m) n && x) (sym there ∙ z)
          ∙ and-true (legal_number_of (material_for m) n))

    -- no mate where the side to move is not in check
    pub calm-required : (q : Place) → StandsAt m n q → (Complete m q → in_check (board_in m q) q.side ≡ false) → k ≡ 0
        → false ≡ required_of m first second table k n
    calm-required q a calm z = go (shares q) refl
      where
        no-mate : in_check (board_in m q) q.side ≡ false → mated (board_in m q) ≡ false
        no-mate e = unfold mated board_of posed in rw e

        go : (x : Bool) → shares q ≡ x → false ≡ required_of m first second table k n
        go true e = unused-required (used-not m n q a e)
        go false e =
            not-required q a.board (mated (board_in m q)) (depth-mate _ _ k z) (no-mate (calm (shared-complete m n q a e)))

-- What stands at a number, of pieces and of a pawn.
use Rattle.std.specs.Prelude.{◌≡◌, refl, Bool, true, false, not, ℕ, T, None, Option, Some}
use Rattle.std.proofs.Common.{sym, ap, subst, ◌∙◌, inl, inr}
use Rattle.finite.specs.Truth.{of-true}
use Rattle.rules.specs.Rules.{Board}
use Rattle.numbering.specs.declared.Material.{Material}
use Rattle.numbering.specs.Material.{known}
use Rattle.position.specs.declared.Men.{Men}
use Rattle.position.specs.declared.Place.{Place}
use Rattle.position.specs.Posed.{material_for}
use Rattle.index.specs.Endings.{board_for}
use Rattle.index.proofs.laws.EndingsLaws.{pieces-board}
use Rattle.four_men.specs.Reading.{legal_number_of}
use Rattle.pawn_moves.specs.PawnMoves.{SeatAt, seat_legal}
use Rattle.pawn_moves.proofs.laws.SeatLaws.{seat-on, seat-legal, legal-apart}
use Rattle.successors.specs.Successors.{StandingAt}
use Rattle.deciding.specs.Deciding.{PawnSeated, StandingFor}
use Rattle.deciding.proofs.laws.PawnLaws.{pawn-board}

-- ---- pieces

pub pieces-standing : (m : Men) (n : ℕ) (s : Option Place) → T (known (material_for m)) → StandingAt m n s → StandingFor m n s
pieces-standing m n None k w = w
pieces-standing m n (Some q) k w =
    (w.0, inl w.1, w.2 ∙ sym (ap (λ (f : ℕ → Board). f n) (pieces-board (material_for m) k)))

-- a position is legal unless the side not to move is in check
pub not-checked : (check live : Bool) → (check ≡ true → live ≡ false) → (check ≡ false → live ≡ true)
    → not check ≡ live
not-checked true live f g = sym (f refl)
not-checked false live f g = sym (g refl)

-- ---- a pawn

module _ (m : Men) (n : ℕ) (q : Place) (e : material_for m ≡ Material.Pawn) (s : SeatAt n q) where
  number-legal : legal_number_of (material_for m) n ≡ seat_legal q
  unfolding legal_number_of
  number-legal = rw e (sym (seat-legal n q s))

  pub pawn-nothing : seat_legal q ≡ false → StandingFor m n None
  pawn-nothing f = number-legal ∙ f

  pub pawn-standing : seat_legal q ≡ true → StandingFor m n (Some q)
  pawn-standing f = (
    number-legal ∙ f,
    inr seated,
    pawn-board m q seated ∙ s.board ∙ sym (ap (λ (x : Material). board_for x n) e),
  )
    where
      seated : PawnSeated m q
      seated = record { ending = e; second = s.second; on = seat-on n q s (legal-apart q (of-true f)) }

-- ---- what is found tells

pub told-legal : (m : Men) (n : ℕ) (s : Option Place) (q : Place) → s ≡ Some q → StandingFor m n s
    → StandingFor m n (Some q)
told-legal m n s q e w = subst (StandingFor m n) e w

pub told-nothing : (m : Men) (n : ℕ) (s : Option Place) → s ≡ None → StandingFor m n s
    → legal_number_of (material_for m) n ≡ false
told-nothing m n s e w = subst (StandingFor m n) e w

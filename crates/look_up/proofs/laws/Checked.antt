-- Refusal 6 by the normal place: of a board of pieces and its normal board, the side that does not move is in check on
-- both or on neither.
use Rattle.std.specs.Prelude.{◌≡◌, Bool, true, false, ℕ, ◌-◌, ◌<◌, T}
use Rattle.std.proofs.Math.Path.{sym, ap}
use Rattle.std.proofs.Common.{◌∙◌, arith}
use Rattle.std.proofs.Math.Bool.{not}
use borrow.Author.Tests.{ne_eqb}
use Rattle.finite.specs.Members.{all}
use Rattle.rules.specs.Pawn.{pawn}
use Rattle.rules.specs.Rules.{Board, in_check}
use Rattle.rules.specs.Changed.{changed}
use Rattle.rules.proofs.laws.Changed.{across}
use Rattle.rules.proofs.laws.ChangedRules.{pawnless-fits, check-changed}
use Rattle.rules.specs.Reordered.{reordered}
use Rattle.rules.proofs.laws.ReorderedLaws.{all-crossed, check-reordered}
use Rattle.numbering.specs.declared.Material.{Material}
use Rattle.numbering.specs.Material.{known}
use Rattle.numbering.specs.Number.{normal_by, normalised}
use Rattle.position.specs.declared.Position.{Position}
use Rattle.position.specs.Refusals.{other_in_check, placing_with, standing_with}
use Rattle.index.specs.Endings.{normal_in}
use Rattle.four_men.proofs.laws.Same.{normal-as}

-- the side that does not move is in check
abbrev pub rival_checked : Board → Bool
rival_checked b = in_check b (1 - b.side)

module _ (b : Board) (side : b.side < 2) (pieces : T (all (λ a. not (pawn a)) b.men)) where
  checked-normal : rival_checked (normalised b) ≡ rival_checked b
  unfolding changed
  checked-normal =
      let n = normal-as b in
      let k = normal_by b in
      let c = reordered n.0 b in
      ap rival_checked n.3
      ∙ ap (in_check (changed k n.1 c)) (across n.1 b.side side)
      ∙ check-changed k n.1 c
      (pawnless-fits k n.1 c (rw (all-crossed (λ a. not (pawn a)) n.0 b.men) pieces)) (1 - b.side) (omega arith)
      ∙ check-reordered n.0 b (1 - b.side)

  pub checked-there : (m : Material) → T (known m) → rival_checked (normal_in m b) ≡ rival_checked b
  checked-there (Material.One kind) w = checked-normal
  checked-there (Material.Two j k r) w = checked-normal
  checked-there Material.Pawn w = absurd w

-- the refusals by what is asked one after the other
module _ (p : Position) where
  pub placing-stands : (n : ℕ) → n ≡ placing_with p → (n ≡ 0 → ⊥) → n ≡ standing_with p
  unfolding standing_with
  placing-stands n e h = sym (rw (← e, ne_eqb n 0 h))

  module _ (z : placing_with p ≡ 0) (x : Bool) (e : x ≡ other_in_check p) where
    pub check-stands : x ≡ true → 6 ≡ standing_with p
    unfolding standing_with
    check-stands h = sym (rw (z, sym e ∙ h))

    pub none-stands : x ≡ false → standing_with p ≡ 0
    unfolding standing_with
    none-stands h = rw (z, sym e ∙ h)

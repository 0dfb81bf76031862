-- Refusals 1 to 6 and 18 by the chain to 5 and by check, found apart.
use Rattle.std.specs.Prelude.{◌≡◌, true, false, ◌-◌}
use Rattle.std.proofs.Common.{eq-eqb, ne_eqb}
use Rattle.rules.specs.Rules.{in_check}
use Rattle.position.specs.declared.Position.{Position}
use Rattle.position.specs.Keyed.{board_of}
use Rattle.position.specs.Refusals.{placing_with, standing_with}

module _ (p : Position) where
  pub standing-refused : (placing_with p ≡ 0 → ⊥) → placing_with p ≡ standing_with p
  unfolding standing_with
  standing-refused n = rw (ne_eqb (placing_with p) 0 n)

  module _ (z : placing_with p ≡ 0) where
    pub standing-check : in_check (board_of p) (1 - p.side) ≡ true → 6 ≡ standing_with p
    unfolding standing_with
    standing-check h = rw (eq-eqb (placing_with p) 0 z, h)

    pub standing-none : in_check (board_of p) (1 - p.side) ≡ false → 0 ≡ standing_with p
    unfolding standing_with
    standing-none h = rw (eq-eqb (placing_with p) 0 z, h)

-- How deep the lent tables go. Definitions only.
use Rattle.std.specs.Prelude.{◌≡◌, List, ℕ, ◌+◌, ◌<◌, leb}
use Rattle.position.specs.declared.Men.{Men}
use Rattle.position.specs.Posed.{material_for}
use Rattle.four_men.specs.Lending.{lent, borrowed}
use Rattle.four_men.specs.Reading.{holds_depth}

-- the greatest byte of the lent tables says which depths they hold
pub record Deepest (m : Men) (first second : List ℕ) (byte : ℕ) : Type 0 where
  pub small : byte < 256
  pub holds : (k : ℕ) → holds_depth (borrowed (material_for m) (lent first second)) k ≡ leb (2 + k) byte

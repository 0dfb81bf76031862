-- How many squares a piece attacks at most.
use Rattle.std.specs.Prelude.{cond, ℕ, eqb}

abbrev pub most : ℕ → ℕ
most kind = cond (eqb kind 5) 8 27

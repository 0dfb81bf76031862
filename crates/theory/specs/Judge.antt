-- A position's byte compared with a successor's: one that refutes it. Definitions only.
use Rattle.std.specs.Prelude.{Bool, cond, ◌&&◌, ℕ, ◌-◌, ◌%◌, leb, eqb}
use Rattle.theory.specs.Verdict.{spoils}

-- With the byte c at a successor the byte b is not required: a draw wants no loss there, a depth nothing that spoils it.
unfoldable pub refutes : ℕ → ℕ → Bool
refutes b c = cond (leb b 1) (eqb (c % 2) 0 && leb 2 c) (spoils (b - 2) c)

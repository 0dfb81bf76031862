-- The empty board. Definitions only.
use Rattle.std.specs.Prelude.{Bool, false, ℕ}

-- no square is occupied
abbrev pub nothing : ℕ → Bool
nothing u = false

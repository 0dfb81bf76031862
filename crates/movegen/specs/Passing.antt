-- A test of squares, by what its calls may answer. Definitions only.
use Rattle.std.specs.Prelude.{◌≡◌, Bool, T, ℕ, ◌<◌}
use Rattle.board.specs.Sets.{has}

-- at each square of the set, whatever a call answers is p
abbrev pub Tells : (ℕ → Bool → Type 0) → ℕ → (ℕ → Bool) → Type 0
Tells post set p = (s : ℕ) → s < 64 → T (has set s) → (b : Bool) → post s b → b ≡ p s

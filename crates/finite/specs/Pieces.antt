-- A piece of a list: that it lies at a place, and a list with it written over a place. Definitions only.
use Rattle.std.specs.Prelude.{◌≡◌, List, ◌++◌, ℕ, ◌+◌, length, take, drop}

-- p lies in s at the place
unfoldable pub Lies : List ℕ → ℕ → List ℕ → Type 0
Lies s at p = drop at s ≡ p ++ drop (at + length p) s

-- p written over what stands at the place; the rest stays
unfoldable pub over : List ℕ → ℕ → List ℕ → List ℕ
over s at p = take at s ++ (p ++ drop (length p) (drop at s))

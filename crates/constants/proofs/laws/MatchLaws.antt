-- The last arm of a `match` on a number whose other arms are 0 up to n.
use Rattle.std.specs.Prelude.{◌≡◌, ℕ, zero, suc, ◌≤◌}
use Rattle.std.proofs.Common.{arith}

-- x is none of them, as the arm's need says it
abbrev pub NoneOf : ℕ → ℕ → Type 0
NoneOf zero x = Unit
NoneOf (suc n) x = NoneOf n x × (x ≡ n → ⊥)

-- so it is not below n
pub past : (n x : ℕ) → NoneOf n x → n ≤ x
past zero x o = omega arith
past (suc n) x o = let h = past n x o.0 in omega (arith, o.1)

-- A run of numbers, as a list; and one of them that passes a test, as a loop over the run finds it.
use Rattle.std.specs.Prelude.{◌≡◌, Bool, false, ◌||◌, List, [], ◌∷◌}
use Rattle.std.proofs.Common.{sym, ⊎_elim, eq-or-lt_of_le}
use mathlib.Core.List.Memᴰ
use Prim.Native.Nat.{ℕ, zero, suc, ◌+◌, ◌-◌, ◌≤◌, ◌<◌}
use Rattle.std.proofs.Math.Numerals.{add-one}
use native.Mathlib.Omega.{arith}
use Rattle.finite.specs.Members.{◌∈◌, any}

-- the n numbers from k on
unfoldable pub numbers : ℕ → ℕ → List ℕ
numbers zero k = []
numbers (suc n) k = k ∷ numbers n (suc k)

pub numbers-in : (n k x : ℕ) → k ≤ x → x < k + n → x ∈ numbers n k
unfolding numbers
numbers-in zero k x l h = absurd (omega arith)
numbers-in (suc n) k x l h =
    ⊎_elim (λ (e : k ≡ x). Memᴰ.head (sym e))
    (λ (q : k < x). Memᴰ.tail (numbers-in n (suc k) x q (omega arith))) (eq-or-lt_of_le l)

pub numbers-out : (n k x : ℕ) → x ∈ numbers n k → (k ≤ x) × (x < k + n)
unfolding numbers
numbers-out zero k x m = absurd (Memᴰ.not-nil m)
numbers-out (suc n) k x m =
    ⊎_elim (λ (e : x ≡ k). (omega arith, omega arith))
    (λ (i : x ∈ numbers n (suc k)). let r = numbers-out n (suc k) x i in let a = r.0 in let b = r.1 in
    (omega arith, omega arith))
    (Memᴰ.cases_cons m)

-- one of the numbers from k up to e passes: by what the first of them is
module _ (f : ℕ → Bool) (k e : ℕ) where
  pub any-end : e ≤ k → any f (numbers (e - k) k) ≡ false
  unfolding any numbers
  any-end h = let z : e - k ≡ 0 = omega arith in rw z

  pub any-first : k < e → any f (numbers (e - k) k) ≡ (f k || any f (numbers (e - (k + 1)) (k + 1)))
  unfolding any numbers
  any-first h = let z : e - k ≡ suc (e - (k + 1)) = omega arith in rw (z, add-one k)

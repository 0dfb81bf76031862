-- The digits of a number name it; a number of five digits, written with its check, is right.
use Rattle.std.specs.Prelude.{◌≡◌, refl, List, [], ◌∷◌, ◌++◌, ℕ, zero, suc, ◌+◌, ◌*◌, ◌/◌, ◌%◌, ◌^◌, ◌<◌, T, length, get_or}
use Rattle.std.proofs.Common.{ap, ◌∙◌, add-one, arith, lit<, length-append}
use Rattle.check_digits.specs.Check.{reading, right, check_after, with_check, digits}
use Rattle.check_digits.proofs.laws.OneCheck.{check-range, check-right}
use Rattle.check_digits.proofs.laws.Finding.{Digits}

reading-last : (ds : List ℕ) (n d : ℕ) → reading n (ds ++ (d ∷ [])) ≡ reading n ds * 10 + d
unfolding reading
reading-last [] n d = refl
reading-last (x ∷ ds) n d = reading-last ds (n * 10 + x) d

-- the last k digits name the number, where it has no more
pub digits-read : (k n : ℕ) → n < 10 ^ k → reading 0 (digits k n) ≡ n
unfolding digits reading
digits-read zero n h = omega arith
digits-read (suc k) n h =
    let s : n / 10 < 10 ^ k = omega arith in
    reading-last (digits k (n / 10)) 0 (n % 10) ∙ ap (λ (m : ℕ). m * 10 + n % 10) (digits-read k (n / 10) s)
    ∙ omega arith

get_d-last : (ds : List ℕ) (d k : ℕ) → Digits ds → d < 10 → get_or (ds ++ (d ∷ [])) k 0 < 10
get_d-last [] d zero h l = l
get_d-last [] d (suc k) h l = lit< tt
get_d-last (x ∷ ds) d zero h l = h 0
get_d-last (x ∷ ds) d (suc k) h l = get_d-last ds d k (λ j. h (suc j)) l

pub digits-small : (k n : ℕ) → Digits (digits k n)
unfolding digits
digits-small zero n i = lit< tt
digits-small (suc k) n i = get_d-last (digits k (n / 10)) (n % 10) i (digits-small k (n / 10)) (omega arith)

pub digits-length : (k n : ℕ) → length (digits k n) ≡ k
unfolding digits
digits-length zero n = refl
digits-length (suc k) n =
    length-append (digits k (n / 10)) (n % 10 ∷ []) ∙ ap (λ (m : ℕ). m + 1) (digits-length k (n / 10)) ∙ add-one k

-- a number of five digits, written with its check: seven digits that name both, and are right
pub written-reads : (n : ℕ) → n < 100000 → reading 0 (digits 7 (with_check n)) ≡ with_check n
unfolding with_check
written-reads n h = let r = check-range n in digits-read 7 (100 * n + check_after n) (omega arith)

pub written-right : (n : ℕ) → n < 100000 → T (right (digits 7 (with_check n)))
unfolding right
written-right n h = rw (written-reads n h) (check-right n)

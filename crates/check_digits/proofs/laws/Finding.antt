-- What the check digits find, for any number of digits and at any place: one altered digit and two unequal neighbours exchanged are never right,
-- since 10 can be cancelled modulo 97.
use Rattle.std.specs.Prelude.{◌≡◌, List, [], ◌∷◌, ℕ, zero, suc, ◌+◌, ◌-◌, ◌*◌, ◌/◌, ◌%◌, ◌<◌, ◌≤◌, T, length, get_or, set}
use Rattle.std.proofs.Common.{sym, ◌∙◌, ⊎_elim, le_of_suc-le-suc, not-suc-le-zero, arith}
use Rattle.finite.specs.Truth.{le-or-lt}
use Rattle.check_digits.specs.Check.{reading, right, exchanged}
use Rattle.check_digits.proofs.laws.OneCheck.{right-facts}

-- each is a digit
abbrev pub Digits : List ℕ → Type 0
Digits ds = (k : ℕ) → get_or ds k 0 < 10

-- ---- the arithmetic of 97

-- 10 is cancelled modulo 97: 680 is one more than 7 x 97
cancelled : (z w : ℕ) → 10 * z ≡ 97 * w → z < 97 → z ≡ 0
cancelled z w e h = let f : z ≡ 97 * (68 * w - 7 * z) = omega arith in omega arith

no_more : (m n d : ℕ) → (m * 10 + d) % 97 ≡ (n * 10 + d) % 97 → n % 97 ≤ m % 97
no_more m n d e = ⊎_elim (λ h. h) (λ h. gap h) (le-or-lt (n % 97) (m % 97))
  where
    gap : m % 97 < n % 97 → n % 97 ≤ m % 97
    gap h =
        let f = cancelled (n % 97 - m % 97) ((n * 10 + d) / 97 + 10 * (m / 97) - ((m * 10 + d) / 97 + 10 * (n / 97)))
        (omega arith) (omega arith) in omega arith

-- what stands before the same digits leaves the same, where the whole does
same-before : (ds : List ℕ) (m n : ℕ) → reading m ds % 97 ≡ reading n ds % 97 → m % 97 ≡ n % 97
unfolding reading
same-before [] m n e = e
same-before (d ∷ ds) m n e =
    let f = same-before ds (m * 10 + d) (n * 10 + d) e in
    let a = no_more m n d f in
    let b = no_more n m d (sym f) in omega arith

-- 9 times a difference of digits is no multiple of 97
nine : (z k : ℕ) → 9 * z ≡ 97 * k → z < 10 → z ≡ 0
nine z k e h = let f : k ≡ 0 = omega arith in omega arith

no-greater : (m x y : ℕ) → y < 10 → ((m * 10 + x) * 10 + y) % 97 ≡ ((m * 10 + y) * 10 + x) % 97 → y ≤ x
no-greater m x y h e = ⊎_elim (λ l. l) (λ l. gap l) (le-or-lt y x)
  where
    gap : x < y → y ≤ x
    gap l = let f =
        nine (y - x) (((m * 10 + y) * 10 + x) / 97 - ((m * 10 + x) * 10 + y) / 97) (omega arith) (omega arith) in
        omega arith

-- ---- one digit altered

-- one digit of digits that leave the same is the same
same-digit : (ds : List ℕ) (n i x : ℕ) → i < length ds → get_or ds i 0 < 10 → x < 10
    → reading n ds % 97 ≡ reading n (set ds i x) % 97 → get_or ds i 0 ≡ x
unfolding reading
same-digit [] n i x l h k e = absurd (not-suc-le-zero l)
same-digit (d ∷ ds) n zero x l h k e = let f = same-before ds (n * 10 + d) (n * 10 + x) e in omega arith
same-digit (d ∷ ds) n (suc i) x l h k e = same-digit ds (n * 10 + d) i x (le_of_suc-le-suc l) h k e

-- "in a number with its right check one altered digit .. is always refused"
pub altered-wrong : (ds : List ℕ) (i x : ℕ) → Digits ds → i < length ds → x < 10 → (get_or ds i 0 ≡ x → ⊥) → T (right ds)
    → T (right (set ds i x)) → ⊥
unfolding right
altered-wrong ds i x h l k other t u =
    other (same-digit ds 0 i x l (h i) k
    ((right-facts (reading 0 ds) t).leaves ∙ sym (right-facts (reading 0 (set ds i x)) u).leaves))

-- ---- two neighbours exchanged

-- two neighbours that may be exchanged, and leave the same, are equal
same-neighbours : (ds : List ℕ) (n i : ℕ) → suc i < length ds → Digits ds
    → reading n ds % 97 ≡ reading n (exchanged i ds) % 97 → get_or ds i 0 ≡ get_or ds (suc i) 0
unfolding reading exchanged
same-neighbours [] n i l h e = absurd (not-suc-le-zero l)
same-neighbours (x ∷ []) n zero l h e = absurd (not-suc-le-zero (le_of_suc-le-suc l))
same-neighbours (x ∷ y ∷ ds) n zero l h e =
    let f = same-before ds ((n * 10 + x) * 10 + y) ((n * 10 + y) * 10 + x) e in
    let a = no-greater n x y (h 1) f in
    let b = no-greater n y x (h 0) (sym f) in omega arith
same-neighbours (x ∷ ds) n (suc i) l h e = same-neighbours ds (n * 10 + x) i (le_of_suc-le-suc l) (λ k. h (suc k)) e

-- "or two unequal neighbours exchanged, is always refused"
pub exchanged-wrong : (ds : List ℕ) (i : ℕ) → Digits ds → suc i < length ds → (get_or ds i 0 ≡ get_or ds (suc i) 0 → ⊥)
    → T (right ds) → T (right (exchanged i ds)) → ⊥
unfolding right
exchanged-wrong ds i h l unequal t u =
    unequal (same-neighbours ds 0 i l h
    ((right-facts (reading 0 ds) t).leaves ∙ sym (right-facts (reading 0 (exchanged i ds)) u).leaves))

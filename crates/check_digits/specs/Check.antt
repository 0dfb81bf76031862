-- Check digits on typed numbers (02, P2): "two check digits after the five, by ISO 7064 MOD 97-10: the seven digits as one number leave 1 on
-- division by 97, and the check lies between 02 and 98". Definitions only.
use Rattle.std.specs.Prelude.{Bool, ◌&&◌, List, [], ◌∷◌, ◌++◌, map, ℕ, zero, suc, ◌+◌, ◌-◌, ◌*◌, ◌/◌, ◌%◌, leb, eqb}
use Prim.Native.Char.{code}

-- ---- the test

-- a number leaves 1 on division by 97, and the check, its last two digits, lies between 02 and 98
unfoldable pub right_number : ℕ → Bool
right_number n = eqb (n % 97) 1 && (leb 2 (n % 100) && leb (n % 100) 98)

-- the number that digits name, read from the left: n is what the digits before them name
unfoldable pub reading : ℕ → List ℕ → ℕ
reading n [] = n
reading n (d ∷ ds) = reading (n * 10 + d) ds

-- digits that end in their right check
unfoldable pub right : List ℕ → Bool
right ds = right_number (reading 0 ds)

-- ---- a number with its check

-- the check of a number
unfoldable pub check_after : ℕ → ℕ
check_after n = 98 - (100 * n) % 97

-- a number and its check, as one number
unfoldable pub with_check : ℕ → ℕ
with_check n = 100 * n + check_after n

-- the last k digits of a number
unfoldable pub digits : ℕ → ℕ → List ℕ
digits zero n = []
digits (suc k) n = digits k (n / 10) ++ (n % 10 ∷ [])

-- the same as bytes
unfoldable pub digit_bytes : ℕ → ℕ → List ℕ
digit_bytes k n = map (λ d. code "0" + d) (digits k n)

-- ---- a slip of the hand

-- "two .. neighbours exchanged": those at i and after it; none where the list ends before
unfoldable pub exchanged : ℕ → List ℕ → List ℕ
exchanged i [] = []
exchanged zero (x ∷ []) = x ∷ []
exchanged zero (x ∷ y ∷ xs) = y ∷ x ∷ xs
exchanged (suc i) (x ∷ xs) = x ∷ exchanged i xs

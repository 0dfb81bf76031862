-- The request of a line with the shape of a number line, by its check and its man, as the code finds them.
use Rattle.std.specs.Prelude.{◌≡◌, true, false, List, [], ◌∷◌, ℕ, ◌+◌, ◌*◌, ◌<◌, ◌≤◌, get_or, length, take, drop, map, Err, Ok}
use Rattle.std.proofs.Common.{arith}
use borrow.Author.Tests.{le-leb, lt-leb}
use Rattle.check_digits.specs.Check.{reading, right_number}
use Rattle.lines.specs.declared.Request.{Request}
use Rattle.lines.specs.Grammar.{digit_of, kind_named, five_digits, typed_check, seven_digits, number_request}

-- ---- the line's digits, read as one number each

pub five-read : (line : List ℕ) → length line ≡ 11 → reading 0 (map digit_of (take 5 (drop 4 line))) ≡ five_digits line
unfolding reading five_digits
five-read (a ∷ b ∷ c ∷ d ∷ e ∷ f ∷ g ∷ h ∷ i ∷ rest) l = omega arith
five-read _ l = absurd (omega arith)

pub check-read : (line : List ℕ) → length line ≡ 11 → reading 0 (map digit_of (take 2 (drop 9 line))) ≡ typed_check line
unfolding reading typed_check
check-read (a ∷ b ∷ c ∷ d ∷ e ∷ f ∷ g ∷ h ∷ i ∷ j ∷ k ∷ []) l = omega arith
check-read _ l = absurd (omega arith)

-- ---- its request

module _ (line : List ℕ) (five check : ℕ) (e : five ≡ five_digits line) (f : check ≡ typed_check line) where
  pub wrong-check : right_number (five * 100 + check) ≡ false → Err 13 ≡ number_request line
  unfolding number_request seven_digits
  wrong-check w = rw (← e, ← f, w)

  module _ (kind : ℕ) (m : kind ≡ kind_named (get_or line 0 0)) (r : right_number (five * 100 + check) ≡ true) where
    pub right-man : kind < 4 → Ok (Request.Back kind five) ≡ number_request line
    unfolding number_request seven_digits
    right-man h = rw (← e, ← f, ← m, r, lt-leb 4 kind h)

    pub wrong-man : 4 ≤ kind → Err 1 ≡ number_request line
    unfolding number_request seven_digits
    wrong-man h = rw (← e, ← f, ← m, r, le-leb 4 kind h)

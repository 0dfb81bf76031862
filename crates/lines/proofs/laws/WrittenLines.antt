-- A right number line names its man's number, and its check is the one that its number has; a number written with its check is a right number
-- line, and leads back.
use Rattle.std.specs.Prelude.{◌≡◌, List, [], ◌∷◌, map, ℕ, suc, ◌+◌, ◌*◌, ◌<◌, ◌≤◌, get_or, Err, Ok}
use Rattle.std.proofs.Math.Path.{refl, ap}
use Rattle.std.proofs.Common.{ap₂, subst, ◌∙◌}
use Rattle.std.proofs.Math.Bool.{true}
use Prim.Native.Char.{code}
use native.Mathlib.Omega.{arith}
use Rattle.std.proofs.Math.Dec.{T}
use borrow.Author.Tests.{le-leb, lt-leb, ne_eqb}
use Rattle.finite.specs.Truth.{and_both, true_of}
use Rattle.check_digits.specs.Check.{reading, right_number, check_after, with_check, digits, digit_bytes}
use Rattle.check_digits.proofs.laws.Finding.{Digits}
use Rattle.check_digits.proofs.laws.OneCheck.{check-range, check-right, check-only}
use Rattle.check_digits.proofs.laws.DigitLaws.{digits-small, written-reads}
use Rattle.lines.specs.declared.Request.{Request}
use Rattle.lines.specs.Grammar.{fits_place, has_shape, position_shape, number_shape, kind_named, digit_of, five_digits, typed_check, seven_digits, number_request, request_of}
use Rattle.lines.proofs.laws.Shapes.{shape-length, shape-longer}
use Rattle.lines.proofs.laws.Requests.{digit-most}
use Rattle.lines.specs.Typed.{RightLine, number_line}
use Rattle.lines.proofs.laws.TypedLaws.{seven-reads}

-- ---- a right number line

check-most : (line : List ℕ) → typed_check line ≤ 99
unfolding typed_check
check-most line = omega (arith, digit-most (get_or line 9 0), digit-most (get_or line 10 0))

module _ (line : List ℕ) (r : RightLine line) where
  -- it asks for the position of its man's number
  pub right-request : kind_named (get_or line 0 0) < 4
      → request_of line ≡ Ok (Request.Back (kind_named (get_or line 0 0)) (five_digits line))
  unfolding request_of number_request
  right-request h =
      let s : has_shape number_shape line ≡ true = true_of r.shaped in
      let e = shape-length number_shape line s in
      let t : right_number (seven_digits line) ≡ true = true_of r.right in
      rw (
        shape-longer position_shape line (λ d. absurd (omega (arith, d))),
        s,
        t,
        lt-leb 4 (kind_named (get_or line 0 0)) h,
      )

  -- or is refused 1
  pub right-refused : 4 ≤ kind_named (get_or line 0 0) → request_of line ≡ Err 1
  unfolding request_of number_request
  right-refused h =
      let s : has_shape number_shape line ≡ true = true_of r.shaped in
      let e = shape-length number_shape line s in
      let t : right_number (seven_digits line) ≡ true = true_of r.right in
      rw (
        shape-longer position_shape line (λ d. absurd (omega (arith, d))),
        s,
        t,
        le-leb 4 (kind_named (get_or line 0 0)) h,
      )

  -- one check for each number
  pub right-check : typed_check line ≡ check_after (five_digits line)
  unfolding seven_digits
  right-check =
      let e : five_digits line * 100 + typed_check line ≡ 100 * five_digits line + typed_check line = omega arith in
      check-only (five_digits line) (typed_check line) (omega (arith, check-most line))
      (subst (λ (n : ℕ). T (right_number n)) e r.right)

-- ---- a number written with its check

digit-byte : (d : ℕ) → d < 10 → T (fits_place (code "0") (code "0" + d))
unfolding fits_place
digit-byte d h = rw (le-leb 48 (48 + d) (omega arith), le-leb (48 + d) 57 (omega arith)) tt

digit-back : (d : ℕ) → d < 10 → digit_of (code "0" + d) ≡ d
unfolding digit_of
digit-back d h = rw (le-leb 48 (48 + d) (omega arith), le-leb (48 + d) 57 (omega arith)) (omega arith)

-- the bytes of digits fit digits' places, and name the digits
bytes-shaped : (ds : List ℕ) → Digits ds → T (has_shape (map (λ d. code "0") ds) (map (λ d. code "0" + d) ds))
unfolding has_shape
bytes-shaped [] h = tt
bytes-shaped (d ∷ ds) h =
    and_both (fits_place (code "0") (code "0" + d)) (has_shape (map (λ d. code "0") ds) (map (λ d. code "0" + d) ds))
    (digit-byte d (h 0)) (bytes-shaped ds (λ k. h (suc k)))

bytes_back : (ds : List ℕ) → Digits ds → map digit_of (map (λ d. code "0" + d) ds) ≡ ds
bytes_back [] h = refl
bytes_back (d ∷ ds) h = ap₂ (λ (x : ℕ) (xs : List ℕ). x ∷ xs) (digit-back d (h 0)) (bytes_back ds (λ k. h (suc k)))

letter-fits : (letter : ℕ) → (letter ≡ code " " → ⊥) → T (fits_place (code ".") letter)
unfolding fits_place
letter-fits letter h = rw (ne_eqb letter (code " ") h) tt

pub no-space : (letter : ℕ) → kind_named letter < 4 → letter ≡ code " " → ⊥
unfolding kind_named
no-space letter h e = let f : kind_named (code " ") < 4 = subst (λ (b : ℕ). kind_named b < 4) e h in omega arith

module _ (letter n : ℕ) (h : n < 100000) where
  written-seven : seven_digits (number_line letter n) ≡ with_check n
  unfolding digit_bytes digits
  written-seven = seven-reads (number_line letter n) refl
      ∙ ap (reading 0) (bytes_back (digits 7 (with_check n)) (digits-small 7 (with_check n))) ∙ written-reads n h

  -- "the part that writes a number with its check": what it writes is right
  pub written-line : (letter ≡ code " " → ⊥) → RightLine (number_line letter n)
  unfolding digit_bytes digits has_shape fits_place
  written-line o = record {
    shaped = and_both (fits_place (code ".") letter) _ (letter-fits letter o)
        (bytes-shaped (digits 7 (with_check n)) (digits-small 7 (with_check n)));
    right = rw written-seven (check-right n);
  }

  written-five : five_digits (number_line letter n) ≡ n
  unfolding seven_digits with_check
  written-five = let r = check-range n in omega (arith, written-seven, check-most (number_line letter n))

  -- and leads back
  pub written-request : kind_named letter < 4 → request_of (number_line letter n) ≡ Ok (Request.Back (kind_named letter) n)
  written-request m = right-request (number_line letter n) (written-line (no-space letter m)) m
      ∙ ap ((λ x0. Ok (Request.Back (kind_named letter) x0))) written-five

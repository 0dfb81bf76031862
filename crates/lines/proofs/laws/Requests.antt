-- What a number line's request carries is in range.
use Rattle.std.specs.Prelude.{Bool, true, false, cond, List, ℕ, ◌<◌, ◌≤◌, T, leb, get_or, Err, Ok, Result}
use Rattle.std.proofs.Common.{arith, leb-true, leb-false}
use Rattle.finite.specs.Truth.{by-test, fails, true_of, and_right}
use Rattle.check_digits.specs.Check.{right_number}
use Rattle.lines.specs.declared.Request.{Request}
use Rattle.lines.specs.Grammar.{between, digit_of, kind_named, five_digits, seven_digits, has_shape, position_shape, number_shape, keyed_of, number_request, request_of}

-- what holds of what a request carries; nothing of a refusal, nor of a position, whose refusals are its own
abbrev pub Carried : Result Request ℕ → Type 0
Carried (Ok (Request.LookUp p)) = Unit
Carried (Ok (Request.Back kind number)) = (kind < 4) × (number < 100000)
Carried (Err n) = Unit

under : (k n : ℕ) → (T (leb k n) → ⊥) → n < k
under k n f = leb-false k n (fails (leb k n) f)

pub digit-most : (b : ℕ) → digit_of b ≤ 9
unfolding digit_of
digit-most b = by-test (between 48 57 b)
    (λ t. let h = leb-true b 57 (true_of (and_right (leb 48 b) (leb b 57) t)) in
    rw (true_of {b = between 48 57 b} t) (omega arith))
    (λ f. rw (fails (between 48 57 b) f) (omega arith))

number-carried : (line : List ℕ) → Carried (number_request line)
unfolding number_request five_digits
number-carried line =
    by-test (right_number (seven_digits line))
    (λ r. rw (true_of {b = right_number (seven_digits line)} r)
    (by-test (leb 4 (kind_named (get_or line 0 0))) (λ t. rw (true_of {b = leb 4 (kind_named (get_or line 0 0))} t) tt)
    (λ f. rw (fails (leb 4 (kind_named (get_or line 0 0))) f) (
      under 4 (kind_named (get_or line 0 0)) f,
      omega (
        arith,
        digit-most (get_or line 4 0),
        digit-most (get_or line 5 0),
        digit-most (get_or line 6 0),
        digit-most (get_or line 7 0),
        digit-most (get_or line 8 0),
      ),
    ))))
    (λ w. rw (fails (right_number (seven_digits line)) w) tt)

-- of any line whatever
pub carried : (line : List ℕ) → Carried (request_of line)
unfolding request_of
carried line = pick (has_shape position_shape line) (has_shape number_shape line)
  where
    pick : (a b : Bool)
        → Carried (cond a (Ok (Request.LookUp (keyed_of line))) (cond b (number_request line) (Err 12)))
    pick true b = tt
    pick false true = number-carried line
    pick false false = tt

-- Each number has exactly one right check.
use Rattle.std.specs.Prelude.{◌≡◌, ◌&&◌, ℕ, ◌+◌, ◌-◌, ◌*◌, ◌%◌, ◌<◌, ◌≤◌, T, leb, eqb}
use Rattle.std.proofs.Common.{arith, leb→le, eqb→eq, eq-eqb, le-leb}
use Rattle.finite.specs.Truth.{and_left, and_right}
use Rattle.check_digits.specs.Check.{right_number, check_after, with_check}

-- the test as facts, and back
pub record Right (n : ℕ) : Type 0 where
  pub leaves : n % 97 ≡ 1
  pub least : 2 ≤ n % 100
  pub most : n % 100 ≤ 98

pub right-facts : (n : ℕ) → T (right_number n) → Right n
unfolding right_number
right-facts n t =
    let a = eqb (n % 97) 1 in
    let b = leb 2 (n % 100) in
    let c = leb (n % 100) 98 in
    let u = and_right a (b && c) t in
    record {
      leaves = eqb→eq (n % 97) 1 (and_left a (b && c) t);
      least = leb→le 2 (n % 100) (and_left b c u);
      most = leb→le (n % 100) 98 (and_right b c u);
    }

facts-right : (n : ℕ) → Right n → T (right_number n)
unfolding right_number
facts-right n f = rw (eq-eqb (n % 97) 1 f.leaves, le-leb 2 (n % 100) f.least, le-leb (n % 100) 98 f.most) tt

pub check-range : (n : ℕ) → (2 ≤ check_after n) × (check_after n ≤ 98)
unfolding check_after
check-range n = (omega arith, omega arith)

pub check-right : (n : ℕ) → T (right_number (with_check n))
unfolding check_after with_check
check-right n =
    facts-right (100 * n + (98 - (100 * n) % 97))
    (record { leaves = omega arith; least = omega arith; most = omega arith })

pub check-only : (n c : ℕ) → c < 100 → T (right_number (100 * n + c)) → c ≡ check_after n
unfolding check_after
check-only n c h t = let f = right-facts (100 * n + c) t in omega arith

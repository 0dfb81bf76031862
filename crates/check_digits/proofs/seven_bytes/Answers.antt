-- `check_digits::seven_bytes` meets its contract, digit by digit.
use borrow.Author.Rules.{rules}
use Rattle.check_digits.specs.Check.{digit_bytes, digits, with_check}
use Rattle.check_digits.proofs.seven_bytes.Goals as goal

pub returns : goal.returns
unfolding digit_bytes digits with_check
returns c =
    simp (
      c.digit.ensures,
      c.digit-2.ensures,
      c.digit-3.ensures,
      c.digit-4.ensures,
      c.digit-5.ensures,
      c.digit-6.ensures,
      c.digit-7.ensures,
      c.check_after.ensures,
    )

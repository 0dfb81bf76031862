-- `typed_number::written_word` meets its contract, arm by arm.
use mathlib.Core.Path.{ap, sym, ◌∙◌}
use Rattle.std.proofs.Common.{arith}
use Rattle.typed.specs.Writing.{written_as}
use Rattle.sledgewren.specs.TypedWord.{written_word}
use Rattle.sledgewren.proofs.typed_number.written_word.Goals as goal

pub returns-in-Ok : goal.returns-in-Ok
unfolding written_word
returns-in-Ok c = c.digits_word.ensures ∙ sym (ap (λ w. written_word (written_as w)) c.in-Ok.is)

pub returns-in-Err : goal.returns-in-Err
unfolding written_word
returns-in-Err c = rw c.in-Err.is (omega (arith, c.number.ensures))

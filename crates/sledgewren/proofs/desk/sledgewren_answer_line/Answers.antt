-- `host::sledgewren_answer_line` meets its contract, by the test of the slip's length.
use borrow.Author.Rules.{rules}
use Rattle.sledgewren.proofs.laws.Laws.{not-replied, line-replied}
use Rattle.sledgewren.proofs.desk.sledgewren_answer_line.Goals as goal

pub returns-then-slip-ne-SLIP_BYTES : goal.returns-then-slip-ne-SLIP_BYTES
returns-then-slip-ne-SLIP_BYTES c = not-replied _ _ _ _ c.if-slip-ne-SLIP_BYTES.true

pub returns : goal.returns
returns c =
    line-replied _ _ _ _ _ _ _ c.if-slip-ne-SLIP_BYTES.false c.answer_line-reply.ensures c.copy_from_slice.ensures.after

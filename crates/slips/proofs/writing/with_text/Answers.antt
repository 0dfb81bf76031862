-- `slips::writing::with_text` meets its contract: the loop keeps that writing what is left gives what writing the whole gives.
use Rattle.std.proofs.Common.{arith, sym, ◌∙◌}
use Rattle.slips.proofs.laws.Appending.{appended-first, appended-end}
use Rattle.slips.proofs.writing.with_text.Goals as goal

pub loop-byte-preserved : goal.loop-byte-preserved
loop-byte-preserved c =
    c.loop-byte.invariant
    ∙ appended-first _ c.args.text.now c.loop-byte.byte-index c.loop-byte-test.true
    ∙ rw (sym c.with_byte-out.ensures)

pub returns : goal.returns
returns c =
    sym (c.loop-byte.invariant ∙ appended-end _ c.args.text.now c.loop-byte.byte-index (omega arith))

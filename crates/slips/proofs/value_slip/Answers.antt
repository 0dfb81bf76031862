-- `slips::value_slip` meets its contract, arm by arm.
use Rattle.std.specs.Prelude.{Ok}
use Rattle.slips.specs.Slip.{answer_text, slip_of}
use Rattle.slips.proofs.laws.Appending.{then, from}
use Rattle.slips.proofs.laws.Padding.{finished}
use Rattle.slips.proofs.laws.Lengths.{answer-line}
use Rattle.answers.specs.declared.Answer.{Answer}
use borrow.Author.Rules.{rules}
use Rattle.slips.proofs.value_slip.Goals as goal

pub returns-in-Win : goal.returns-in-Win
unfolding answer_text slip_of
returns-in-Win c =
    rw c.in-Win.is
    (finished _ _ _ (then _ _ _ _ _ c.number_slip.ensures c.with_advice.ensures)
    c.with_byte.ensures (answer-line (Ok (Answer.Win _ _))).most)

pub returns-in-Loss : goal.returns-in-Loss
unfolding answer_text slip_of
returns-in-Loss c =
    rw c.in-Loss.is
    (finished _ _ _ (then _ _ _ _ _ c.number_slip-in-Loss.ensures c.with_advice-in-Loss.ensures)
    c.with_byte-in-Loss.ensures (answer-line (Ok (Answer.Loss _ _))).most)

pub returns-in-Draw : goal.returns-in-Draw
unfolding answer_text slip_of
returns-in-Draw c =
    rw c.in-Draw.is
    (finished _ _ _
    (then _ _ _ _ _
    (from _ _ _ _ c.blank.ensures c.with_text.ensures)
    c.with_advice-in-Draw.ensures) c.with_byte-in-Draw.ensures (answer-line (Ok (Answer.Draw _))).most)

-- `weighing::weigh` meets its contract. The loop's invariant: the moves left, weighed with what was found, give what all give.
use Rattle.std.proofs.Common.{sym, ◌∙◌}
use Rattle.pawn_moves.proofs.laws.LoopLaws.{moves-fit, weighing-start, listed, weighing-refuted, weighing-next, weighing-met, weighing-unmet}
use Rattle.pawn_moves.proofs.weighing.weigh.Goals as goal

pub shared_ref_as_front-v-items : goal.shared_ref_as_front-v-items
shared_ref_as_front-v-items c = moves-fit _ _ c.moves_of-list.ensures

pub loop-v-init : goal.loop-v-init
loop-v-init c = weighing-start c.args.q _ _ _ _ _ c.lone.ensures c.moves_of-list.ensures

pub returns-then-refutes : goal.returns-then-refutes
returns-then-refutes c =
    let l = c.loop-v in
    weighing-refuted _ _ _ _ _ _ _ l.invariant c.loop-v-test.true _
    (λ o. c.byte_after-c.ensures o (listed _ _ _ _ _ _ _ l.invariant c.loop-v-test.true))
    (sym c.refutes.ensures ∙ c.if-refutes.true)

pub loop-v-preserved : goal.loop-v-preserved
loop-v-preserved c =
    let l = c.loop-v in
    weighing-next _ _ _ _ _ _ _ l.invariant c.loop-v-test.true _
    (λ o. c.byte_after-c.ensures o (listed _ _ _ _ _ _ _ l.invariant c.loop-v-test.true)) _
    (sym c.refutes.ensures ∙ c.if-refutes.false) (rw (c.or-best.ensures, c.then_some.ensures, c.suits.ensures))

pub returns-in-Some : goal.returns-in-Some
returns-in-Some c o = weighing-met _ _ _ _ _ _ _ c.loop-v.invariant c.loop-v-test.false o _ c.in-Some.is

pub returns-in-None : goal.returns-in-None
returns-in-None c o = weighing-unmet _ _ _ _ _ _ _ c.loop-v.invariant c.loop-v-test.false o c.in-None.is

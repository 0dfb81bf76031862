-- `filling::fill_men` meets its contract. The loop's invariant: the passes left, from the table as it stands, give what
-- all passes give.
use Rattle.filling.specs.Steps.{said_as}
use mathlib.Core.Path.{ap}
use mathlib.Core.Path.{refl, ◌∙◌}
use native.Mathlib.Omega.{arith}
use Rattle.working_back.specs.Admitted.{over}
use Rattle.working_back.proofs.laws.Admitted.{long, run_long, admitted-kept}
use Rattle.filling.proofs.laws.StepCode.{step_went, step-ended, ready-after}
use Rattle.filling.proofs.laws.FillLaws.{start-long, started-ready, filled-so}
use Rattle.filling.proofs.fill_table.fill_men.Goals as goal

pub deepest_lent-deepest-requires : goal.deepest_lent-deepest-requires
deepest_lent-deepest-requires c = (c.requires.0.ending, run_long c.args.m c.args.first.now c.args.second.now _ c.requires.0)

pub start-requires : goal.start-requires
start-requires c = (c.requires.0.ending, c.requires.0.colour, long c.args.m _ _ _ c.requires.0)

pub loop-end-init : goal.loop-end-init
loop-end-init c =
    (omega arith, refl, refl, refl, started-ready c.args.m c.args.first.now c.args.second.now _ _ c.start.ensures)

pub step_at-step-requires : goal.step_at-step-requires
step_at-step-requires c =
    let i = c.loop-end.invariant in (
      i.0,
      c.deepest_lent-deepest.ensures.small,
      admitted-kept c.args.m _ _ _ c.requires.0 _
          (i.1 ∙ start-long c.args.m c.args.first.now c.args.second.now _ _ c.start.ensures),
      λ e. (c.requires.1 e, i.4),
    )

pub shape_of-table-in-Says : goal.shape_of-table-in-Says
shape_of-table-in-Says c =
    c.step_at-step.auto.table ∙ c.loop-end.invariant.1
    ∙ start-long c.args.m c.args.first.now c.args.second.now _ _ c.start.ensures

pub returns-in-Says : goal.returns-in-Says
returns-in-Says c =
    let i = c.loop-end.invariant in
    let d = c.deepest_lent-deepest.ensures in
    let w = step-ended (over c.args.m c.args.first.now c.args.second.now) _ _ _ _ i.0 d.small i.2
    _ _ c.step_at-step.ensures _ (ap said_as c.in-Says.is) in
    filled-so c.args.m c.args.first.now c.args.second.now _ _ c.start.ensures _ c.loop-end.k
    c.loop-end.last _ _ _ d i.3 w

pub overflow_add-k : goal.overflow_add-k
overflow_add-k c = omega (arith, c.loop-end.invariant.0)

pub loop-end-smaller : goal.loop-end-smaller
loop-end-smaller c =
    let i = c.loop-end.invariant in
    let w = step_went (over c.args.m c.args.first.now c.args.second.now) _ _ _ _ i.0
    c.deepest_lent-deepest.ensures.small i.2 _ _ c.step_at-step.ensures _ (ap said_as c.in-Settled.is) in
    omega (arith, w.below)

pub loop-end-preserved : goal.loop-end-preserved
loop-end-preserved c =
    let i = c.loop-end.invariant in
    let w = step_went (over c.args.m c.args.first.now c.args.second.now) _ _ _ _ i.0
    c.deepest_lent-deepest.ensures.small i.2 _ _ c.step_at-step.ensures _ (ap said_as c.in-Settled.is) in (
      omega (arith, w.below),
      c.step_at-step.auto.table
          ∙ i.1,
      w.last-so,
      w.same
          ∙ i.3,
      ready-after (over c.args.m c.args.first.now c.args.second.now) _ _ _ w.bytes i.4,
    )

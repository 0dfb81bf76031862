-- `filling::step_from` meets its contract.
use native.Mathlib.Omega.{arith}
use Rattle.working_back.proofs.laws.Admitted.{run_long}
use Rattle.filling.proofs.laws.StepCode.{from-going-code, from-done-code, from-ten-code}
use borrow.Author.Rules.{rules}
use Rattle.filling.proofs.taking.step_from.Goals as goal

pub deepest_lent-deepest-requires : goal.deepest_lent-deepest-requires
deepest_lent-deepest-requires c = (c.requires.ending, run_long c.args.m c.args.first.now c.args.second.now _ c.requires)

pub step_at-requires : goal.step_at-requires
step_at-requires c =
    (omega (arith, c.next_depth-k.ensures), c.deepest_lent-deepest.ensures.small, c.requires, λ e. absurd cc)

pub returns-in-0 : goal.returns-in-0
returns-in-0 c =
    from-going-code _ _ _ _ _ _ _ _ c.deepest_lent-deepest.ensures.holds c.in-0.is c.next_depth-k.ensures c.step_at.ensures

pub returns-in-1 : goal.returns-in-1
returns-in-1 c = from-done-code _ _ _ _ _ c.in-1.is c.ended-end.ensures

pub returns-in_default : goal.returns-in_default
returns-in_default c = from-ten-code _ _ _ _ _ (search rules) (search rules) c.refuse.ensures

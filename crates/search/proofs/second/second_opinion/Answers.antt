-- `search::second_opinion` meets its contract. The loop's invariant: the position is decided in none of the depths below n.
use Rattle.std.proofs.lemmas.Result.{err_from_is_err_and}
use Rattle.desk_refusals.proofs.laws.Numbers.{handed-on, none-refused}
use mathlib.Core.Path.{refl, ◌∙◌}
use Rattle.std.proofs.Common.{◌+◌, arith}
use Rattle.search.proofs.laws.OpinionLaws.{served-pawnless, below_none, below_more, found_none, found-win, found-loss, opinion-refused, opinion-deep, opinion-searched}
use Rattle.search.proofs.second.second_opinion.Goals as goal

pub returns-in_err-standing_refusal : goal.returns-in_err-standing_refusal
returns-in_err-standing_refusal c =
    let p = err_from_is_err_and c.from_residual.result c.from_residual.ensures.1 in
    let x = handed-on _ _ _ _ _ c.in_err-standing_refusal.was c.standing_refusal.ensures p.1 p.2 in
    x.0 ∙ opinion-refused _ _ _ refl x.2

pub returns-then-k-gt-MOST : goal.returns-then-k-gt-MOST
returns-then-k-gt-MOST c =
    opinion-deep _ _ _ c.standing_refusal.ensures (none-refused _ _ c.in_ok-standing_refusal.was) c.if-k-gt-MOST.true

pub loop-n-init : goal.loop-n-init
loop-n-init c = below_none _

pub returns-then-n-eq1 : goal.returns-then-n-eq1
returns-then-n-eq1 c =
    opinion-searched _ _ _ c.standing_refusal.ensures (none-refused _ _ c.in_ok-standing_refusal.was) _ c.if-k-gt-MOST.false
    (found-win _ _ c.loop-n.invariant _ c.loop-n-test.true _ (c.is_decided.ensures (served-pawnless _ 0 _ c.standing_refusal.ensures (none-refused _ _ c.in_ok-standing_refusal.was)))
    c.if-is_decided.true c.if-n-eq1.true)

pub returns-then-is_decided : goal.returns-then-is_decided
returns-then-is_decided c =
    opinion-searched _ _ _ c.standing_refusal.ensures (none-refused _ _ c.in_ok-standing_refusal.was) _ c.if-k-gt-MOST.false
    (found-loss _ _ c.loop-n.invariant _ c.loop-n-test.true _ (c.is_decided.ensures (served-pawnless _ 0 _ c.standing_refusal.ensures (none-refused _ _ c.in_ok-standing_refusal.was)))
    c.if-is_decided.true c.if-n-eq1.false)

pub loop-n-preserved : goal.loop-n-preserved
loop-n-preserved c =
    below_more _ _ c.loop-n.invariant _ (c.is_decided.ensures (served-pawnless _ 0 _ c.standing_refusal.ensures (none-refused _ _ c.in_ok-standing_refusal.was))) c.if-is_decided.false

pub returns-else-is_decided : goal.returns-else-is_decided
returns-else-is_decided c =
    opinion-searched _ _ _ c.standing_refusal.ensures (none-refused _ _ c.in_ok-standing_refusal.was) _ c.if-k-gt-MOST.false
    (found_none _ (c.loop-n.n + 1)
    (below_more _ _ c.loop-n.invariant _ (c.is_decided.ensures (served-pawnless _ 0 _ c.standing_refusal.ensures (none-refused _ _ c.in_ok-standing_refusal.was))) c.if-is_decided.false)
    _ (omega arith))

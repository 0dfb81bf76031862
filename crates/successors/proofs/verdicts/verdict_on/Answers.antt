-- `successors::verdict_on` meets its contract: each return by what is weighed.
use mathlib.Core.Path.{◌∙◌}
use Rattle.successors.proofs.laws.VerdictLaws.{verdict-zero}
use Rattle.successors.proofs.laws.PlaceVerdicts.{weighed-refuted, weighed-unmet, weighed-stuck, weighed-on, weighed-met}
use Rattle.successors.proofs.verdicts.verdict_on.Goals as goal

pub returns-then-byte-eq0 : goal.returns-then-byte-eq0
returns-then-byte-eq0 c = λ w. verdict-zero _ _ _ c.if-byte-eq0.true

pub returns-in-Refuted : goal.returns-in-Refuted
returns-in-Refuted c =
    λ w. weighed-refuted _ _ w _ _ _ _ c.if-byte-eq0.false _ (c.weigh_one_or_two-weighed.ensures w) c.in-Refuted.is

pub returns-in-Unmet : goal.returns-in-Unmet
returns-in-Unmet c =
    λ w. weighed-unmet _ _ w _ _ _ _ c.if-byte-eq0.false _ (c.weigh_one_or_two-weighed.ensures w) c.in-Unmet.is

pub returns-in-Stuck : goal.returns-in-Stuck
returns-in-Stuck c =
    λ w. c.verdict_over.ensures w
    ∙ weighed-stuck _ _ w _ _ _ _ c.if-byte-eq0.false _ (c.weigh_one_or_two-weighed.ensures w) c.in-Stuck.is

pub returns-in-Met : goal.returns-in-Met
returns-in-Met c =
    λ w. let n = c.if-byte-eq0.false in
    weighed-met _ _ w _ _ _ _ n _ (c.weigh_one_or_two-weighed.ensures w) _ c.in-Met.is _ _
    (c.is_taking-takes.ensures (weighed-on _ _ w _ _ _ _ n _ (c.weigh_one_or_two-weighed.ensures w) _ c.in-Met.is))
    c.move_of.ensures

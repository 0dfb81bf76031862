-- `pawn::pawn_requires` meets its contract: by mate, or by the weighing.
use mathlib.Core.Path.{◌∙◌}
use Rattle.successors.proofs.laws.VerdictLaws.{depth-mate}
use Rattle.deciding.proofs.laws.PawnVerdicts.{depth-refuted, depth-met, depth-unmet}
use Rattle.deciding.proofs.pawn.pawn_requires.Goals as goal

pub returns-then-k-eq0 : goal.returns-then-k-eq0
returns-then-k-eq0 c = λ o. c.is_mated.ensures ∙ depth-mate _ _ _ c.if-k-eq0.true

pub returns-in-Refuted : goal.returns-in-Refuted
returns-in-Refuted c =
    λ o. depth-refuted _ _ c.args.q _ c.if-k-eq0.false _ (c.weigh-outcome.ensures o) c.in-Refuted.is

pub returns-in-Met : goal.returns-in-Met
returns-in-Met c = λ o. depth-met _ _ c.args.q _ c.if-k-eq0.false _ (c.weigh-outcome.ensures o) _ c.in-Met.is

pub returns-in-Unmet : goal.returns-in-Unmet
returns-in-Unmet c =
    λ o. depth-unmet _ _ c.args.q _ c.if-k-eq0.false _ (c.weigh-outcome.ensures o) c.in-Unmet.is

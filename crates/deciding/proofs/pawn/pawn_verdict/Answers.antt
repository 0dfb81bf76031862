-- `pawn::pawn_verdict` meets its contract: each return by the weighing that led there.
use Rattle.successors.proofs.laws.VerdictLaws.{verdict-zero}
use Rattle.deciding.proofs.laws.PawnVerdicts.{pawn-refuted, pawn-met, pawn-unmet}
use Rattle.deciding.proofs.pawn.pawn_verdict.Goals as goal

pub returns-then-byte-eq0 : goal.returns-then-byte-eq0
returns-then-byte-eq0 c = λ o. verdict-zero _ _ _ c.if-byte-eq0.true

pub returns-in-Refuted : goal.returns-in-Refuted
returns-in-Refuted c =
    λ o. pawn-refuted _ _ c.args.q _ _ (c.weigh-outcome.ensures o) c.if-byte-eq0.false c.in-Refuted.is

pub returns-in-Met : goal.returns-in-Met
returns-in-Met c =
    λ o. pawn-met _ _ c.args.q _ _ (c.weigh-outcome.ensures o) c.if-byte-eq0.false _ c.in-Met.is

pub returns-in-Unmet : goal.returns-in-Unmet
returns-in-Unmet c =
    λ o. pawn-unmet _ _ c.args.q _ _ (c.weigh-outcome.ensures o) c.if-byte-eq0.false c.in-Unmet.is _
    c.pawn_over.ensures

-- `successors::requires_byte` meets its contract: each return by what is weighed.
use mathlib.Core.Path.{refl, sym}
use Rattle.successors.proofs.laws.VerdictLaws.{verdict-zero, told-wrong, told-right}
use Rattle.successors.proofs.laws.PlaceVerdicts.{place-side, end-required, weighed-refuted, weighed-unmet, weighed-stuck, weighed-met}
use Rattle.successors.proofs.verdicts.requires_byte.Goals as goal

pub returns-then-byte-eq0 : goal.returns-then-byte-eq0
returns-then-byte-eq0 c = λ w. sym (told-wrong _ _ _ _ (verdict-zero _ _ _ c.if-byte-eq0.true) refl)

pub returns-in-Refuted : goal.returns-in-Refuted
returns-in-Refuted c =
    λ w. sym (told-wrong _ _ _ _
    (weighed-refuted _ _ w _ _ _ _ c.if-byte-eq0.false _ (c.weigh-weighed.ensures w) c.in-Refuted.is) refl)

pub returns-in-Unmet : goal.returns-in-Unmet
returns-in-Unmet c =
    λ w. sym (told-wrong _ _ _ _
    (weighed-unmet _ _ w _ _ _ _ c.if-byte-eq0.false _ (c.weigh-weighed.ensures w) c.in-Unmet.is) refl)

pub returns-in-Stuck : goal.returns-in-Stuck
returns-in-Stuck c =
    λ w. end-required _ _ _ _ (place-side _ _) (c.end_byte.ensures w) _
    (weighed-stuck _ _ w _ _ _ _ c.if-byte-eq0.false _ (c.weigh-weighed.ensures w) c.in-Stuck.is)

pub returns-in-Met : goal.returns-in-Met
returns-in-Met c =
    λ w. sym (told-right _ _ _ _ _
    (weighed-met _ _ w _ _ _ _ c.if-byte-eq0.false _ (c.weigh-weighed.ensures w) _ c.in-Met.is _ _ refl refl)
    refl).0

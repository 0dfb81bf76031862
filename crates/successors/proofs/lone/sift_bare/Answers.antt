-- `successors::sift_bare` meets its contract: each return by the tests that led there.
use mathlib.Core.Path.{sym, ◌∙◌}
use Rattle.successors.proofs.laws.JudgeLaws.{no-moves, same-refuted, same-suited, same-unmet}
use Rattle.successors.proofs.lone.sift_bare.Goals as goal

pub returns-then-targets-eq0 : goal.returns-then-targets-eq0
returns-then-targets-eq0 c = λ bytes b from goes e h. no-moves _ _ _ _ _ _ e c.if-targets-eq0.true

pub returns-then-refutes : goal.returns-then-refutes
returns-then-refutes c =
    λ bytes b from goes e h. same-refuted _ _ _ _ _ _ e _ h c.ranges.targets.fits c.if-targets-eq0.false
    (sym c.refutes.ensures ∙ c.if-refutes.true)

pub returns-then-suits : goal.returns-then-suits
returns-then-suits c =
    λ bytes b from goes e h. same-suited _ _ _ _ _ _ e _ h (sym c.refutes.ensures ∙ c.if-refutes.false)
    (sym c.suits.ensures ∙ c.if-suits.true)

pub returns : goal.returns
returns c =
    λ bytes b from goes e h. same-unmet _ _ _ _ _ _ e _ h (sym c.refutes.ensures ∙ c.if-refutes.false)
    (sym c.suits.ensures ∙ c.if-suits.false)

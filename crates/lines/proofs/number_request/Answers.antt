-- `lines::number_request` meets its contract: each return by the test that led there.
use mathlib.Core.Path.{sym, ◌∙◌}
use Rattle.lines.proofs.laws.NumberLines.{five-read, check-read, wrong-check, right-man, wrong-man}
use Rattle.lines.proofs.number_request.Goals as goal

pub returns-then-not-is_right : goal.returns-then-not-is_right
returns-then-not-is_right c =
    let line = c.args.line.now in
    wrong-check line _ _ (c.number_in-five.ensures.0 ∙ five-read line c.requires) (c.number_in-check.ensures.0 ∙ check-read line c.requires)
    (sym c.is_right.ensures ∙ c.if-not-is_right.true)

pub returns-then-kind-lt4 : goal.returns-then-kind-lt4
returns-then-kind-lt4 c =
    let line = c.args.line.now in
    right-man line _ _ (c.number_in-five.ensures.0 ∙ five-read line c.requires) (c.number_in-check.ensures.0 ∙ check-read line c.requires) _
    c.man_code-kind.ensures (sym c.is_right.ensures ∙ c.if-not-is_right.false) c.if-kind-lt4.true

pub returns : goal.returns
returns c =
    let line = c.args.line.now in
    wrong-man line _ _ (c.number_in-five.ensures.0 ∙ five-read line c.requires) (c.number_in-check.ensures.0 ∙ check-read line c.requires) _
    c.man_code-kind.ensures (sym c.is_right.ensures ∙ c.if-not-is_right.false) c.if-kind-lt4.false

-- `working_back::line_of` meets its contract.
use mathlib.Core.Path.{refl, sym, ◌∙◌}
use Rattle.working_back.proofs.laws.Lines.{unexchanged, plain-lined}
use Rattle.working_back.proofs.lines.line_of.Goals as goal

pub returns-then-f-alike : goal.returns-then-f-alike
returns-then-f-alike c =
    let x = c.args in
    let w = c.no_line.ensures x.m x.q x.taken x.to in
    (λ e. w.0, λ e. w.1)

pub returns : goal.returns
returns c =
    let x = c.args in
    let p = c.requires in
    let a = c.alike in
    let n = unexchanged x.f.exchange a.result c.if-f-alike.false in
    plain-lined x.m x.q x.taken x.to p.0 p.1 x.f n.0 (sym a.ensures ∙ n.1) _ _ c.base_of-base.ensures.0
    c.base_of-base.ensures.1 c.scale_of-scale.ensures _ refl

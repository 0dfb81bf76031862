-- `retracting::steps_back` meets its contract.
use mathlib.Core.Path.{◌≡◌, sym, ◌∙◌}
use Rattle.retracting.specs.Retracting.{loser}
use Rattle.retracting.proofs.laws.Code.{own-taken, foe-taken, steps_of}
use Rattle.retracting.proofs.laws.Stepping.{no_steps, man-steps, king-steps}
use Rattle.retracting.proofs.steps.steps_back.Goals as goal

pub returns-then-taken-loser : goal.returns-then-taken-loser
returns-then-taken-loser c =
    λ o g s.
    let x = c.args in
    let l = c.loser in
    let w = own-taken x.taken x.q.side l.result c.if-taken-loser.true in
    no_steps x.m x.q x.taken x.kind x.to g s w.0 (λ e. w.1 (l.ensures ∙ e))

pub returns-then-kind-ne-KING : goal.returns-then-kind-ne-KING
returns-then-kind-ne-KING c =
    λ o g s.
    let x = c.args in
    let l = c.loser in
    let lost : (x.taken ≡ 0 → ⊥) → loser x.m x.taken ≡ x.q.side = λ n. sym l.ensures ∙ foe-taken x.taken x.q.side l.result c.if-taken-loser.false n in
    let st = steps_of x.m x.q x.taken x.kind _ x.to g s _ _ _
    o c.targets.ensures c.minus-free.ensures in
    man-steps x.m x.q x.taken x.kind x.to g s _ _ st lost c.if-kind-ne-KING.true

pub returns : goal.returns
returns c =
    λ o g s.
    let x = c.args in
    let l = c.loser in
    let lost : (x.taken ≡ 0 → ⊥) → loser x.m x.taken ≡ x.q.side = λ n. sym l.ensures ∙ foe-taken x.taken x.q.side l.result c.if-taken-loser.false n in
    let st = steps_of x.m x.q x.taken x.kind _ x.to g s _ _ _
    o c.targets.ensures c.minus-free.ensures in
    king-steps x.m x.q x.taken x.kind x.to g s _ _ st lost c.if-kind-ne-KING.false _ _ _
    c.king_at.ensures c.targets-2.ensures c.minus.ensures

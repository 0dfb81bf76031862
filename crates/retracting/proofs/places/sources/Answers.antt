-- `retracting::sources` meets its contract.
use mathlib.Core.Path.{◌≡◌, sym, ◌∙◌}
use Rattle.rules.specs.Rules.{legal}
use Rattle.position.specs.Posed.{board_in}
use Rattle.retracting.specs.Retracting.{loser, place_before}
use Rattle.retracting.proofs.laws.Code.{no_source, no_capture, own-taken, foe-taken, mover, steps_of, sifts-none, exact}
use Rattle.retracting.proofs.places.sources.Goals as goal

pub returns-then-owner-q : goal.returns-then-owner-q
returns-then-owner-q c =
    λ g s.
    let x = c.args in
    no_source x.m x.q x.taken x.kind x.owner x.to g s c.if-owner-q.true

pub returns-then-taken-loser : goal.returns-then-taken-loser
returns-then-taken-loser c =
    λ g s.
    let x = c.args in
    let l = c.loser in
    let w = own-taken x.taken x.q.side l.result c.if-taken-loser.true in
    no_capture x.m x.q x.taken x.kind x.owner x.to g s w.0 (λ e. w.1 (l.ensures ∙ e))

pub returns-then-free-eq0 : goal.returns-then-free-eq0
returns-then-free-eq0 c =
    λ g s.
    let x = c.args in
    let l = c.loser in
    let em = mover x.m x.q x.taken x.kind x.owner x.to g s c.if-owner-q.false in
    let lost : (x.taken ≡ 0 → ⊥) → loser x.m x.taken ≡ x.q.side = λ n. sym l.ensures ∙ foe-taken x.taken x.q.side l.result c.if-taken-loser.false n in
    let st = steps_of x.m x.q x.taken x.kind x.owner x.to g s _ _ _
    (c.occupied_at-occ.ensures x.m) c.targets.ensures c.minus-free.ensures in
    exact x.m x.q x.taken x.kind x.owner x.to g s _ _ st em lost 0
    (λ i h. sifts-none c.minus-free.result i (legal (board_in x.m (place_before x.q x.taken i x.to))) c.if-free-eq0.true)

pub returns : goal.returns
returns c =
    λ g s.
    let x = c.args in
    let l = c.loser in
    let em = mover x.m x.q x.taken x.kind x.owner x.to g s c.if-owner-q.false in
    let lost : (x.taken ≡ 0 → ⊥) → loser x.m x.taken ≡ x.q.side = λ n. sym l.ensures ∙ foe-taken x.taken x.q.side l.result c.if-taken-loser.false n in
    let st = steps_of x.m x.q x.taken x.kind x.owner x.to g s _ _ _
    (c.occupied_at-occ.ensures x.m) c.targets.ensures c.minus-free.ensures in
    exact x.m x.q x.taken x.kind x.owner x.to g s _ _ st em lost _ (c.unchecking.ensures g s em lost st)

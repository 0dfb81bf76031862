-- `working_back::confirm` meets its contract.
use mathlib.Core.Path.{◌∙◌}
use Rattle.retracting.specs.Retracting.{place_before}
use Rattle.working_back.proofs.laws.Places.{tried-lost, tried-kept, told-required}
use Rattle.working_back.proofs.trying.confirm.Goals as goal

pub returns-then-not-requires_depth : goal.returns-then-not-requires_depth
returns-then-not-requires_depth c =
    let x = c.args in
    let p = c.requires in
    tried-kept x.m (place_before x.q x.taken x.s x.to) x.q x.s x.to p.2 x.first.now x.second.now x.k _ p.1 x.n p.3
    p.4 p.5
    (λ t w r. told-required x.m (place_before x.q x.taken x.s x.to) x.q x.s x.to p.2 x.first.now x.second.now x.k _ p.1 x.n p.3
    p.4 p.5 _ _ c.place_before-o.ensures c.requires_depth.ensures ∙ c.if-not-requires_depth.true)

pub returns : goal.returns
returns c =
    let x = c.args in
    let p = c.requires in
    tried-lost x.m (place_before x.q x.taken x.s x.to) x.q x.s x.to p.2 x.first.now x.second.now x.k _ p.1 x.n p.3
    p.4 p.5
    (λ t w r. told-required x.m (place_before x.q x.taken x.s x.to) x.q x.s x.to p.2 x.first.now x.second.now x.k _ p.1 x.n p.3
    p.4 p.5 _ _ c.place_before-o.ensures c.requires_depth.ensures ∙ c.if-not-requires_depth.false)

-- `working_back::lose_taking` meets its contract.
use mathlib.Core.Path.{sym, ◌∙◌}
use Rattle.retracting.specs.Retracting.{place_before}
use Rattle.working_back.proofs.laws.BareLost.{tried-taking}
use Rattle.working_back.proofs.bare.lose_taking.Goals as goal

pub returns-then-refutes : goal.returns-then-refutes
returns-then-refutes c =
    let p = c.requires in
    let x = c.args in
    tried-taking x.m (place_before x.q x.taken x.s x.to) x.q x.s x.to x.t p.3 x.first.now x.second.now x.k _ p.2 x.n p.4
    p.5 p.6 p.0 p.7 _ _ c.place_before-o.ensures c.byte_made-c.ensures (sym c.refutes.ensures ∙ c.if-refutes.true)

pub confirm-requires : goal.confirm-requires
confirm-requires c =
    let p = c.requires in
    (p.1, p.2, p.3, p.4, p.5, p.6)

pub returns : goal.returns
returns c = c.confirm.ensures

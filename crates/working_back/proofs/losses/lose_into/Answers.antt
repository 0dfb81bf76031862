-- `working_back::lose_into` meets its contract.
use mathlib.Core.Path.{refl, sym, ◌∙◌}
use Prim.Native.Nat.{◌-◌}
use native.Mathlib.Omega.{arith}
use Rattle.working_back.proofs.laws.Admitted.{admitted-kept}
use Rattle.working_back.proofs.laws.Into.{bare-told, black-king, bare-seat, tries-at, into-all, into-king}
use Rattle.working_back.proofs.losses.lose_into.Goals as goal

pub lose_bare-requires : goal.lose_bare-requires
lose_bare-requires c =
    let p = c.requires in
    let x = c.args in
    let w = bare-told x.q.side x.m.colour c.if-q-m.true in
    (p.0, p.1, p.2, p.3, c.steps_back-squares.ensures (c.occupied_at.ensures x.m) p.4 (bare-seat x.m x.q w.0), p.4, w.0, w.1, refl, p.5)

pub returns-then-q-m : goal.returns-then-q-m
returns-then-q-m c =
    let p = c.requires in
    let x = c.args in
    let w = bare-told x.q.side x.m.colour c.if-q-m.true in
    into-king x.m x.q x.taken p.4 x.first.now x.second.now x.k _ p.3 _ _ c.if-q-m.true
    (tries-at x.m x.q x.taken p.4 x.first.now x.second.now x.k _ p.3 _ _ _ _ (sym (black-king x.q w.0 (1 - x.q.side) _ refl refl)) c.lose_bare.ensures)

pub lose_king-a-requires : goal.lose_king-a-requires
lose_king-a-requires c =
    let p = c.requires in
    let x = c.args in
    (p.0, p.1, p.3, p.4)

pub lose_man-b-requires : goal.lose_man-b-requires
lose_man-b-requires c =
    let p = c.requires in
    let x = c.args in
    (p.0, p.1, admitted-kept _ _ _ _ p.3 _ c.lose_king-a.ensures.0.long, p.4)

pub lose_man-c-requires : goal.lose_man-c-requires
lose_man-c-requires c =
    let p = c.requires in
    let x = c.args in
    (p.0, p.1, admitted-kept _ _ _ _ p.3 _ (c.lose_man-b.ensures.0.long ∙ c.lose_king-a.ensures.0.long), p.4)

pub overflow_add-result : goal.overflow_add-result
overflow_add-result c = omega (arith, c.lose_king-a.ensures.0.few, c.lose_man-b.ensures.0.few)

pub overflow_add-result-2 : goal.overflow_add-result-2
overflow_add-result-2 c =
    omega (arith, c.lose_king-a.ensures.0.few, c.lose_man-b.ensures.0.few, c.lose_man-c.ensures.0.few)

pub returns : goal.returns
returns c =
    let p = c.requires in
    let x = c.args in
    into-all x.m x.q x.taken p.4 x.first.now x.second.now x.k _ p.3 _ _ _ _ _ _ c.lose_king-a.ensures c.lose_man-b.ensures c.lose_man-c.ensures

-- `working_back::win_into` meets its contract.
use mathlib.Core.Path.{ap, subst, ◌∙◌}
use mathlib.Core.Bool.{cond}
use Prim.Native.Nat.{ℕ}
use native.Mathlib.Omega.{arith}
use lib.Dec.{eqb}
use Rattle.successors.specs.Framing.{frame_for}
use Rattle.retracting.specs.Retracting.{Seat}
use Rattle.working_back.proofs.laws.Admitted.{admitted-kept}
use Rattle.working_back.proofs.laws.Into.{king-seat, tries-at, into-all, into-king}
use Rattle.working_back.proofs.wins.win_into.Goals as goal

pub win_king-a-requires : goal.win_king-a-requires
win_king-a-requires c =
    let p = c.requires in
    let x = c.args in
    let s = king-seat x.m x.q x.taken p.3 _ _ c.other-mover.ensures c.king_at-to.ensures in
    let v = subst (λ (o : ℕ). Seat x.m x.q 5 o c.king_at-to.result) c.other-mover.ensures s in
    (p.0, p.1, p.2, c.steps_back-squares.ensures (c.occupied_at-occ.ensures x.m) p.3 v, p.3, c.king_at-to.ensures ∙ ap (λ (s : ℕ). cond (eqb s 0) x.q.white x.q.black) c.other-mover.ensures)

pub returns-then-q-m : goal.returns-then-q-m
returns-then-q-m c =
    let p = c.requires in
    let x = c.args in
    let king = tries-at x.m x.q x.taken p.3 x.first.now x.second.now x.k _ p.2 _ _ _ _
    (c.king_at-to.ensures ∙ ap (λ (s : ℕ). cond (eqb s 0) x.q.white x.q.black) c.other-mover.ensures) c.win_king-a.ensures in
    into-king x.m x.q x.taken p.3 x.first.now x.second.now x.k _ p.2 _ _ c.if-q-m.true king

pub win_man-b-requires : goal.win_man-b-requires
win_man-b-requires c =
    let p = c.requires in
    let x = c.args in
    let side = ap (λ (z : ℕ). frame_for z x.q.white x.q.black) c.other-mover.ensures in
    (p.0, p.1, admitted-kept _ _ _ _ p.2 _ c.win_king-a.ensures.0.long, p.3, c.occupied_at-occ.ensures x.m, c.frame_for-f.ensures p.3.white p.3.black ∙ side)

pub win_man-c-requires : goal.win_man-c-requires
win_man-c-requires c =
    let p = c.requires in
    let x = c.args in
    let side = ap (λ (z : ℕ). frame_for z x.q.white x.q.black) c.other-mover.ensures in
    (p.0, p.1, admitted-kept _ _ _ _ p.2 _ (c.win_man-b.ensures.0.long ∙ c.win_king-a.ensures.0.long), p.3, c.occupied_at-occ.ensures x.m, c.frame_for-f.ensures p.3.white p.3.black ∙ side)

pub overflow_add-result : goal.overflow_add-result
overflow_add-result c = omega (arith, c.win_king-a.ensures.0.few, c.win_man-b.ensures.0.few)

pub overflow_add-result-2 : goal.overflow_add-result-2
overflow_add-result-2 c =
    omega (arith, c.win_king-a.ensures.0.few, c.win_man-b.ensures.0.few, c.win_man-c.ensures.0.few)

pub returns : goal.returns
returns c =
    let p = c.requires in
    let x = c.args in
    let king = tries-at x.m x.q x.taken p.3 x.first.now x.second.now x.k _ p.2 _ _ _ _
    (c.king_at-to.ensures ∙ ap (λ (s : ℕ). cond (eqb s 0) x.q.white x.q.black) c.other-mover.ensures) c.win_king-a.ensures in
    into-all x.m x.q x.taken p.3 x.first.now x.second.now x.k _ p.2 _ _ _ _ _ _ king c.win_man-b.ensures c.win_man-c.ensures

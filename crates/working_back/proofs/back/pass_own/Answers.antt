-- `working_back::pass_own` meets its contract. The loop's invariant: all have been tried that lead to a number below j with the depth before, and j is the
-- next such number or the table's end.
use Prim.Native.Nat.{◌+◌}
use native.Mathlib.Omega.{arith}
use Rattle.rules.specs.Chess.{chess}
use Rattle.working_back.specs.Admitted.{over}
use Rattle.working_back.proofs.laws.Admitted.{most, in_size, admitted-kept}
use Rattle.working_back.proofs.laws.Few.{alive-kept}
use Rattle.working_back.proofs.laws.Own.{own-start, own_turn, own-skip, own-end, place-legal, standing-live, alive-number, at-legal, within, not_last}
use Rattle.working_back.proofs.back.pass_own.Goals as goal

pub next_at-j-requires : goal.next_at-j-requires
next_at-j-requires c = omega arith

pub loop-j-init : goal.loop-j-init
loop-j-init c =
    let p = c.requires in
    let x = c.args in
    let n = c.next_at-j.ensures in (
      n.passes.inside,
      n.here,
      own-skip x.m x.first.now x.second.now x.k _ p.2 p.0 _ 0 _ 0 n.passes.later n.passes.none
          (own-start x.m x.first.now x.second.now x.k _ p.2),
      p.4,
    )

pub overflow_cast-j : goal.overflow_cast-j
overflow_cast-j c =
    let x = c.args in
    let l = c.loop-j.invariant in
    omega (arith, most _ _ _ _ c.requires.2, l.2.0.long, c.loop-j-test.true)

pub try_into-settled-requires : goal.try_into-settled-requires
try_into-settled-requires c =
    let p = c.requires in
    let x = c.args in
    let l = c.loop-j.invariant in
    let a = admitted-kept _ _ _ _ p.2 _ l.2.0.long in
    let h = c.loop-j-test.true in (
      p.0,
      p.1,
      a,
      place-legal x.m x.first.now x.second.now x.k c.loop-j.j _
          (standing-live x.m c.loop-j.j _ p.3
          (c.place_at-q.ensures p.3 a.colour (in_size x.m x.first.now x.second.now _ a _ h))
          (alive-number x.m x.first.now x.second.now _ a c.loop-j.j x.k l.3 (l.1 h))),
      l.3,
    )

pub overflow_add-settled : goal.overflow_add-settled
overflow_add-settled c =
    let l = c.loop-j.invariant in
    omega (arith, most _ _ _ _ c.requires.2, l.2.0.few, l.2.0.long, c.loop-j-test.true, c.try_into-settled.ensures.0.few)

pub overflow_add-j : goal.overflow_add-j
overflow_add-j c = omega (arith, most _ _ _ _ c.requires.2, c.loop-j.invariant.2.0.long, c.loop-j-test.true)

pub next_at-j-requires-in-loop-j : goal.next_at-j-requires-in-loop-j
next_at-j-requires-in-loop-j c = not_last _ _ _ c.loop-j-test.true c.try_into-settled.ensures.0.long

pub loop-j-smaller : goal.loop-j-smaller
loop-j-smaller c =
    omega (arith, c.loop-j.invariant.2.0.long, c.loop-j-test.true, c.next_at-j-in-loop-j.ensures.passes.later)

pub loop-j-preserved : goal.loop-j-preserved
loop-j-preserved c =
    let p = c.requires in
    let x = c.args in
    let l = c.loop-j.invariant in
    let j = c.loop-j.j in
    let a = admitted-kept _ _ _ _ p.2 _ l.2.0.long in
    let h = c.loop-j-test.true in
    let n = c.next_at-j-in-loop-j.ensures in
    let f = c.try_into-settled.ensures in
    let s = standing-live x.m j _ p.3
    (c.place_at-q.ensures p.3 a.colour (in_size x.m x.first.now x.second.now _ a _ h))
    (alive-number x.m x.first.now x.second.now _ a j x.k l.3 (l.1 h)) in (
      within _ _ _ _ n.passes.inside f.0.long l.2.0.long,
      n.here,
      own-skip x.m x.first.now x.second.now x.k _ p.2 p.0 _ (j + 1) _ _ n.passes.later n.passes.none
          (own_turn x.m x.first.now x.second.now x.k _ p.2 _ _ j _ _ l.2
          (at-legal x.m x.first.now x.second.now x.k j _ a _ _ _ h (l.1 h) s f)),
      alive-kept chess (over x.m x.first.now x.second.now) x.k 192 _ _ _ f.0 l.3,
    )

pub shape_of-table : goal.shape_of-table
shape_of-table c = c.loop-j.invariant.2.0.long

pub returns : goal.returns
returns c =
    let x = c.args in
    let l = c.loop-j.invariant in
    own-end x.m x.first.now x.second.now x.k _ c.requires.2 _ _ _ _
    (omega (arith, l.0, l.2.0.long, c.loop-j-test.false)) l.2

-- `working_back::pass_lent` meets its contract. The loop's invariant: all have been tried that lead to a number below j with the depth before, and j is the
-- next such number or the table's end.
use mathlib.Core.Path.{◌≡◌, subst}
use mathlib.Core.List.{List}
use Prim.Native.Nat.{ℕ, ◌+◌, ◌<◌}
use native.Mathlib.Omega.{arith}
use lib.ListN.{length, get_or}
use Rattle.rules.specs.Chess.{chess}
use Rattle.working_back.specs.Admitted.{over}
use Rattle.working_back.proofs.laws.Few.{alive-kept}
use Rattle.working_back.proofs.laws.Admitted.{admitted-kept}
use Rattle.working_back.proofs.laws.Captures.{lent-small, sweep-start, sweep-turn, sweep-skip, sweeps-at}
use Rattle.working_back.proofs.captures.pass_lent.Goals as goal

pub next_at-j-requires : goal.next_at-j-requires
next_at-j-requires c = omega arith

pub loop-j-init : goal.loop-j-init
loop-j-init c =
    let p = c.requires in
    let x = c.args in
    let n = c.next_at-j.ensures in
    (n.passes.inside, n.here, sweep-skip x.m x.first.now x.second.now x.k _ p.2 x.taken _ x.small.now 0 _ 0 p.6 n.passes.later n.passes.none (sweep-start x.m x.first.now x.second.now x.k _ p.2 x.taken), p.3)

pub try_lone-settled-requires : goal.try_lone-settled-requires
try_lone-settled-requires c =
    let p = c.requires in
    let x = c.args in
    let l = c.loop-j in
    let h = c.loop-j-test.true in (
      p.0,
      p.1,
      admitted-kept _ _ _ _ p.2 _ l.invariant.2.0.long,
      l.invariant.3,
      p.4,
      p.5,
      subst (λ (t : List ℕ). l.j < length t) p.6 h,
      subst (λ (t : List ℕ). get_or t l.j 0 ≡ 1 + x.k) p.6 (l.invariant.1 h),
    )

pub overflow_add-settled : goal.overflow_add-settled
overflow_add-settled c =
    let p = c.requires in
    let x = c.args in
    let all = lent-small x.m x.first.now x.second.now _ p.2 p.4 x.taken _ p.6 in
    omega (arith, all, c.loop-j.invariant.2.0.few, c.loop-j-test.true, c.try_lone-settled.ensures.0.few)

pub overflow_add-j : goal.overflow_add-j
overflow_add-j c =
    let p = c.requires in
    let x = c.args in
    let all = lent-small x.m x.first.now x.second.now _ p.2 p.4 x.taken _ p.6 in
    omega (arith, all, c.loop-j-test.true)

pub next_at-j-requires-in-loop-j : goal.next_at-j-requires-in-loop-j
next_at-j-requires-in-loop-j c = omega (arith, c.loop-j-test.true)

pub loop-j-smaller : goal.loop-j-smaller
loop-j-smaller c = omega (arith, c.loop-j-test.true, c.next_at-j-in-loop-j.ensures.passes.later)

pub loop-j-preserved : goal.loop-j-preserved
loop-j-preserved c =
    let p = c.requires in
    let x = c.args in
    let l = c.loop-j in
    let n = c.next_at-j-in-loop-j.ensures in (
      n.passes.inside,
      n.here,
      sweep-skip x.m x.first.now x.second.now x.k _ p.2 x.taken _ x.small.now (l.j + 1) _ _ p.6 n.passes.later n.passes.none
          (sweep-turn x.m x.first.now x.second.now x.k _ p.2 x.taken _ _ _ _ _ l.invariant.2 c.try_lone-settled.ensures),
      alive-kept chess (over x.m x.first.now x.second.now) x.k 192 _ _ _ c.try_lone-settled.ensures.0 l.invariant.3,
    )

pub shape_of-table : goal.shape_of-table
shape_of-table c = c.loop-j.invariant.2.0.long

pub returns : goal.returns
returns c =
    let p = c.requires in
    let x = c.args in
    let i = c.loop-j.invariant in
    let all = lent-small x.m x.first.now x.second.now _ p.2 p.4 x.taken _ p.6 in
    let e : c.loop-j.j ≡ 59136 = omega (arith, all, i.0, c.loop-j-test.false) in
    sweeps-at x.m x.first.now x.second.now x.k x.taken _ _ _ _ _ e i.2

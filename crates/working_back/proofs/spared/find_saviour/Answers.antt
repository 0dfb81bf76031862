-- `working_back::find_saviour` meets its contract. The loop's invariant: the squares left are among those asked.
use mathlib.Core.Bool.{true}
use mathlib.Core.Path.{subst⁻¹}
use Prim.Native.Nat.{ℕ}
use native.Mathlib.Omega.{arith}
use lib.Dec.{T, eqb}
use Rattle.finite.specs.Truth.{or_right}
use Rattle.board.specs.Sets.{has}
use Rattle.board.proofs.laws.LowestLaws.{lowest-first}
use Rattle.movegen.specs.Places.{place_after}
use Rattle.working_back.proofs.laws.Saved.{rest_in}
use Rattle.working_back.proofs.laws.Spared.{sparing-of}
use Rattle.working_back.proofs.spared.find_saviour.Goals as goal

pub loop-t-init : goal.loop-t-init
loop-t-init c =
    rw (c.into_iter-t-iterator.ensures.into_iter_gives, c.squares_of-t-items.ensures)
    (rest_in (λ (s : ℕ). true) _ _ _ c.minus.ensures)

pub number_after-requires : goal.number_after-requires
number_after-requires c = c.requires

pub returns-then-c-refutes : goal.returns-then-c-refutes
returns-then-c-refutes c =
    λ h.
    let x = c.args in
    let t = c.in-Some.t in
    let z = lowest-first _ _ _ c.in-Some.ensures.steps in (
      c.loop-t.invariant t z.square z.here,
      λ f w. sparing-of x.m x.k (place_after x.o x.s t) x.table.now _ _ _ (c.number_after.ensures f w)
          c.byte_of-c.ensures c.refutes.ensures c.if-c-refutes.true,
    )

pub loop-t-preserved : goal.loop-t-preserved
loop-t-preserved c =
    let t = c.in-Some.t in
    let left = c.next.new.self.left in
    let w = lowest-first _ _ _ c.in-Some.ensures.steps in
    λ j h u. c.loop-t.invariant j h (subst⁻¹ T (w.others j h) (or_right (eqb j t) (has left j) u))

pub returns : goal.returns
returns c = λ h. absurd (omega (arith, h))

-- `working_back::lose_each` meets its contract. The loop's invariant: the squares that are no longer in the rest have been tried.
use mathlib.Core.Bool.{true}
use mathlib.Core.Path.{ap, subst⁻¹, ◌∙◌}
use Prim.Native.Nat.{ℕ, ◌<◌}
use native.Mathlib.Omega.{arith}
use lib.Dec.{T, eqb}
use Rattle.finite.specs.Truth.{or_right}
use Rattle.board.specs.Sets.{has, members}
use Rattle.board.proofs.laws.LowestLaws.{lowest-of}
use Rattle.board.proofs.laws.SetLaws.{members-none}
use Rattle.retracting.proofs.laws.Stepping.{leads_goes}
use Rattle.working_back.proofs.laws.Admitted.{admitted-kept}
use Rattle.working_back.proofs.laws.Sources.{taken_start, taken-turn, taken-spared, taken-end, fewer-left, lowest-in}
use Rattle.working_back.proofs.laws.Saved.{rest_in}
use Rattle.working_back.proofs.trying.lose_each.Goals as goal

pub loop-rest-init : goal.loop-rest-init
loop-rest-init c =
    let x = c.args in (
      c.ranges.squares.fits,
      (λ i h t. t),
      taken_start x.m x.first.now x.second.now x.k x.q x.taken x.to _ c.requires.2 _,
    )

pub number_before-n-requires : goal.number_before-n-requires
number_before-n-requires c = c.requires.6.bounded

pub lose_number-told-requires : goal.lose_number-told-requires
lose_number-told-requires c =
    let p = c.requires in
    let l = c.loop-rest in
    let z = lowest-in l.rest c.lowest-s.result l.invariant.0 c.loop-rest-test.true c.lowest-s.ensures in
    let w = p.3.sound c.lowest-s.result z.0 (l.invariant.1 c.lowest-s.result z.0 z.1) in
    (p.0, p.1, admitted-kept _ _ _ _ p.2 _ l.invariant.2.0.long, w, p.4, p.5, p.7, c.ground_of-ground.ensures _, c.number_before-n.ensures (leads_goes _ _ _ _ _ p.4 w) p.6)

pub overflow_add-settled : goal.overflow_add-settled
overflow_add-settled c = omega (arith, c.loop-rest.invariant.2.0.few, c.lose_number-told.ensures.0.0.few)

pub loop-rest-smaller : goal.loop-rest-smaller
loop-rest-smaller c =
    let l = c.loop-rest in
    let low = lowest-of l.rest _ _ l.invariant.0 c.loop-rest-test.true c.lowest-s.ensures c.without.ensures in
    omega (arith, low.fewer, fewer-left c.without.result c.lose_number-told.result.spared c.minus-rest.result c.minus-rest.ensures)

pub loop-rest-preserved : goal.loop-rest-preserved
loop-rest-preserved c =
    let x = c.args in
    let p = c.requires in
    let l = c.loop-rest in
    let s = c.lowest-s.result in
    let left = c.without.result in
    let told = c.lose_number-told in
    let w = lowest-of l.rest s left l.invariant.0 c.loop-rest-test.true c.lowest-s.ensures c.without.ensures in
    let among : (j : ℕ) → j < 64 → T (has left j) → T (has x.squares j) = λ j h u. l.invariant.1 j h (subst⁻¹ T (w.others j h) (or_right (eqb j s) (has left j) u)) in (
      c.minus-rest.type_inv,
      (λ j h u. among j h (rest_in (λ (i : ℕ). true) left told.result.spared c.minus-rest.result c.minus-rest.ensures j h u)),
      taken-spared x.m x.first.now x.second.now x.k x.q x.taken x.to _ p.2 _ _ left told.result.spared c.minus-rest.result _
          (taken-turn x.m x.first.now x.second.now x.k x.q x.taken x.to _ p.2 _ _ _ l.rest left s l.settled _ l.invariant.2 w told.ensures.0)
          c.minus-rest.ensures (λ j h g b. told.ensures.1 j h b (p.3.sound j h (among j h g))),
    )

pub shape_of-table : goal.shape_of-table
shape_of-table c = c.loop-rest.invariant.2.0.long

pub returns : goal.returns
returns c =
    let x = c.args in
    let l = c.loop-rest in
    taken-end x.m x.first.now x.second.now x.k x.q x.taken x.to _ c.requires.2 _ _ l.rest l.settled
    (ap members c.loop-rest-test.false ∙ members-none) l.invariant.2 c.requires.3.all

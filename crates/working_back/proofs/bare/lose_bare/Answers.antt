-- `working_back::lose_bare` meets its contract. The loop's invariant: the squares that are no longer in the rest have been tried.
use mathlib.Core.Path.{refl, subst⁻¹}
use native.Mathlib.Omega.{arith}
use lib.Dec.{T, eqb}
use Rattle.finite.specs.Truth.{or_right}
use Rattle.board.specs.Sets.{has}
use Rattle.board.proofs.laws.LowestLaws.{lowest-first}
use Rattle.rules.specs.Chess.{chess}
use Rattle.working_back.specs.Admitted.{over}
use Rattle.working_back.proofs.laws.Few.{alive-kept}
use Rattle.working_back.proofs.laws.BareLost.{knows-none}
use Rattle.working_back.proofs.laws.Admitted.{admitted-kept}
use Rattle.working_back.proofs.laws.Sources.{taken_start, taken-turn, taken-end}
use Rattle.working_back.proofs.bare.lose_bare.Goals as goal

pub loop-s-init : goal.loop-s-init
loop-s-init c =
    let x = c.args in
    rw (c.into_iter-s-iterator.ensures.into_iter_gives, c.squares_of-s-items.ensures) (
      (λ i h t. t),
      taken_start x.m x.first.now x.second.now x.k x.q x.taken x.to _ c.requires.3 _,
      knows-none _ _ _ _ _ _,
      c.requires.9,
    )

pub lose_one-lost-requires : goal.lose_one-lost-requires
lose_one-lost-requires c =
    let p = c.requires in
    let x = c.args in
    let l = c.loop-s in
    let s = c.in-Some.s in
    let z = lowest-first _ _ _ c.in-Some.ensures.steps in (
      p.0,
      p.1,
      p.2,
      admitted-kept _ _ _ _ p.3 _ l.invariant.1.0.long,
      record {
        legal = p.5;
        side = p.6;
        colour = p.7;
        king = p.8;
        at-white = refl;
        at_first = c.again-x.ensures;
        at_second = c.again-y.ensures;
      },
      c.struck-shut.ensures,
      p.4.sound s z.square (l.invariant.0 s z.square z.here),
      l.invariant.2,
      c.still_black-others.ensures,
      l.invariant.3,
    )

pub overflow_add-settled : goal.overflow_add-settled
overflow_add-settled c = omega (arith, c.loop-s.invariant.1.0.few, c.lose_one-lost.ensures.0.0.few)

pub loop-s-preserved : goal.loop-s-preserved
loop-s-preserved c =
    let x = c.args in
    let l = c.loop-s in
    let t = c.in-Some.s in
    let left = c.next.new.self.left in
    let w = lowest-first _ _ _ c.in-Some.ensures.steps in
    let e = c.lose_one-lost.ensures in (
      (λ j h u. l.invariant.0 j h (subst⁻¹ T (w.others j h) (or_right (eqb j t) (has left j) u))),
      taken-turn x.m x.first.now x.second.now x.k x.q x.taken x.to _ c.requires.3 _ _ _ l.s-iterator.left
          left t l.settled _ l.invariant.1 w e.0,
      e.1,
      alive-kept chess (over x.m x.first.now x.second.now) x.k 1 _ _ _ e.0.0 l.invariant.3,
    )

pub shape_of-table : goal.shape_of-table
shape_of-table c = c.loop-s.invariant.1.0.long

pub returns : goal.returns
returns c =
    let x = c.args in
    let l = c.loop-s in
    taken-end x.m x.first.now x.second.now x.k x.q x.taken x.to _ c.requires.3 _ _ l.s-iterator.left l.settled
    c.in-None.ensures.steps.0 l.invariant.1 c.requires.4.all

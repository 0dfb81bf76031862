-- `working_back::win_from` meets its contract. The loop's invariant: the squares that are no longer in the rest have been tried.
use mathlib.Core.Path.{subst⁻¹}
use native.Mathlib.Omega.{arith}
use lib.Dec.{T, eqb}
use Rattle.finite.specs.Truth.{or_right}
use Rattle.board.specs.Sets.{has}
use Rattle.board.proofs.laws.LowestLaws.{lowest-first}
use Rattle.working_back.proofs.laws.Admitted.{admitted-kept}
use Rattle.working_back.proofs.laws.Sources.{taken_start, taken-turn, taken-end}
use Rattle.working_back.proofs.winning.win_from.Goals as goal

pub loop-s-init : goal.loop-s-init
loop-s-init g c =
    let x = c.args in
    rw (c.into_iter-s-iterator.ensures.into_iter_gives, c.squares_of-s-items.ensures)
    ((λ i h t. t), taken_start x.m x.first.now x.second.now x.k x.q x.taken x.to _ c.requires.2 _)

pub win_number-settled-requires : goal.win_number-settled-requires
win_number-settled-requires g c =
    let p = c.requires in
    let l = c.loop-s in
    let s = c.in-Some.s in
    let z = lowest-first _ _ _ c.in-Some.ensures.steps in
    let w = p.3.sound s z.square (l.invariant.0 s z.square z.here) in
    (p.0, p.1, admitted-kept _ _ _ _ p.2 _ l.invariant.1.0.long, w, p.5 s _ w c.number-n.ensures)

pub overflow_add-settled : goal.overflow_add-settled
overflow_add-settled g c = omega (arith, c.loop-s.invariant.1.0.few, c.win_number-settled.ensures.0.few)

pub loop-s-preserved : goal.loop-s-preserved
loop-s-preserved g c =
    let x = c.args in
    let l = c.loop-s in
    let left = c.next.new.self.left in
    let w = lowest-first _ _ _ c.in-Some.ensures.steps in (
      (λ j h u. l.invariant.0 j h (subst⁻¹ T (w.others j h) (or_right (eqb j c.in-Some.s) (has left j) u))),
      taken-turn x.m x.first.now x.second.now x.k x.q x.taken x.to _ c.requires.2 _ _ _ l.s-iterator.left
          left c.in-Some.s l.settled _ l.invariant.1 w c.win_number-settled.ensures,
    )

pub shape_of-table : goal.shape_of-table
shape_of-table g c = c.loop-s.invariant.1.0.long

pub returns : goal.returns
returns g c =
    let x = c.args in
    let l = c.loop-s in
    taken-end x.m x.first.now x.second.now x.k x.q x.taken x.to _ c.requires.2 _ _ l.s-iterator.left l.settled
    c.in-None.ensures.steps.0 l.invariant.1 c.requires.3.all

pub number-n-requires : goal.number-n-requires
number-n-requires g c =
    let p = c.requires in
    let s = c.in-Some.s in
    let z = lowest-first _ _ _ c.in-Some.ensures.steps in
    p.4 s (p.3.sound s z.square (c.loop-s.invariant.0 s z.square z.here))

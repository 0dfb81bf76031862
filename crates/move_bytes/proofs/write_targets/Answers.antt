-- `move_bytes::write_targets` meets its contract: what is stored, with the rest stored behind it, is what is to be stored.
use Rattle.std.proofs.Common.{arith, refl, sym, ◌∙◌}
use Rattle.board.proofs.laws.LowestLaws.{lowest-first}
use Rattle.move_list.proofs.laws.TargetLaws.{targets-end}
use Rattle.move_bytes.proofs.laws.StoreLaws.{left-all, left_end, promotes-room, promotes-next, plain-room, plain-next}
use Rattle.move_bytes.proofs.write_targets.Goals as goal

pub loop-to-init : goal.loop-to-init
loop-to-init c =
    rw (c.into_iter-to-iterator.ensures.into_iter_gives, c.squares_of-to-items.ensures)
    (left-all _ _ _ _ c.requires.0 c.requires.1 refl)

pub write_promotions-requires : goal.write_promotions-requires
write_promotions-requires c = (
  c.loop-to.invariant.long,
  promotes-room _ _ _ _ _ _ (lowest-first _ _ _ c.in-Some.ensures.steps) _ _ c.has-takes.ensures c.has.ensures
      c.loop-to.invariant c.if-has.true,
)

pub overflow_add-at : goal.overflow_add-at
overflow_add-at c =
    let fits = promotes-room _ _ _ _ _ _ (lowest-first _ _ _ c.in-Some.ensures.steps) _ _ c.has-takes.ensures c.has.ensures
    c.loop-to.invariant c.if-has.true in
    omega (arith, fits)

pub loop-to-preserved-then-has : goal.loop-to-preserved-then-has
loop-to-preserved-then-has c =
    promotes-next _ _ _ _ _ _ (lowest-first _ _ _ c.in-Some.ensures.steps) _ _ c.has-takes.ensures c.has.ensures
    c.loop-to.invariant c.if-has.true _ _ c.write_promotions.ensures refl

pub write_move-requires : goal.write_move-requires
write_move-requires c =
    let fits = plain-room _ _ _ _ _ _ (lowest-first _ _ _ c.in-Some.ensures.steps) _ _ c.has-takes.ensures c.has.ensures
    c.loop-to.invariant c.if-has.false in
    (c.loop-to.invariant.long, omega (arith, fits))

pub overflow_add-at-in-loop-to : goal.overflow_add-at-in-loop-to
overflow_add-at-in-loop-to c =
    let fits = plain-room _ _ _ _ _ _ (lowest-first _ _ _ c.in-Some.ensures.steps) _ _ c.has-takes.ensures c.has.ensures
    c.loop-to.invariant c.if-has.false in
    omega (arith, fits)

pub loop-to-preserved : goal.loop-to-preserved
loop-to-preserved c =
    plain-next _ _ _ _ _ _ (lowest-first _ _ _ c.in-Some.ensures.steps) _ _ c.has-takes.ensures c.has.ensures
    c.loop-to.invariant c.if-has.false _ _ c.write_move.ensures refl

pub shape_of-bytes : goal.shape_of-bytes
shape_of-bytes c = c.loop-to.invariant.long ∙ sym c.requires.0

pub returns : goal.returns
returns c = left_end c.loop-to.invariant (targets-end _ _ _ _ c.in-None.ensures.steps.0)

-- `answers::count_of` meets its contract: the count and the moves of the rest make up all moves.
use Rattle.std.proofs.Common.{◌+◌, ◌*◌, ◌≤◌, ap, arith, length}
use Rattle.board.proofs.laws.LowestLaws.{lowest-first}
use Rattle.position.specs.Keyed.{board_of}
use Rattle.move_list.specs.Lists.{room}
use Rattle.move_list.proofs.laws.Served.{few-moves}
use Rattle.move_list.proofs.laws.TurnLaws.{by-movers, movers-end, turn-length}
use Rattle.move_list.proofs.answers.count_of.Goals as goal

-- the moves from the lowest square, with those of the others, are at most the room
few : (c : goal.After-size-in-loop-from)
    → c.loop-from.count + (c.size.result + 3 * c.size-in-loop-from.result) ≤ room
few c =
    let t = turn-length _ _ _ _ _ (lowest-first _ _ _ c.in-Some.ensures.steps) c.legal_targets-targets.ensures _
    c.promoting_set-ends.ensures in
    omega (arith, c.loop-from.invariant, t, c.size.ensures, c.size-in-loop-from.ensures, few-moves c.args.p)

pub loop-from-init : goal.loop-from-init
unfolding board_of
loop-from-init c =
    rw (c.into_iter-from-iterator.ensures.into_iter_gives, c.squares_of-from-items.ensures)
    (let d = by-movers (board_of c.args.p) c.own.result c.own.ensures in omega (arith, ap length d))

pub overflow_mul-count : goal.overflow_mul-count
overflow_mul-count c = omega (arith, few c)

pub overflow_add-count : goal.overflow_add-count
overflow_add-count c = omega (arith, few c)

pub overflow_add-count-in-loop-from : goal.overflow_add-count-in-loop-from
overflow_add-count-in-loop-from c = omega (arith, few c)

pub loop-from-preserved : goal.loop-from-preserved
loop-from-preserved c =
    let t = turn-length _ _ _ _ _ (lowest-first _ _ _ c.in-Some.ensures.steps) c.legal_targets-targets.ensures _
    c.promoting_set-ends.ensures in
    omega (arith, c.loop-from.invariant, t, c.size.ensures, c.size-in-loop-from.ensures)

pub overflow_cast-result : goal.overflow_cast-result
overflow_cast-result c = omega (arith, c.loop-from.invariant, few-moves c.args.p)

pub returns : goal.returns
returns c =
    let none = ap length (movers-end (board_of c.args.p) _ c.in-None.ensures.steps.0) in
    omega (arith, c.loop-from.invariant, none)

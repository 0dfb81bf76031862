-- `search::won_within` and `search::lost_within`, which call each other, meet their contracts.
use Rattle.std.proofs.Common.{ap, not, arith}
use Rattle.board.proofs.laws.LowestLaws.{lowest-first}
use Rattle.search.proofs.laws.WithinLaws.{won-none, won-start, won-hit, won-miss, any-piece, any-piece-end, any-end, lost-mate, lost-stalemate, lost-none, lost-start, lost-miss, lost-hit, all-piece, all-piece-end, all_end}
use Rattle.search.proofs.within.+lost_within_won_within.Goals as goal

pub lost_within-returns-then-in_check : goal.lost_within-returns-then-in_check
lost_within-returns-then-in_check t c none =
    lost-mate _ _ _ _ c.can_move.ensures (ap not c.if-not-can_move.true)
    c.in_check.ensures c.if-in_check.true

pub lost_within-returns-then-not-can_move : goal.lost_within-returns-then-not-can_move
lost_within-returns-then-not-can_move t c none =
    lost-stalemate _ _ _ _ c.can_move.ensures (ap not c.if-not-can_move.true)
    c.in_check.ensures c.if-in_check.false

pub lost_within-returns-then-k-eq0 : goal.lost_within-returns-then-k-eq0
lost_within-returns-then-k-eq0 t c none =
    lost-none _ _ _ c.can_move.ensures (ap not c.if-not-can_move.false) c.if-k-eq0.true

pub lost_within-loop-from-init : goal.lost_within-loop-from-init
lost_within-loop-from-init t c =
    rw (c.into_iter-from-iterator.ensures.into_iter_gives, c.squares_of-from-items.ensures)
    (λ none. lost-start _ _ _ c.can_move.ensures (ap not c.if-not-can_move.false) _ c.if-k-eq0.false c.movers.ensures)

pub lost_within-loop-to-init : goal.lost_within-loop-to-init
lost_within-loop-to-init t c =
    rw (c.into_iter-to-iterator.ensures.into_iter_gives, c.squares_of-to-items.ensures)
    (λ none. all-piece _ _ _ _ _ _ _ (lowest-first _ _ _ c.in-Some.ensures.steps) c.legal_targets.ensures (c.loop-from.invariant none))

pub lost_within-loop-from-preserved : goal.lost_within-loop-from-preserved
lost_within-loop-from-preserved t c none =
    all-piece-end _ _ _ _ _ _ c.in-None-to.ensures.steps.0 (c.loop-to.invariant none)

pub lost_within-overflow_sub-k : goal.lost_within-overflow_sub-k
lost_within-overflow_sub-k t c = omega arith

pub lost_within-won_within-requires : goal.lost_within-won_within-requires
lost_within-won_within-requires t c = omega arith

pub lost_within-returns-then-not-won_within : goal.lost_within-returns-then-not-won_within
lost_within-returns-then-not-won_within t c none =
    lost-miss _ _ _ none _ _ _ _ _ _ _ (lowest-first _ _ _ c.in-Some-to.ensures.steps) c.make.ensures c.won_within.ensures
    (c.loop-to.invariant none) c.if-not-won_within.true

pub lost_within-loop-to-preserved : goal.lost_within-loop-to-preserved
lost_within-loop-to-preserved t c none =
    lost-hit _ _ _ none _ _ _ _ _ _ _ (lowest-first _ _ _ c.in-Some-to.ensures.steps) c.make.ensures c.won_within.ensures
    (c.loop-to.invariant none) c.if-not-won_within.false

pub lost_within-returns : goal.lost_within-returns
lost_within-returns t c none = all_end _ _ _ _ c.in-None.ensures.steps.0 (c.loop-from.invariant none)

pub won_within-returns-then-k-eq0 : goal.won_within-returns-then-k-eq0
won_within-returns-then-k-eq0 t c none =
    won-none _ _ c.if-k-eq0.true

pub won_within-loop-from-init : goal.won_within-loop-from-init
won_within-loop-from-init t c =
    rw (c.into_iter-from-iterator.ensures.into_iter_gives, c.squares_of-from-items.ensures)
    (λ none. won-start _ _ _ c.if-k-eq0.false c.movers.ensures)

pub won_within-loop-to-init : goal.won_within-loop-to-init
won_within-loop-to-init t c =
    rw (c.into_iter-to-iterator.ensures.into_iter_gives, c.squares_of-to-items.ensures)
    (λ none. any-piece _ _ _ _ _ _ _ (lowest-first _ _ _ c.in-Some.ensures.steps) (c.tried.ensures none) (c.loop-from.invariant none))

pub won_within-loop-from-preserved : goal.won_within-loop-from-preserved
won_within-loop-from-preserved t c none =
    any-piece-end _ _ _ _ _ _ c.in-None-to.ensures.steps.0 (c.loop-to.invariant none)

pub won_within-overflow_sub-k : goal.won_within-overflow_sub-k
won_within-overflow_sub-k t c = omega arith

pub won_within-lost_within-requires : goal.won_within-lost_within-requires
won_within-lost_within-requires t c = omega arith

pub won_within-returns-then-lost_within : goal.won_within-returns-then-lost_within
won_within-returns-then-lost_within t c none =
    won-hit _ _ _ none _ _ _ _ _ _ _ (lowest-first _ _ _ c.in-Some-to.ensures.steps) c.make.ensures c.lost_within.ensures
    (c.loop-to.invariant none) c.if-lost_within.true

pub won_within-loop-to-preserved : goal.won_within-loop-to-preserved
won_within-loop-to-preserved t c none =
    won-miss _ _ _ none _ _ _ _ _ _ _ (lowest-first _ _ _ c.in-Some-to.ensures.steps) c.make.ensures c.lost_within.ensures
    (c.loop-to.invariant none) c.if-lost_within.false

pub won_within-returns : goal.won_within-returns
won_within-returns t c none = any-end _ _ _ _ c.in-None.ensures.steps.0 (c.loop-from.invariant none)

-- The kings of two pairs, and the last eight numbers, which are unused; for the bench.
use Rattle.std.specs.Prelude.{◌≡◌, Bool, true, ℕ, ◌+◌, ◌-◌, ◌/◌, ◌%◌, ◌<◌, T}
use Rattle.std.proofs.Common.{arith, lit<}
use Rattle.finite.specs.Truth.{true_of}
use Rattle.finite.specs.Members.{any}
use Rattle.finite.specs.Numbers.{numbers}
use Rattle.finite.specs.Below.{all_below, below}
use Rattle.finite.specs.Ranked.{rank}
use Rattle.board.specs.Square.{stays, shift}
use Rattle.board.specs.Reach.{line, reaches}
use Rattle.numbering.specs.Kings.{cornered, separate, king_rule, king_pair, pair_of, kings_of}
use Rattle.numbering.proofs.laws.PairLaws.{kings-back}
use Rattle.position.specs.Keyed.{lone}
use Rattle.index.specs.Answers.{position_at, unused}

-- by the law and not by search: white king's square x 64 + black king's
pub corner-kings : kings_of 32 ≡ 63
unfolding pair_of rank king_pair king_rule cornered separate reaches any numbers line shift stays
corner-kings = kings-back 0 63 (lit< tt) (lit< tt) tt

pub last-kings : kings_of 461 ≡ 1791
unfolding pair_of rank king_pair king_rule cornered separate reaches any numbers line shift stays
last-kings = kings-back 27 63 (lit< tt) (lit< tt) tt

-- the man on one of the last eight squares, all above the diagonal or the black king's
last_unused : ℕ → Bool
last_unused a = unused (lone 0 0 27 (56 + a) 63)

all-last : T (all_below last_unused 8)
unfolding all_below last_unused unused
all-last = tt

pub last-unused : (kind k : ℕ) → 59127 < k → k < 59136 → unused (position_at kind k) ≡ true
unfolding position_at last_unused unused
last-unused kind k h l =
    let q : k / 64 % 462 ≡ 461 = omega arith in
    let s : k % 64 ≡ 56 + (k - 59128) = omega arith in
    rw (q, s, last-kings) (true_of (below last_unused 8 all-last (k - 59128) (omega arith)))

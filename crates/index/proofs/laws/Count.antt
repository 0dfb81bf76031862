-- "Each side has 28,056 used numbers" (01).
use Rattle.std.specs.Prelude.{◌≡◌, refl, Bool, not, ℕ, ◌+◌, ◌*◌, ◌/◌, ◌%◌, ◌<◌}
use Rattle.std.proofs.Common.{ap, ap₂, sym, ◌∙◌, arith}
use Rattle.finite.specs.Members.{any}
use Rattle.finite.specs.Numbers.{numbers}
use Rattle.finite.specs.Ranked.{rank, select, sum, sum_of, rank_same, rank-blocks, sum_same, sum-ranks}
use Rattle.board.specs.Square.{stays, shift}
use Rattle.board.specs.Reach.{line, reaches}
use Rattle.numbering.specs.Kings.{cornered, separate, king_rule, king_pair, kings_of}
use Rattle.numbering.proofs.laws.PairLaws.{pair-count}
use Rattle.position.specs.Keyed.{lone}
use Rattle.index.specs.Answers.{position_at, unused}

-- kings on k / 64 and k % 64 with the man on a square: used or not, whatever the man and the side
free : ℕ → ℕ → Bool
free k a = not (unused (lone 0 0 (k / 64) a (k % 64)))

-- the squares that a man may stand on beside a pair of kings
squares_for : ℕ → ℕ
squares_for k = rank (free k) 64

all-pairs : sum_of king_pair squares_for 4096 ≡ 28056
unfolding sum_of squares_for free rank unused king_pair king_rule cornered separate reaches any numbers line shift stays
all-pairs = refl

same-free : (kind side q a : ℕ) → q < 462 → a < 64
    → not (unused (position_at kind (side * 29568 + (q * 64 + a)))) ≡ free (kings_of q) a
unfolding position_at unused free
same-free kind side q a h l =
    let n : ℕ = side * 29568 + (q * 64 + a) in
    let e : n / 64 % 462 ≡ q = omega arith in
    let f : n % 64 ≡ a = omega arith in
    ap₂ (λ (x y : ℕ). free (kings_of x) y) e f

-- of the numbers of a side, counted from its first
pub used-count : (kind side : ℕ) → rank (λ n. not (unused (position_at kind (side * 29568 + n)))) 29568 ≡ 28056
unfolding kings_of squares_for
used-count kind side =
    rank-blocks (λ n. not (unused (position_at kind (side * 29568 + n)))) 462
    ∙ sum_same (λ q. rank (λ a. not (unused (position_at kind (side * 29568 + (q * 64 + a))))) 64)
    (λ q. squares_for (select king_pair 4096 q)) 462
    (λ q h. rank_same (λ a. not (unused (position_at kind (side * 29568 + (q * 64 + a))))) (free (kings_of q)) 64
    (λ a l. same-free kind side q a h l))
    ∙ ap (sum (λ q. squares_for (select king_pair 4096 q))) (sym pair-count)
    ∙ sym (sum-ranks king_pair squares_for 4096 4096 (omega arith))
    ∙ all-pairs

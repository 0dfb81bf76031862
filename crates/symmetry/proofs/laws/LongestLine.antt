-- Seven steps are enough for any line: an eighth leads off the board, so the range of 7 is no limit.
use Rattle.std.specs.Prelude.{◌≡◌, Bool, ℕ, zero, suc, ◌≤◌, ◌<◌, T, eqb, get_or}
use Rattle.std.proofs.Common.{arith, eqb→eq, le-ltb}
use Rattle.finite.specs.Below.{all_below, all_below2, below2}
use Rattle.board.specs.Square.{stays, shift}
use Rattle.board.specs.Reach.{line, step_xs, step_ys}

after : ℕ → ℕ → ℕ → ℕ → ℕ
after zero s dx dy = s
after (suc n) s dx dy = after n (shift s dx dy) dx dy

line-spent : (occ : ℕ → Bool) (n s dx dy t : ℕ) → 64 ≤ after (suc n) s dx dy
    → line occ (suc n) s dx dy t ≡ line occ n s dx dy t
unfolding line after
line-spent occ zero s dx dy t h = rw (le-ltb (shift s dx dy) 64 h)
line-spent occ (suc n) s dx dy t h = rw (line-spent occ n (shift s dx dy) dx dy t h)

spent-right : ℕ → ℕ → Bool
spent-right s k = eqb (after 8 s (get_or step_xs k 0) (get_or step_ys k 0)) 64

all-spent : T (all_below2 spent-right 64 16)
unfolding all_below all_below2 spent-right after shift stays
all-spent = tt

pub seven-enough : (occ : ℕ → Bool) (s k t : ℕ) → s < 64 → k < 16
    → line occ 8 s (get_or step_xs k 0) (get_or step_ys k 0) t ≡ line occ 7 s (get_or step_xs k 0) (get_or step_ys k 0) t
unfolding spent-right
seven-enough occ s k t hs hk =
    let e = eqb→eq (after 8 s (get_or step_xs k 0) (get_or step_ys k 0)) 64 (below2 spent-right 64 16 all-spent s k hs hk) in
    line-spent occ 7 s (get_or step_xs k 0) (get_or step_ys k 0) t (omega arith)

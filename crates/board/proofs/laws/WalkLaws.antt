-- Laws of the walk, for any direction: seven steps are enough, and what it meets by what its next square is.
use Rattle.std.specs.Prelude.{◌≡◌, refl, Bool, true, false, cond, ℕ, zero, suc, ◌≤◌, ◌<◌, T, ltb, eqb, get_or, Option, Some, None}
use Rattle.std.proofs.Common.{sym, ap, ◌∙◌, ⊎_elim, le_of_suc-le-suc, arith, eqb→eq}
use borrow.Author.Tests.{lt-ltb, le-ltb}
use Rattle.finite.specs.Truth.{le-or-lt}
use Rattle.finite.specs.Below.{all_below, all_below2, below2}
use Rattle.board.specs.Square.{stays, shift}
use Rattle.board.proofs.laws.SquareLaws.{shift-off}
use Rattle.board.specs.Reach.{step_xs, step_ys, stepped}
use Rattle.board.specs.Walk.{first_met, walk_of}

-- ---- seven steps are enough

-- the square after n steps
unfoldable after : ℕ → ℕ → ℕ → ℕ
after zero s k = s
after (suc n) s k = after n (stepped s k) k

-- where n + 1 steps lead off the board, more than n meet nothing more
spent : (occ : ℕ → Bool) (n m s k : ℕ) → 64 ≤ after (suc n) s k → n ≤ m → first_met occ m s k ≡ first_met occ n s k
unfolding after first_met
spent occ zero zero s k e h = refl
spent occ zero (suc m) s k e h = rw (le-ltb (stepped s k) 64 e)
spent occ (suc n) zero s k e h = absurd (omega arith)
spent occ (suc n) (suc m) s k e h = rw (spent occ n m (stepped s k) k e (le_of_suc-le-suc h))

-- eight do, from each square in each direction
out : ℕ → ℕ → Bool
out k s = eqb (after 8 s k) 64

all-out : T (all_below2 out 8 64)
unfolding all_below all_below2 out after shift stays
all-out = tt

-- and so from off the board
off : (occ : ℕ → Bool) (n s k : ℕ) → 64 ≤ s → first_met occ n s k ≡ None
unfolding first_met
off occ zero s k h = refl
off occ (suc n) s k h = rw (shift-off s (get_or step_xs k 0) (get_or step_ys k 0) h)

pub seven-enough : (occ : ℕ → Bool) (s k n : ℕ) → k < 8 → 7 ≤ n → first_met occ n s k ≡ first_met occ 7 s k
unfolding out
seven-enough occ s k n h l =
    ⊎_elim (λ q. off occ n s k q ∙ sym (off occ 7 s k q))
    (λ q. let e = eqb→eq (after 8 s k) 64 (below2 out 8 64 all-out k s h q) in spent occ 7 n s k (omega arith) l)
    (le-or-lt 64 s)

-- ---- the walk by its next square

pub walk-nowhere : (occ : ℕ → Bool) (s k : ℕ) → 8 ≤ k → walk_of occ s k ≡ None
unfolding walk_of
walk-nowhere occ s k h = rw (le-ltb k 8 h)

pub walk-off : (occ : ℕ → Bool) (s k : ℕ) → 64 ≤ s → walk_of occ s k ≡ None
unfolding walk_of
walk-off occ s k h = ap (λ m. cond (ltb k 8) m None) (off occ 7 s k h) ∙ either (ltb k 8) None
  where
    either : (b : Bool) (m : Option ℕ) → cond b m m ≡ m
    either true m = refl
    either false m = refl

module _ (occ : ℕ → Bool) (s k : ℕ) (h : k < 8) where
  walk_first : walk_of occ s k ≡ first_met occ 8 s k
  unfolding walk_of
  walk_first = rw (lt-ltb k 8 h) (sym (seven-enough occ s k 8 h (omega arith)))

  -- the edge comes next
  pub walk-edge : 64 ≤ stepped s k → walk_of occ s k ≡ None
  unfolding first_met
  walk-edge q = walk_first ∙ rw (le-ltb (stepped s k) 64 q)

  -- a square does: it is the first met, or the walk goes on from there
  pub walk-next : stepped s k < 64
      → walk_of occ s k ≡ cond (occ (stepped s k)) (Some (stepped s k)) (walk_of occ (stepped s k) k)
  unfolding first_met walk_of
  walk-next q = walk_first ∙ rw (lt-ltb (stepped s k) 64 q, lt-ltb k 8 h)

-- only what stands on the board counts
pub walk_same : (occ occ' : ℕ → Bool) → ((u : ℕ) → u < 64 → occ u ≡ occ' u) → (s k : ℕ)
    → walk_of occ s k ≡ walk_of occ' s k
unfolding walk_of first_met
walk_same occ occ' same s k = rw (go 7 s)
  where
    go : (n s : ℕ) → first_met occ n s k ≡ first_met occ' n s k
    go zero s = refl
    go (suc n) s =
        ⊎_elim (λ h. rw (le-ltb (stepped s k) 64 h)) (λ h. rw (same (stepped s k) h, go n (stepped s k)))
        (le-or-lt 64 (stepped s k))

-- Laws for gathering the squares of a line: `a` says whether the squares gathered so far hold t.
use Rattle.std.specs.Prelude.{◌≡◌, Bool, true, false, ◌||◌, ℕ, ◌+◌, ◌-◌, ◌<◌, eqb}
use Rattle.std.proofs.Math.Bool.{or_assoc, or-false}
use Rattle.finite.specs.Truth.{eqb-sym}
use Rattle.finite.specs.Members.{any}
use Rattle.finite.specs.Numbers.{numbers, any-first}
use Rattle.board.specs.Reach.{stepped, line_of}
use Rattle.board.proofs.laws.WalkAttack.{line-next}

-- nothing more comes
pub sweep-end : (a b : Bool) → b ≡ false → (a || b) ≡ a
sweep-end a b e = rw e (or-false a)

-- a square comes next, and with it the end of the line or the rest of it
module _ (occ : ℕ → Bool) (s k t : ℕ) (h : k < 8) (on : stepped s k < 64) (a : Bool) where
  pub sweep-stop : occ (stepped s k) ≡ true → (a || line_of occ 0 s t k) ≡ (a || eqb t (stepped s k))
  sweep-stop o = rw (line-next occ t s k h on, o, eqb-sym t (stepped s k), or-false (eqb (stepped s k) t))

  pub sweep-next : occ (stepped s k) ≡ false
      → (a || line_of occ 0 s t k) ≡ ((a || eqb t (stepped s k)) || line_of occ 0 (stepped s k) t k)
  sweep-next o =
      rw (
        line-next occ t s k h on,
        o,
        eqb-sym t (stepped s k),
        or_assoc a (eqb (stepped s k) t) (line_of occ 0 (stepped s k) t k),
      )

-- one more of the lines k up to e
pub sweep-line : (f : ℕ → Bool) (k e : ℕ) → k < e → (a : Bool)
    → (a || any f (numbers (e - k) k)) ≡ ((a || f k) || any f (numbers (e - (k + 1)) (k + 1)))
sweep-line f k e l a = rw (any-first f k e l, or_assoc a (f k) (any f (numbers (e - (k + 1)) (k + 1))))

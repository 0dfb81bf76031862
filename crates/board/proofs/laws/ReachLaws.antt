-- Laws of reaching, and the ranges of the step tables.
use Rattle.std.specs.Prelude.{◌≡◌, refl, Bool, false, ◌&&◌, [], ◌⊎◌, ℕ, ◌+◌, ◌^◌, ◌≤◌, ◌<◌, T, eqb, leb, ltb, get_or}
use Rattle.std.proofs.Common.{sym, ap, ◌∙◌, inr, ⊎_elim, arith, eqb→eq, leb→le, ltb→lt, eq-eqb}
use Rattle.std.proofs.Math.ListN.{get_or-eq_default}
use Rattle.finite.specs.Truth.{and_left, and_right, by-test, fails, of-true, le-or-lt}
use Rattle.finite.specs.Members.{◌∈◌, any, any_out, any_same, none_in}
use Rattle.finite.specs.Numbers.{numbers, numbers-out}
use Rattle.finite.specs.Below.{all_below, below}
use Rattle.board.specs.Reach.{step_xs, step_ys, first_steps, step_counts, step_ranges, steps_of, line_of, reaches}
use Rattle.board.specs.Sets.{has, set_of}
use Rattle.board.proofs.laws.SetLaws.{has-off, set-has}
use Rattle.board.proofs.laws.LineLaws.{line-squares, line_same, line-one}

-- a piece reaches squares of the board, from squares of the board
pub reaches-squares : (occ : ℕ → Bool) (kind s t : ℕ) → T (reaches occ kind s t) → (s < 64) × (t < 64)
unfolding reaches
reaches-squares occ kind s t h =
    let w = any_out (line_of occ kind s t) (steps_of kind) h in
    line-squares occ (get_or step_ranges kind 0) s (get_or step_xs w.0 0) (get_or step_ys w.0 0) t w.2

pub reaches-off : (occ : ℕ → Bool) (kind s t : ℕ) → (64 ≤ s) ⊎ (64 ≤ t) → reaches occ kind s t ≡ false
reaches-off occ kind s t h =
    fails (reaches occ kind s t)
    (λ r. let w = reaches-squares occ kind s t r in let a = w.0 in let b = w.1 in
    ⊎_elim (λ q. omega arith) (λ q. omega arith) h)

-- what the set of the squares that a piece reaches holds, on the board and off it
pub reaches-has : (occ : ℕ → Bool) (kind s t : ℕ) {set : ℕ} → set ≡ set_of (reaches occ kind s) → set < 2 ^ 64
    → has set t ≡ reaches occ kind s t
reaches-has occ kind s t {set} e f =
    ⊎_elim (λ q. has-off set t q f ∙ sym (reaches-off occ kind s t (inr q))) (set-has (reaches occ kind s) e t)
    (le-or-lt 64 t)

-- a code above the king's has no steps
pub no_steps : (kind : ℕ) → 6 ≤ kind → steps_of kind ≡ []
unfolding numbers
no_steps kind h = rw (get_or-eq_default step_counts 0 h)

pub reaches-none : (occ : ℕ → Bool) (kind s t : ℕ) → 6 ≤ kind → reaches occ kind s t ≡ false
unfolding reaches any
reaches-none occ kind s t h = ap (any (line_of occ kind s t)) (no_steps kind h)

-- nor has the code 4
reaches-four : (occ : ℕ → Bool) (s t : ℕ) → reaches occ 4 s t ≡ false
unfolding reaches any numbers
reaches-four occ s t = refl

-- what is not a queen, rook, bishop, knight or king reaches nothing
pub reaches-other : (occ : ℕ → Bool) (kind s t : ℕ) → 2 < kind → (kind ≡ 3 → ⊥) → (kind ≡ 5 → ⊥)
    → reaches occ kind s t ≡ false
reaches-other occ kind s t h a b =
    ⊎_elim (reaches-none occ kind s t) (λ q. let e : kind ≡ 4 = omega arith in rw e (reaches-four occ s t))
    (le-or-lt 6 kind)

-- only what stands on the board counts
pub reaches_same : (occ occ' : ℕ → Bool) → ((u : ℕ) → u < 64 → occ u ≡ occ' u) → (kind s t : ℕ)
    → reaches occ kind s t ≡ reaches occ' kind s t
unfolding reaches
reaches_same occ occ' same kind s t =
    any_same (line_of occ kind s t) (line_of occ' kind s t) (steps_of kind)
    (λ k m. line_same occ occ' same (get_or step_ranges kind 0) s (get_or step_xs k 0) (get_or step_ys k 0) t)

-- nothing stands in the way of a piece that makes single steps: the king and the knight
near-reaches : (occ occ' : ℕ → Bool) (kind s t : ℕ) → get_or step_ranges kind 0 ≡ 1
    → reaches occ kind s t ≡ reaches occ' kind s t
unfolding reaches
near-reaches occ occ' kind s t e =
    any_same (line_of occ kind s t) (line_of occ' kind s t) (steps_of kind)
    (λ k m. rw e (line-one occ occ' s (get_or step_xs k 0) (get_or step_ys k 0) t))

pub king-reaches : (occ occ' : ℕ → Bool) (s t : ℕ) → reaches occ 5 s t ≡ reaches occ' 5 s t
king-reaches occ occ' s t = near-reaches occ occ' 5 s t refl

pub knight-reaches : (occ occ' : ℕ → Bool) (s t : ℕ) → reaches occ 3 s t ≡ reaches occ' 3 s t
knight-reaches occ occ' s t = near-reaches occ occ' 3 s t refl

-- the same of every code but a queen's, a rook's and a bishop's
pub near_same : (occ occ' : ℕ → Bool) (kind s t : ℕ) → 2 < kind → reaches occ kind s t ≡ reaches occ' kind s t
near_same occ occ' kind s t h =
    by-test (eqb kind 3) (λ q. let e = eqb→eq kind 3 q in rw e (knight-reaches occ occ' s t))
    (λ a. by-test (eqb kind 5) (λ q. let e = eqb→eq kind 5 q in rw e (king-reaches occ occ' s t)) (λ b. neither a b))
  where
    neither : (T (eqb kind 3) → ⊥) → (T (eqb kind 5) → ⊥) → reaches occ kind s t ≡ reaches occ' kind s t
    neither a b =
        let x : kind ≡ 3 → ⊥ = λ e. a (of-true (eq-eqb kind 3 e)) in
        let y : kind ≡ 5 → ⊥ = λ e. b (of-true (eq-eqb kind 5 e)) in
        reaches-other occ kind s t h x y ∙ sym (reaches-other occ' kind s t h x y)

-- ---- the ranges of the tables, each by one test over the whole table

step_small : ℕ → Bool
step_small k = ltb (get_or step_xs k 0) 5 && ltb (get_or step_ys k 0) 5

steps-small : T (all_below step_small 16)
unfolding all_below step_small
steps-small = tt

pub step-lt : (k : ℕ) → k < 16 → (get_or step_xs k 0 < 5) × (get_or step_ys k 0 < 5)
unfolding step_small
step-lt k h =
    let t = below step_small 16 steps-small k h in
    let x = ltb (get_or step_xs k 0) 5 in
    let y = ltb (get_or step_ys k 0) 5 in
    (ltb→lt (get_or step_xs k 0) 5 (and_left x y t), ltb→lt (get_or step_ys k 0) 5 (and_right x y t))

kind-small : ℕ → Bool
kind-small kind = leb (get_or first_steps kind 0 + get_or step_counts kind 0) 16

kinds-small : T (all_below kind-small 6)
unfolding all_below kind-small
kinds-small = tt

kind-le : (kind : ℕ) → kind < 6 → get_or first_steps kind 0 + get_or step_counts kind 0 ≤ 16
unfolding kind-small
kind-le kind h = leb→le (get_or first_steps kind 0 + get_or step_counts kind 0) 16 (below kind-small 6 kinds-small kind h)

-- each step of a kind is a small one
pub step_of : (kind k : ℕ) → k ∈ steps_of kind → (get_or step_xs k 0 < 5) × (get_or step_ys k 0 < 5)
step_of kind k i =
    step-lt k
    (⊎_elim (λ h. absurd (none_in (no_steps kind h) i))
    (λ h. let a = kind-le kind h in
    omega (arith, (numbers-out (get_or step_counts kind 0) (get_or first_steps kind 0) k i).1)) (le-or-lt 6 kind))

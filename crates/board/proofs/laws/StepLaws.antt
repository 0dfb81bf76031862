-- Steps of a square's bit by shifts and masks: that they are the steps of the board.
-- A step is one number here, its change of file and 8 times its change of rank (Square).
use Rattle.std.specs.Prelude.{◌≡◌, Bool, ◌&&◌, List, [], ◌∷◌, ℕ, ◌+◌, ◌*◌, ◌/◌, ◌%◌, ◌<◌, T, eqb, get_or}
use Rattle.std.proofs.Common.{ap, ◌∙◌}
use native.Mathlib.Omega.{arith}
use Rattle.std.proofs.Math.Dec.{eqb→eq}
use Rattle.finite.specs.Truth.{and_left, and_right}
use Rattle.finite.specs.Below.{all_below, all_below2, all_below3, below, below3}
use Rattle.board.specs.Square.{stays, shift}
use Rattle.board.specs.Reach.{step_xs, step_ys, stepped}
use Rattle.board.specs.Sets.{pack, set_of}
use Rattle.board.proofs.laws.ReachLaws.{step-lt}
use Rattle.board.specs.SetLaws.{bit}
use Rattle.board.specs.StepLaws.{IsStep, ends_on, next, step_bits}

-- ---- one step

-- the code's table of these squares
abbrev step_ends : List ℕ
step_ends =
    4557430888798830399 ∷ 9187201950435737471 ∷ 18446744073709551615 ∷ 18374403900871474942 ∷ 18229723555195321596 ∷ []

ends-right : ℕ → Bool
ends-right x = eqb (get_or step_ends x 0) (set_of (ends_on x))

all-ends-right : T (all_below ends-right 5)
unfolding all_below ends-right set_of pack
all-ends-right = tt

pub ends-are : (x : ℕ) → x < 5 → get_or step_ends x 0 ≡ set_of (ends_on x)
unfolding ends-right
ends-are x h = eqb→eq (get_or step_ends x 0) (set_of (ends_on x)) (below ends-right 5 all-ends-right x h)

-- of a square's bit the bit of the next square, and 0 at the edge, as bit 64 is 0
shift-right : ℕ → ℕ → ℕ → Bool
shift-right s x y = eqb (step_bits (bit s) (x + 8 * y) (get_or step_ends x 0)) (bit (shift s x y))

shifts_right : T (all_below3 shift-right 64 5 5)
unfolding all_below all_below2 all_below3 shift-right step_bits shift stays
shifts_right = tt

module _ (b step ends : ℕ) (x : step % 8 < 5) (y : step / 8 < 5) (m : ends ≡ set_of (ends_on (step % 8))) where
  pub step-bit : {r : ℕ} → r ≡ step_bits b step ends → (s : ℕ) → s < 64 → b ≡ bit s
      → r ≡ bit (shift s (step % 8) (step / 8))
  unfolding shift-right
  step-bit q s h e =
      let parts : step ≡ step % 8 + 8 * (step / 8) = omega arith in
      q
      ∙ rw (m, ← ends-are (step % 8) x, e)
      (ap (λ z. step_bits (bit s) z (get_or step_ends (step % 8) 0)) parts
      ∙ eqb→eq _ _ (below3 shift-right 64 5 5 shifts_right s (step % 8) (step / 8) h x y))

-- the code's table of the eight directions
abbrev steps : List ℕ
steps = 10 ∷ 17 ∷ 19 ∷ 26 ∷ 9 ∷ 11 ∷ 25 ∷ 27 ∷ []

step_right : ℕ → Bool
step_right k = eqb (get_or steps k 0 % 8) (get_or step_xs k 0) && eqb (get_or steps k 0 / 8) (get_or step_ys k 0)

steps-right : T (all_below step_right 8)
unfolding all_below step_right
steps-right = tt

pub step_is : (k : ℕ) → k < 8 → IsStep (get_or steps k 0) k
unfolding step_right
step_is k h =
    let t = below step_right 8 steps-right k h in
    let x = eqb (get_or steps k 0 % 8) (get_or step_xs k 0) in
    let y = eqb (get_or steps k 0 / 8) (get_or step_ys k 0) in
    (eqb→eq _ _ (and_left x y t), eqb→eq _ _ (and_right x y t))

pub step_small : (step k : ℕ) → k < 8 → IsStep step k → (step % 8 < 5) × (step / 8 < 5)
step_small step k h p = let l = step-lt k (omega arith) in (rw p.0 l.0, rw p.1 l.1)

-- the k-th leads from s to the bit b
pub is-stepped : (s k step b : ℕ) → IsStep step k → b ≡ bit (next s step) → b ≡ bit (stepped s k)
is-stepped s k step b p e = e ∙ rw (p.0, p.1)

-- Laws of steps.
use Rattle.std.specs.Prelude.{◌≡◌, ◌&&◌, ℕ, ◌+◌, ◌-◌, ◌*◌, ◌/◌, ◌%◌, ◌≤◌, ◌<◌, T, leb, ltb}
use Rattle.std.proofs.Common.{⊎_elim, arith, leb→le, ltb→lt, lt-ltb}
use Rattle.finite.specs.Truth.{and_left, and_right, by-test, cond-true, cond-false, le-or-lt}
use Rattle.board.specs.Square.{stays, shift}
use Rattle.board.specs.StepLaws.{square_at}

-- what it means to stay on the board
pub record Stays (s dx dy : ℕ) : Type 0 where
  pub square : s < 64
  pub left : 2 ≤ s % 8 + dx
  pub right : s % 8 + dx ≤ 9
  pub bottom : 2 ≤ s / 8 + dy
  pub top : s / 8 + dy ≤ 9

pub stays-facts : (s dx dy : ℕ) → T (stays s dx dy) → Stays s dx dy
unfolding stays
stays-facts s dx dy t =
    let a = ltb s 64 && leb 2 (s % 8 + dx) in
    let b = a && leb (s % 8 + dx) 9 in
    let d = b && leb 2 (s / 8 + dy) in
    let td = and_left d (leb (s / 8 + dy) 9) t in
    let tb = and_left b (leb 2 (s / 8 + dy)) td in
    let ta = and_left a (leb (s % 8 + dx) 9) tb in
    record {
      square = ltb→lt s 64 (and_left (ltb s 64) (leb 2 (s % 8 + dx)) ta);
      left = leb→le 2 (s % 8 + dx) (and_right (ltb s 64) (leb 2 (s % 8 + dx)) ta);
      right = leb→le (s % 8 + dx) 9 (and_right a (leb (s % 8 + dx) 9) tb);
      bottom = leb→le 2 (s / 8 + dy) (and_right b (leb 2 (s / 8 + dy)) td);
      top = leb→le (s / 8 + dy) 9 (and_right d (leb (s / 8 + dy) 9) t);
    }

-- a step that leaves it
pub shift-out : (s dx dy : ℕ) → (Stays s dx dy → ⊥) → shift s dx dy ≡ 64
unfolding shift
shift-out s dx dy f =
    cond-false (stays s dx dy) ((s / 8 + dy - 2) * 8 + (s % 8 + dx - 2)) 64 (λ t. f (stays-facts s dx dy t))

-- off the board no step leads anywhere
pub shift-off : (s dx dy : ℕ) → 64 ≤ s → shift s dx dy ≡ 64
shift-off s dx dy h = shift-out s dx dy (λ w. omega arith)

pub shift_le : (s dx dy : ℕ) → shift s dx dy ≤ 64
unfolding shift
shift_le s dx dy =
    by-test (stays s dx dy)
    (λ t. let h = stays-facts s dx dy t in
    rw (cond-true (stays s dx dy) ((s / 8 + dy - 2) * 8 + (s % 8 + dx - 2)) 64 t) (omega arith))
    (λ f. rw (cond-false (stays s dx dy) ((s / 8 + dy - 2) * 8 + (s % 8 + dx - 2)) 64 f) (omega arith))

-- a step that ends on the board starts on it
pub shift_from : (s dx dy : ℕ) → shift s dx dy < 64 → s < 64
shift_from s dx dy h = ⊎_elim (λ q. absurd (omega (arith, shift-off s dx dy q))) (λ q. q) (le-or-lt 64 s)

-- from a square of the board, by its file and rank
pub shift-at : (s dx dy : ℕ) → s < 64 → shift s dx dy ≡ square_at (s % 8 + dx) (s / 8 + dy)
unfolding shift stays square_at
shift-at s dx dy h = rw (lt-ltb s 64 h)

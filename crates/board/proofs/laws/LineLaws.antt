-- Laws of lines of any length: where they start and end, and that only the board counts.
use Rattle.std.specs.Prelude.{◌≡◌, refl, Bool, false, not, ◌&&◌, ◌||◌, ℕ, zero, suc, ◌<◌, T, ltb, eqb}
use Rattle.std.proofs.Common.{subst, ⊎_elim, ltb→lt, eqb→eq, lt-ltb, le-ltb}
use Rattle.std.proofs.Math.Bool.{and-false, or-false}
use Rattle.std.proofs.Math.Dec.{eqb_refl}
use Rattle.finite.specs.Truth.{and_left, and_right, and_both, or_cases, of-true, same_test, le-or-lt}
use Rattle.board.specs.Square.{shift}
use Rattle.board.specs.Reach.{line}
use Rattle.board.proofs.laws.SquareLaws.{shift_from}

-- the edge comes next
pub line-off : (occ : ℕ → Bool) (n s dx dy t : ℕ) → shift s dx dy ≡ 64 → line occ n s dx dy t ≡ false
unfolding line
line-off occ zero s dx dy t h = refl
line-off occ (suc n) s dx dy t h = rw h

-- a line starts and ends on the board
pub line-squares : (occ : ℕ → Bool) (n s dx dy t : ℕ) → T (line occ n s dx dy t) → (s < 64) × (t < 64)
unfolding line
line-squares occ zero s dx dy t h = absurd h
line-squares occ (suc n) s dx dy t h =
    let u = shift s dx dy in
    let more = not (occ u) && line occ n u dx dy t in
    let on = ltb→lt u 64 (and_left (ltb u 64) (eqb u t || more) h) in (
      shift_from s dx dy on,
      ⊎_elim (λ e. subst (λ (z : ℕ). z < 64) (eqb→eq u t e) on)
          (λ r. (line-squares occ n u dx dy t (and_right (not (occ u)) (line occ n u dx dy t) r)).1)
          (or_cases (eqb u t) more (and_right (ltb u 64) (eqb u t || more) h)),
    )

-- only what stands on the board counts
pub line_same : (occ occ' : ℕ → Bool) → ((u : ℕ) → u < 64 → occ u ≡ occ' u) → (n s dx dy t : ℕ)
    → line occ n s dx dy t ≡ line occ' n s dx dy t
unfolding line
line_same occ occ' same zero s dx dy t = refl
line_same occ occ' same (suc n) s dx dy t =
    ⊎_elim (λ h. rw (le-ltb (shift s dx dy) 64 h))
    (λ h. rw (same (shift s dx dy) h, line_same occ occ' same n (shift s dx dy) dx dy t))
    (le-or-lt 64 (shift s dx dy))

-- nothing stands in the way of a single step
pub line-one : (occ occ' : ℕ → Bool) (s dx dy t : ℕ) → line occ 1 s dx dy t ≡ line occ' 1 s dx dy t
unfolding line
line-one occ occ' s dx dy t = rw (and-false (not (occ (shift s dx dy))), and-false (not (occ' (shift s dx dy))))

-- it ends on one square
pub line-single : (occ : ℕ → Bool) (s dx dy t : ℕ) → t < 64 → line occ 1 s dx dy t ≡ eqb t (shift s dx dy)
unfolding line
line-single occ s dx dy t h =
    let u = shift s dx dy in
    rw (and-false (not (occ u)), or-false (eqb u t)) (ends u)
  where
    ends : (u : ℕ) → (ltb u 64 && eqb u t) ≡ eqb t u
    ends u =
        same_test (ltb u 64 && eqb u t) (eqb t u) (λ q. rw (eqb→eq u t (and_right (ltb u 64) (eqb u t) q)) (eqb_refl t))
        (λ q. let e = eqb→eq t u q in subst (λ (z : ℕ). T (ltb z 64 && eqb z t)) e
        (and_both (ltb t 64) (eqb t t) (of-true (lt-ltb t 64 h)) (eqb_refl t)))

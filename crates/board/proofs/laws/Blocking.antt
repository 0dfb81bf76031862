-- What stands in a piece's way, for any direction: fewer occupied squares never take an attack away, the target itself does not count,
-- and no piece attacks the square it stands on.
use Rattle.std.specs.Prelude.{◌≡◌, Bool, ◌&&◌, ◌||◌, get_or}
use Rattle.std.proofs.Math.Path.{refl}
use Rattle.std.proofs.Common.{⊎_elim}
use Rattle.std.proofs.Math.Bool.{true, false, not}
use Prim.Native.Nat.{ℕ, zero, suc, ◌<◌}
use Rattle.std.proofs.Math.Dec.{T, ltb, eqb, not_T, T_not}
use Rattle.std.proofs.lemmas.Bool.{eqb-false}
use Rattle.finite.specs.Truth.{and_left, and_right, and_both, fails, le-or-lt}
use Rattle.finite.specs.Members.{any, any-in, any_out}
use Rattle.finite.specs.Numbers.{numbers}
use Rattle.finite.specs.Below.{all_below, all_below2, below2}
use Rattle.board.specs.Square.{stays, shift}
use Rattle.board.specs.Reach.{line, step_xs, step_ys, step_ranges, steps_of, line_of, reaches}
use Rattle.board.proofs.laws.ReachLaws.{reaches-squares, reaches-none}

-- every square that stands in the way in occ', the target apart, does so in occ
module _ (occ occ' : ℕ → Bool) (t : ℕ) (fewer : (u : ℕ) → (u ≡ t → ⊥) → T (occ' u) → T (occ u)) where
  line-fewer : (n s dx dy : ℕ) → T (line occ n s dx dy t) → T (line occ' n s dx dy t)
  unfolding line
  line-fewer zero s dx dy h = h
  line-fewer (suc n) s dx dy h =
      let u = shift s dx dy in
      let on = ltb u 64 in
      let goal = eqb u t || not (occ u) && line occ n u dx dy t in
      and_both on (eqb u t || not (occ' u) && line occ' n u dx dy t) (and_left on goal h)
      (go (eqb u t) refl (λ r. line-fewer n u dx dy r) (and_right on goal h))
    where
      go : (b : Bool) → eqb (shift s dx dy) t ≡ b
          → (T (line occ n (shift s dx dy) dx dy t) → T (line occ' n (shift s dx dy) dx dy t))
          → T (b || not (occ (shift s dx dy)) && line occ n (shift s dx dy) dx dy t)
          → T (b || not (occ' (shift s dx dy)) && line occ' n (shift s dx dy) dx dy t)
      go true e more r = tt
      go false e more r =
          let u = shift s dx dy in
          and_both (not (occ' u)) (line occ' n u dx dy t)
          (not_T (occ' u)
          (λ o. T_not (occ u) (and_left (not (occ u)) (line occ n u dx dy t) r) (fewer u (eqb-false u t e) o)))
          (more (and_right (not (occ u)) (line occ n u dx dy t) r))

  pub reaches-fewer : (kind s : ℕ) → T (reaches occ kind s t) → T (reaches occ' kind s t)
  unfolding reaches
  reaches-fewer kind s h =
      let w = any_out (line_of occ kind s t) (steps_of kind) h in
      any-in (line_of occ' kind s t) w.1
      (line-fewer (get_or step_ranges kind 0) s (get_or step_xs w.0 0) (get_or step_ys w.0 0) w.2)

-- on the empty board, by one test over all kinds and squares
away : ℕ → ℕ → Bool
away kind s = not (reaches (λ u. false) kind s s)

all-away : T (all_below2 away 6 64)
unfolding all_below all_below2 away reaches any numbers line shift stays
all-away = tt

pub reaches-own : (occ : ℕ → Bool) (kind s : ℕ) → reaches occ kind s s ≡ false
unfolding away
reaches-own occ kind s =
    ⊎_elim (λ h. reaches-none occ kind s s h) (λ h. fails (reaches occ kind s s) (λ r. own h r)) (le-or-lt 6 kind)
  where
    own : kind < 6 → T (reaches occ kind s s) → ⊥
    own h r =
        T_not (reaches (λ u. false) kind s s) (below2 away 6 64 all-away kind s h (reaches-squares occ kind s s r).0)
        (reaches-fewer occ (λ u. false) s (λ u n o. absurd o) kind s r)

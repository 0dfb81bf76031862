-- Lines and reaching under the eight maps, shown once for all eight, all directions and all kinds of piece.
use Rattle.std.specs.Prelude.{◌≡◌, Bool, ◌&&◌, eqb}
use Rattle.std.proofs.Math.Path.{refl}
use Rattle.std.proofs.Common.{sym, ap, ◌∙◌}
use Rattle.std.proofs.Math.Logic.{⊎_elim}
use Prim.Native.Nat.{ℕ, zero, suc, ◌<◌}
use Rattle.std.proofs.Math.Dec.{T, eqb→eq}
use Rattle.std.proofs.Math.ListN.{get_or}
use Rattle.finite.specs.Truth.{and_left, and_right, same_test, le-or-lt}
use Rattle.finite.specs.Members.{◌∈◌, any, all, any-in, any_out, all-out, none_in}
use Rattle.finite.specs.Numbers.{numbers}
use Rattle.finite.specs.Below.{all_below, below}
use Rattle.board.specs.Square.{shift}
use Rattle.board.specs.Reach.{line, step_xs, step_ys, step_ranges, steps_of, reaches}
use Rattle.board.proofs.laws.ReachLaws.{no_steps, step_of}
use Rattle.symmetry.specs.Symmetry.{Symmetry, mapped, mapped_x, mapped_y, inverse}
use Rattle.symmetry.proofs.laws.SymmetryLaws.{all_symmetries, symmetry-at, mapped-inverse, inverse-mapped, ltb-mapped, eqb-mapped, shift-mapped}

-- the j-th step is the k-th on the mapped board
same_step : Symmetry → ℕ → ℕ → Bool
same_step m k j =
    eqb (get_or step_xs j 0) (mapped_x m (get_or step_xs k 0) (get_or step_ys k 0)) && eqb (get_or step_ys j 0)
    (mapped_y m (get_or step_xs k 0) (get_or step_ys k 0))

-- the steps of a kind, mapped, are steps of that kind
closed : Symmetry → ℕ → Bool
closed m kind = all (λ k. any (same_step m k) (steps_of kind)) (steps_of kind)

all_closed : T (all_symmetries (λ m. all_below (closed m) 6))
unfolding all_symmetries all any all_below closed same_step mapped_x mapped_y numbers
all_closed = tt

-- what holds along a step holds, mapped, along the mapped step: so for one of a kind's steps
module _ (m : Symmetry) (f g : ℕ → ℕ → Bool)
    (map-step : (x y : ℕ) → x < 5 → y < 5 → T (f x y) → T (g (mapped_x m x y) (mapped_y m x y))) (kind : ℕ) where
  pub steps-mapped : T (any (λ k. f (get_or step_xs k 0) (get_or step_ys k 0)) (steps_of kind))
      → T (any (λ k. g (get_or step_xs k 0) (get_or step_ys k 0)) (steps_of kind))
  unfolding closed same_step
  steps-mapped t =
      let w = any_out (λ k. f (get_or step_xs k 0) (get_or step_ys k 0)) (steps_of kind) t in
      let x = get_or step_xs w.0 0 in
      let y = get_or step_ys w.0 0 in
      let small = step_of kind w.0 w.1 in
      let v = any_out (same_step m w.0) (steps_of kind)
      (all-out (λ k. any (same_step m k) (steps_of kind)) w.1 (kind-closed w.1)) in
      let ex = eqb→eq (get_or step_xs v.0 0) (mapped_x m x y)
      (and_left (eqb (get_or step_xs v.0 0) (mapped_x m x y)) (eqb (get_or step_ys v.0 0) (mapped_y m x y)) v.2) in
      let ey = eqb→eq (get_or step_ys v.0 0) (mapped_y m x y)
      (and_right (eqb (get_or step_xs v.0 0) (mapped_x m x y)) (eqb (get_or step_ys v.0 0) (mapped_y m x y)) v.2)
      in
      any-in (λ k. g (get_or step_xs k 0) (get_or step_ys k 0)) v.1
      (rw (ex, ey) (map-step x y small.0 small.1 w.2))
    where
      kind-closed : {k : ℕ} → k ∈ steps_of kind → T (closed m kind)
      kind-closed i =
          ⊎_elim (λ h. absurd (none_in (no_steps kind h) i))
          (λ h. below (closed m) 6 (symmetry-at (λ m. all_below (closed m) 6) all_closed m) kind h) (le-or-lt 6 kind)

module _ (m : Symmetry) (occ occ' : ℕ → Bool) (same : (s : ℕ) → occ' (mapped m s) ≡ occ s) where
  pub line-mapped : (n s dx dy t : ℕ) → dx < 5 → dy < 5
      → line occ' n (mapped m s) (mapped_x m dx dy) (mapped_y m dx dy) (mapped m t) ≡ line occ n s dx dy t
  unfolding line
  line-mapped zero s dx dy t hx hy = refl
  line-mapped (suc n) s dx dy t hx hy =
      rw (
        shift-mapped m s dx dy hx hy,
        ltb-mapped m (shift s dx dy),
        eqb-mapped m (shift s dx dy) t,
        same (shift s dx dy),
        line-mapped n (shift s dx dy) dx dy t hx hy,
      )

  reaches-forth : (kind s t : ℕ) → T (reaches occ kind s t) → T (reaches occ' kind (mapped m s) (mapped m t))
  unfolding reaches
  reaches-forth kind s t =
      steps-mapped m (λ x y. line occ (get_or step_ranges kind 0) s x y t)
      (λ x y. line occ' (get_or step_ranges kind 0) (mapped m s) x y (mapped m t))
      (λ x y hx hy r. rw (line-mapped (get_or step_ranges kind 0) s x y t hx hy) r) kind

-- a piece attacks the same squares on the board and on its image
pub reaches-mapped : (m : Symmetry) (occ occ' : ℕ → Bool) → ((s : ℕ) → occ' (mapped m s) ≡ occ s) → (kind s t : ℕ)
    → reaches occ' kind (mapped m s) (mapped m t) ≡ reaches occ kind s t
reaches-mapped m occ occ' same kind s t =
    same_test (reaches occ' kind (mapped m s) (mapped m t)) (reaches occ kind s t)
    (λ r. rw (mapped-inverse m s, mapped-inverse m t) at
    (reaches-forth (inverse m) occ' occ (λ u. sym (same (mapped (inverse m) u)) ∙ ap occ' (inverse-mapped m u))
    kind (mapped m s) (mapped m t) r))
    (reaches-forth m occ occ' same kind s t)

-- A king attacks at most 8 squares and any other piece at most 27, whatever stands in the way.
use Rattle.std.specs.Prelude.{refl, Bool, true, false, cond, not, ◌&&◌, ◌||◌, T, leb, ltb, eqb, get_or}
use Rattle.std.proofs.Common.{subst, inl, ⊎_elim, le_trans, arith, leb→le}
use Prim.Native.Nat.{ℕ, zero, suc, ◌+◌, ◌≤◌}
use Rattle.finite.specs.Truth.{and_right, or_left, or_right, or_cases, le-or-lt, eqb-sym}
use Rattle.finite.specs.Below.{all_below, all_below2, below2}
use Rattle.finite.specs.Numbers.{numbers}
use Rattle.board.specs.Square.{stays, shift}
use Rattle.board.specs.Reach.{line, step_xs, step_ys, step_ranges, steps_of, line_of, reaches}
use Rattle.board.proofs.laws.ReachLaws.{reaches-off, reaches-none}
use Rattle.limit.proofs.laws.Sums.{total, weighed, weighed-one, weighed-none, weighed-fewer, weighed-or, weighed-any}
use Rattle.limit.specs.Most.{most}

-- where each square has a weight
module _ (g : ℕ → ℕ) where
  -- the weights on the way to the edge, at most n steps
  unfoldable pub load : ℕ → ℕ → ℕ → ℕ → ℕ
  load zero s dx dy = 0
  load (suc n) s dx dy = cond (ltb (shift s dx dy) 64) (g (shift s dx dy) + load n (shift s dx dy) dx dy) 0

  pub line-most : (occ : ℕ → Bool) (n s dx dy : ℕ) → weighed g (line occ n s dx dy) ≤ load n s dx dy
  unfolding line load
  line-most occ zero s dx dy = weighed-none g (λ t. false) 0 (λ t. refl)
  line-most occ (suc n) s dx dy = go (ltb (shift s dx dy) 64) (line-most occ n (shift s dx dy) dx dy)
    where
      u : ℕ
      u = shift s dx dy

      -- the next square, or one further on
      either : (t : ℕ) → T (eqb u t || not (occ u) && line occ n u dx dy t) → T (eqb t u || line occ n u dx dy t)
      either t h =
          ⊎_elim (λ e. or_left (eqb t u) (line occ n u dx dy t) (subst T (eqb-sym u t) e))
          (λ m. or_right (eqb t u) (line occ n u dx dy t) (and_right (not (occ u)) (line occ n u dx dy t) m))
          (or_cases (eqb u t) (not (occ u) && line occ n u dx dy t) h)

      go : (on : Bool) → weighed g (line occ n u dx dy) ≤ load n u dx dy
          → weighed g (λ t. on && (eqb u t || not (occ u) && line occ n u dx dy t))
          ≤ cond on (g u + load n u dx dy) 0
      go true h =
          le_trans (weighed-fewer g (λ t. eqb u t || not (occ u) && line occ n u dx dy t)
          (λ t. eqb t u || line occ n u dx dy t) either)
          (omega (arith, weighed-or g (λ t. eqb t u) (line occ n u dx dy), weighed-one g u))
      go false h = weighed-none g (λ t. false) 0 (λ t. refl)

  -- those of all its lines
  unfoldable pub of_kind : ℕ → ℕ → ℕ
  of_kind kind s = total (λ k. load (get_or step_ranges kind 0) s (get_or step_xs k 0) (get_or step_ys k 0)) (steps_of kind)

  pub reaches-load : (occ : ℕ → Bool) (kind s : ℕ) → weighed g (reaches occ kind s) ≤ of_kind kind s
  unfolding reaches of_kind
  reaches-load occ kind s =
      weighed-any g (line_of occ kind s) (λ k. load (get_or step_ranges kind 0) s (get_or step_xs k 0) (get_or step_ys k 0))
      (steps_of kind) (λ k. line-most occ (get_or step_ranges kind 0) s (get_or step_xs k 0) (get_or step_ys k 0))

-- ---- where each counts for one

abbrev pub one : ℕ → ℕ
one t = 1

within : ℕ → ℕ → Bool
within kind s = leb (of_kind one kind s) (most kind)

all-within : T (all_below2 within 6 64)
unfolding all_below all_below2 within of_kind total load numbers shift stays
all-within = tt

pub reaches-most : (occ : ℕ → Bool) (kind s : ℕ) → weighed one (reaches occ kind s) ≤ most kind
unfolding within
reaches-most occ kind s =
    ⊎_elim (λ h. weighed-none one (reaches occ kind s) (most kind) (λ t. reaches-none occ kind s t h))
    (λ h. ⊎_elim (λ o. weighed-none one (reaches occ kind s) (most kind) (λ t. reaches-off occ kind s t (inl o)))
    (λ o. le_trans (reaches-load one occ kind s)
    (leb→le (of_kind one kind s) (most kind) (below2 within 6 64 all-within kind s h o)))
    (le-or-lt 64 s)) (le-or-lt 6 kind)

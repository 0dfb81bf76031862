-- Lines and attack by walks: a line leads to a square, and a queen, rook or bishop attacks it, exactly if a walk meets it first.
use Rattle.std.specs.Prelude.{◌≡◌, Bool, true, false, cond, not, ◌&&◌, ◌||◌, eqb, get_or, Option, Some}
use Rattle.std.proofs.Math.Path.{refl}
use Rattle.std.proofs.Common.{sym, ap, ◌∙◌, arith, eqb→eq, lit≤, lt-ltb, le-ltb}
use Rattle.std.proofs.Math.Logic.{⊎_elim}
use Rattle.std.proofs.Math.Bool.{or-false}
use Prim.Native.Nat.{ℕ, zero, suc, ◌+◌, ◌≤◌, ◌<◌}
use Rattle.finite.specs.Truth.{by-test, fails, le-or-lt}
use Rattle.finite.specs.Members.{any, any_same}
use Rattle.finite.specs.Numbers.{numbers-out}
use Rattle.board.specs.Reach.{line, step_xs, step_ys, stepped, step_ranges, first_steps, step_counts, steps_of, line_of, reaches}
use Rattle.board.specs.Walk.{first_met, walk_of, met_at, with_target, meets_first}
use Rattle.board.proofs.laws.WalkLaws.{walk-edge, walk-next, walk_same}

-- over Booleans: e whether the next square u is t, o whether it is occupied
module _ (u t : ℕ) where
  met_next : (o e more : Bool) (rest : Option ℕ) → eqb u t ≡ e → more ≡ met_at rest t
      → (e || not o && more) ≡ met_at (cond (o || e) (Some u) rest) t
  met_next true true more rest q r = sym q
  met_next true false more rest q r = sym q
  met_next false true more rest q r = sym q
  met_next false false more rest q r = r

module _ (occ : ℕ → Bool) (t : ℕ) where
  line_first : (n s k : ℕ)
      → line occ n s (get_or step_xs k 0) (get_or step_ys k 0) t ≡ met_at (first_met (with_target occ t) n s k) t
  unfolding line first_met
  line_first zero s k = refl
  line_first (suc n) s k =
      let u = stepped s k in
      ⊎_elim (λ h. rw (le-ltb u 64 h))
      (λ h. rw (lt-ltb u 64 h)
      (met_next u t (occ u) (eqb u t) (line occ n u (get_or step_xs k 0) (get_or step_ys k 0) t)
      (first_met (with_target occ t) n u k) refl (line_first n u k)))
      (le-or-lt 64 u)

  -- a line leads to t exactly if the walk meets t first
  pub line_walk : (s k : ℕ) → k < 8 → line_of occ 0 s t k ≡ meets_first occ s t k
  unfolding walk_of
  line_walk s k h = rw (lt-ltb k 8 h) (line_first 7 s k)

  -- so lines go as walks do: the edge comes next,
  pub line-edge : (s k : ℕ) → k < 8 → 64 ≤ stepped s k → line_of occ 0 s t k ≡ false
  line-edge s k h q = line_walk s k h ∙ ap (λ m. met_at m t) (walk-edge (with_target occ t) s k h q)

  -- or a square does
  pub line-next : (s k : ℕ) → k < 8 → stepped s k < 64
      → line_of occ 0 s t k ≡ (eqb (stepped s k) t || not (occ (stepped s k)) && line_of occ 0 (stepped s k) t k)
  line-next s k h q =
      let u = stepped s k in
      line_walk s k h
      ∙ ap (λ m. met_at m t) (walk-next (with_target occ t) s k h q)
      ∙ sym (met_next u t (occ u) (eqb u t) (line_of occ 0 u t k) (walk_of (with_target occ t) u k) refl (line_walk u k h))

-- ---- attack by walks

-- a piece that may repeat a step seven times, and has no steps but the eight directions
along : (occ : ℕ → Bool) (kind s t : ℕ) → get_or step_ranges kind 0 ≡ 7
    → get_or first_steps kind 0 + get_or step_counts kind 0 ≤ 8
    → reaches occ kind s t ≡ any (meets_first occ s t) (steps_of kind)
unfolding reaches
along occ kind s t e h =
    any_same (line_of occ kind s t) (meets_first occ s t) (steps_of kind)
    (λ k i. rw e
    (line_walk occ t s k (omega (arith, (numbers-out (get_or step_counts kind 0) (get_or first_steps kind 0) k i).1))))

-- a queen, rook or bishop attacks t exactly if a walk in one of its directions meets t first
pub attacks-by-walk : (occ : ℕ → Bool) (kind s t : ℕ) → kind < 3
    → reaches occ kind s t ≡ any (meets_first occ s t) (steps_of kind)
attacks-by-walk occ zero s t h = along occ 0 s t refl (lit≤ tt)
attacks-by-walk occ (suc zero) s t h = along occ 1 s t refl (lit≤ tt)
attacks-by-walk occ (suc (suc zero)) s t h = along occ 2 s t refl (lit≤ tt)
attacks-by-walk occ (suc (suc (suc kind))) s t h = absurd (omega arith)

-- where t stands occupied, the walk over the occupied squares as they are
pub attacks-occupied : (occ : ℕ → Bool) (kind s t : ℕ) → kind < 3 → occ t ≡ true
    → reaches occ kind s t ≡ any (λ k. met_at (walk_of occ s k) t) (steps_of kind)
attacks-occupied occ kind s t h o =
    attacks-by-walk occ kind s t h
    ∙ any_same (meets_first occ s t) (λ k. met_at (walk_of occ s k) t) (steps_of kind)
    (λ k i. ap (λ m. met_at m t) (walk_same (with_target occ t) occ same s k))
  where
    same : (u : ℕ) → u < 64 → with_target occ t u ≡ occ u
    same u l =
        by-test (eqb u t) (λ q. let e = eqb→eq u t q in rw (e, o)) (λ n. rw (fails (eqb u t) n) (or-false (occ u)))

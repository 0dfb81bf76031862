-- Attack where a piece is put on a square: its own, there and back, and another's, which it may only cut.
use Rattle.std.specs.Prelude.{◌≡◌, ◌⊎◌, Bool, ◌&&◌, ◌||◌, ltb, get_or}
use Rattle.std.proofs.Math.Path.{refl, subst⁻¹}
use Rattle.std.proofs.Common.{sym, subst, ◌∙◌, lt-ltb, ne_eqb}
use Rattle.std.proofs.Math.Logic.{inl, inr, ⊎_elim}
use Rattle.std.proofs.Math.Bool.{true, false, not}
use Prim.Native.Nat.{ℕ, zero, suc, ◌<◌}
use Rattle.std.proofs.Math.Dec.{T, eqb, ltb→lt}
use Rattle.std.proofs.lemmas.Bool.{eqb-false}
use Rattle.finite.specs.Truth.{decided, and_left, and_right, and_both, or_left, or_right, or_cases, false_of, fails, refuted, same_test}
use Rattle.finite.specs.Members.{any-in, any_out}
use Rattle.board.specs.Square.{shift}
use Rattle.board.specs.Reach.{line, step_xs, step_ys, step_ranges, steps_of, line_of, reaches}
use Rattle.board.proofs.laws.ReachLaws.{reaches_same}
use Rattle.board.proofs.laws.Blocking.{reaches-fewer}
use Rattle.symmetry.proofs.laws.Opposite.{reaches-sym}

-- ---- what stands on the board

within : (ℕ → Bool) → ℕ → Bool
within occ u = ltb u 64 && occ u

within_same : (occ : ℕ → Bool) (kind s t : ℕ) → reaches (within occ) kind s t ≡ reaches occ kind s t
unfolding within
within_same occ kind s t = reaches_same (within occ) occ (λ u l. rw (lt-ltb u 64 l)) kind s t

-- ---- a piece goes back as it came, whatever stands on the two squares

module _ (occ occ' : ℕ → Bool) (kind s t : ℕ)
    (same : (u : ℕ) → u < 64 → (u ≡ s → ⊥) → (u ≡ t → ⊥) → occ' u ≡ occ u) where
  -- what stands elsewhere, and the target
  mid : ℕ → Bool
  mid u = (occ u && not (eqb u s)) || eqb u t

  mid-less : (u : ℕ) → (u ≡ t → ⊥) → T (mid u) → T (occ u)
  unfolding mid
  mid-less u n o = go (eqb u t) (ne_eqb u t n) o
    where
      go : (x : Bool) → x ≡ false → T ((occ u && not (eqb u s)) || x) → T (occ u)
      go true e o = absurd (refuted e tt)
      go false e o = ⊎_elim (λ a. and_left (occ u) (not (eqb u s)) a) (λ a. absurd a)
          (or_cases (occ u && not (eqb u s)) false o)

  mid-more : (u : ℕ) → (u ≡ s → ⊥) → T (within occ' u) → T (mid u)
  unfolding mid within
  mid-more u n o = go (decided (eqb u t))
    where
      go : T (eqb u t) ⊎ T (not (eqb u t)) → T (mid u)
      go (inl x) = or_right (occ u && not (eqb u s)) (eqb u t) x
      go (inr x) = or_left (occ u && not (eqb u s)) (eqb u t)
          (and_both (occ u) (not (eqb u s))
          (subst T (same u (ltb→lt u 64 (and_left (ltb u 64) (occ' u) o)) n (eqb-false u t (false_of x))) (and_right (ltb u 64) (occ' u) o))
          (subst⁻¹ (λ (b : Bool). T (not b)) (ne_eqb u s n) tt))

  pub reaches-again : T (reaches occ kind s t) → T (reaches occ' kind t s)
  reaches-again h =
      let h1 = reaches-fewer occ mid t mid-less kind s h in
      let h2 = subst T (reaches-sym mid kind s t) h1 in
      subst T (within_same occ' kind t s) (reaches-fewer mid (within occ') s mid-more kind t h2)

-- ---- a piece on s, by what stands there without it

module _ (occ stood : ℕ → Bool) (s t : ℕ) (same : (u : ℕ) → u < 64 → (u ≡ s → ⊥) → occ u ≡ stood u)
    (gone : stood s ≡ false) where
  less : (u : ℕ) → (u ≡ t → ⊥) → T (within stood u) → T (occ u)
  unfolding within
  less u n o =
      let h = ltb→lt u 64 (and_left (ltb u 64) (stood u) o) in
      let w = and_right (ltb u 64) (stood u) o in
      subst⁻¹ T (same u h (λ e. refuted gone (subst (λ (x : ℕ). T (stood x)) e w))) w

  -- another's line, which it may only cut
  pub line-cut : (kind a : ℕ) → reaches stood kind a t ≡ false → reaches occ kind a t ≡ false
  line-cut kind a e =
      fails (reaches occ kind a t)
      (λ h. refuted (within_same stood kind a t ∙ e) (reaches-fewer occ (within stood) t less kind a h))

  -- one that it cuts: it stands in the way
  line-met : (n a dx dy : ℕ) → T (line stood n a dx dy t) → T (line occ n a dx dy t) ⊎ T (line stood n a dx dy s)
  unfolding line
  line-met zero a dx dy h = inl h
  line-met (suc n) a dx dy h =
      let u = shift a dx dy in
      let here = eqb u t || not (stood u) && line stood n u dx dy t in
      let on = and_left (ltb u 64) here h in
      go on (eqb u t) (eqb u s) refl (line-met n u dx dy) (and_right (ltb u 64) here h)
    where
      go : T (ltb (shift a dx dy) 64) → (b d : Bool) → eqb (shift a dx dy) s ≡ d
          → (T (line stood n (shift a dx dy) dx dy t) → T (line occ n (shift a dx dy) dx dy t) ⊎ T (line stood n (shift a dx dy) dx dy s))
          → T (b || not (stood (shift a dx dy)) && line stood n (shift a dx dy) dx dy t)
          → T (ltb (shift a dx dy) 64 && (b || not (occ (shift a dx dy)) && line occ n (shift a dx dy) dx dy t))
          ⊎ T (ltb (shift a dx dy) 64 && (d || not (stood (shift a dx dy)) && line stood n (shift a dx dy) dx dy s))
      go on true d e more r = inl (and_both (ltb (shift a dx dy) 64) true on tt)
      go on false true e more r = inr (and_both (ltb (shift a dx dy) 64) true on tt)
      go on false false e more r =
          let u = shift a dx dy in
          let free = and_left (not (stood u)) (line stood n u dx dy t) r in
          ⊎_elim
          (λ x. inl (and_both (ltb u 64) (not (occ u) && line occ n u dx dy t) on
          (and_both (not (occ u)) (line occ n u dx dy t)
          (subst⁻¹ (λ (b : Bool). T (not b)) (same u (ltb→lt u 64 on) (eqb-false u s e)) free) x)))
          (λ x. inr (and_both (ltb u 64) (not (stood u) && line stood n u dx dy s) on (and_both (not (stood u)) (line stood n u dx dy s) free x)))
          (more (and_right (not (stood u)) (line stood n u dx dy t) r))

  pub reaches-met : (kind a : ℕ) → T (reaches stood kind a t) → T (reaches occ kind a t) ⊎ T (reaches stood kind a s)
  unfolding reaches
  reaches-met kind a h =
      let w = any_out (line_of stood kind a t) (steps_of kind) h in
      ⊎_elim (λ x. inl (any-in (line_of occ kind a t) w.1 x)) (λ x. inr (any-in (line_of stood kind a s) w.1 x))
      (line-met (get_or step_ranges kind 0) a (get_or step_xs w.0 0) (get_or step_ys w.0 0) w.2)

  -- its own, there and back
  pub line-own : (kind : ℕ) → reaches occ kind s t ≡ reaches stood kind t s
  line-own kind =
      same_test (reaches occ kind s t) (reaches stood kind t s)
      (reaches-again occ stood kind s t (λ u h a b. sym (same u h a)))
      (reaches-again stood occ kind t s (λ u h a b. same u h b))

-- Squares looked at one after the other: those no longer in the rest do not pass a test; what is known of them is kept.
use Rattle.std.specs.Prelude.{◌≡◌, refl, Bool, true, false, not, ◌&&◌, ◌||◌, ◌⊎◌, [], ℕ, ◌^◌, ◌<◌, T, eqb}
use Rattle.std.proofs.Common.{ap, subst, ◌∙◌, inl, inr, ⊎_elim, eqb→eq}
use Rattle.std.proofs.Math.Path.{subst⁻¹}
use Rattle.std.specs.Int.Bits.{bit_and, and_lt}
use Rattle.finite.specs.Members.{none_in}
use Rattle.finite.specs.Truth.{decided, and_left, and_right, and_both, or_cases}
use Rattle.board.specs.Sets.{has, members, set_of, lowest_square}
use Rattle.board.proofs.laws.SetLaws.{members-in, has-and, set-has}
use Rattle.board.proofs.laws.LowestLaws.{Lowest}
use Rattle.working_back.proofs.laws.Sources.{lowest-in}

module _ (f : ℕ → Bool) (goals : ℕ) where
  abbrev pub Unpassed : ℕ → Type 0
  Unpassed rest = (s : ℕ) → s < 64 → T (has goals s) → T (has rest s) ⊎ (f s ≡ false)

  pub unpassed-turn : (rest rest' t : ℕ) → Unpassed rest → Lowest rest t rest' → f t ≡ false → Unpassed rest'
  unpassed-turn rest rest' t u low e s h g =
      ⊎_elim
      (λ x. ⊎_elim (λ b. inr (ap f (eqb→eq s t b) ∙ e)) (λ b. inl b) (or_cases (eqb s t) (has rest' s) (subst T (low.others s h) x)))
      (λ x. inr x) (u s h g)

  pub unpassed-end : (rest : ℕ) → members rest ≡ [] → Unpassed rest → (s : ℕ) → s < 64 → T (has goals s) → f s ≡ false
  unpassed-end rest e u s h g =
      ⊎_elim (λ x. absurd (none_in e (members-in rest s h x))) (λ x. x) (u s h g)

  -- with those that are known not to pass left out
  pub unpassed-start : (known rest : ℕ) → rest ≡ set_of (λ (u : ℕ). has goals u && not (has known u))
      → ((s : ℕ) → s < 64 → T (has known s) → f s ≡ false) → Unpassed rest
  unpassed-start known rest e w s h g = ⊎_elim
      (λ x. inr (w s h x))
      (λ x. inl (subst⁻¹ T (set-has _ e s h) (and_both (has goals s) (not (has known s)) g x)))
      (decided (has known s))

  pub rest_in : (known rest : ℕ) → rest ≡ set_of (λ (u : ℕ). has goals u && not (has known u)) → (s : ℕ) → s < 64 → T (has rest s) → T (has goals s)
  rest_in known rest e s h g = and_left (has goals s) (not (has known s)) (subst T (set-has _ e s h) g)

  -- one more is known
  pub known_more : (b : Bool) (known more t : ℕ) → more ≡ set_of (λ (u : ℕ). has known u || eqb u t)
      → ((s : ℕ) → s < 64 → T (has known s) → f s ≡ b) → f t ≡ b → (s : ℕ) → s < 64 → T (has more s) → f s ≡ b
  known_more b known more t e w z s h g = ⊎_elim
      (λ x. w s h x) (λ x. ap f (eqb→eq s t x) ∙ z) (or_cases (has known s) (eqb s t) (subst T (set-has _ e s h) g))

  -- one of them is known to pass
  pub common : (known : ℕ) → goals < 2 ^ 64 → known < 2 ^ 64 → (bit_and goals known ≡ 0 → ⊥) → ((s : ℕ) → s < 64 → T (has known s) → f s ≡ true)
      → (s : ℕ) × (s < 64) × T (has goals s) × (f s ≡ true)
  common known hg hk n w =
      let both = bit_and goals known in
      let z = lowest-in both (lowest_square both) (and_lt 64 goals known hg hk) n refl in
      let x = subst T (has-and goals known (lowest_square both)) z.1 in
      (lowest_square both, z.0, and_left (has goals _) (has known _) x, w (lowest_square both) z.0 (and_right (has goals _) (has known _) x))

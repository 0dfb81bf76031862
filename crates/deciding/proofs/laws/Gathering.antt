-- A set gathered square by square: below s it holds the squares that pass a test.
use Rattle.std.specs.Prelude.{◌≡◌, Bool, true, false, not, ◌&&◌, ◌||◌, ◌⊎◌, ℕ, ◌+◌, T, ltb, eqb}
use Rattle.std.proofs.Common.{sym, ap, ◌∙◌, inl, inr, ⊎_elim, arith, eqb→eq, lt-ltb, le-ltb}
use Rattle.std.proofs.Math.Bool.{and-false, or-true, or-false}
use Rattle.std.proofs.lemmas.Bool.{eqb-false}
use Rattle.finite.specs.Truth.{decided, true_of, false_of, le-or-lt}
use Rattle.board.specs.Sets.{has}

next : (u s : ℕ) → (u ≡ s → ⊥) → ltb u (s + 1) ≡ ltb u s
next u s n =
    ⊎_elim (λ h. le-ltb u (s + 1) (omega (arith, h, n)) ∙ sym (le-ltb u s h))
    (λ h. lt-ltb u (s + 1) (omega (arith, h)) ∙ sym (lt-ltb u s h)) (le-or-lt s u)

module _ (f : ℕ → Bool) (set s u : ℕ) (e : has set u ≡ (ltb u s && f u)) where
  pub gathered-out : f s ≡ false → has set u ≡ (ltb u (s + 1) && f u)
  gathered-out z = go (decided (eqb u s))
    where
      go : T (eqb u s) ⊎ T (not (eqb u s)) → has set u ≡ (ltb u (s + 1) && f u)
      go (inl t) =
          let w = ap f (eqb→eq u s t) ∙ z in
          e ∙ rw (w, and-false (ltb u s), and-false (ltb u (s + 1)))
      go (inr t) = e ∙ ap (λ (x : Bool). x && f u) (sym (next u s (eqb-false u s (false_of t))))

  pub gathered-in : (more : ℕ) → has more u ≡ (has set u || eqb u s) → f s ≡ true → has more u ≡ (ltb u (s + 1) && f u)
  gathered-in more d z = go (decided (eqb u s))
    where
      go : T (eqb u s) ⊎ T (not (eqb u s)) → has more u ≡ (ltb u (s + 1) && f u)
      go (inl t) =
          let w = ap f (eqb→eq u s t) ∙ z in
          let l = lt-ltb u (s + 1) (omega (arith, eqb→eq u s t)) in
          let y : eqb u s ≡ true = true_of t in
          d ∙ rw (y, or-true (has set u), l, w)
      go (inr t) =
          let y : eqb u s ≡ false = false_of t in
          d ∙ rw (y, or-false (has set u)) (e ∙ ap (λ (x : Bool). x && f u) (sym (next u s (eqb-false u s (false_of t)))))

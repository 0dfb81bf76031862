-- Whether the rule requires one depth: no successor's byte spoils it, and one meets it. A loop may stop at the first that spoils it.
use Rattle.std.specs.Prelude.{◌≡◌, ◌⊎◌, ◌↔◌, false, not, ◌&&◌, List, ℕ, ◌+◌, ◌%◌, ◌≤◌, ◌<◌, T, leb, ltb, eqb}
use Rattle.std.proofs.Common.{sym, inl, inr, arith, leb→le, le→leb, ltb→lt, lt→ltb, eqb→eq}
use Rattle.std.proofs.Math.Path.{subst}
use Rattle.std.proofs.Math.Dec.{T_not, not_T, eqb_refl}
use Rattle.finite.specs.Truth.{decided, and_left, and_right, and_both}
use Rattle.finite.specs.Members.{◌∈◌, any, any-in, any_out}
use Rattle.theory.specs.Required.{Win, Loss, Rule, winning, required}
use Rattle.theory.proofs.laws.Better.{winning-is}
use Rattle.theory.proofs.laws.RuleLaws.{required-rule, rule-one}
use Rattle.theory.specs.Verdict.{requires, spoils}

even-spoils : (k c : ℕ) → k % 2 ≡ 0 → T (not (spoils k c)) ↔ (Win c × (c ≤ 1 + k))
unfolding spoils
even-spoils k c e =
    rw e (
      λ t. forth (decided (winning c && leb c (1 + k))) t,
      λ w. not_T (not (winning c && leb c (1 + k)))
          (λ n. T_not (winning c && leb c (1 + k)) n
          (and_both (winning c) _ ((winning-is c).1 w.0) (le→leb c (1 + k) w.1))),
    )
  where
    forth : T (winning c && leb c (1 + k)) ⊎ T (not (winning c && leb c (1 + k)))
        → T (not (not (winning c && leb c (1 + k)))) → Win c × (c ≤ 1 + k)
    forth (inl t) s = ((winning-is c).0 (and_left (winning c) _ t), leb→le c (1 + k) (and_right (winning c) _ t))
    forth (inr t) s = absurd (T_not (not (winning c && leb c (1 + k))) s t)

odd-spoils : (k c : ℕ) → k % 2 ≡ 1 → T (not (spoils k c)) ↔ (Loss c → 1 + k ≤ c)
unfolding spoils
odd-spoils k c e = rw e (λ t l. least t l, λ f. not_T (eqb (c % 2) 0 && (leb 2 c && ltb c (1 + k))) (λ s. less f s))
  where
    less : (Loss c → 1 + k ≤ c) → T (eqb (c % 2) 0 && (leb 2 c && ltb c (1 + k))) → ⊥
    less f s =
        let p = eqb→eq (c % 2) 0 (and_left (eqb (c % 2) 0) _ s) in
        let q = and_right (eqb (c % 2) 0) _ s in
        let h = leb→le 2 c (and_left (leb 2 c) _ q) in
        let l = ltb→lt c (1 + k) (and_right (leb 2 c) _ q) in
        omega (arith, f (h, p))

    least : T (not (eqb (c % 2) 0 && (leb 2 c && ltb c (1 + k)))) → Loss c → 1 + k ≤ c
    least t l =
        let h : ¬ (c < 1 + k) =
        λ s. T_not (eqb (c % 2) 0 && (leb 2 c && ltb c (1 + k))) t
        (and_both (eqb (c % 2) 0) _ (subst (λ (n : ℕ). T (eqb n 0)) (sym l.1) tt)
        (and_both (leb 2 c) _ (le→leb 2 c l.0) (lt→ltb c (1 + k) s))) in
        omega arith

module _ (k : ℕ) (h : 1 ≤ k) (bs : List ℕ) where
  none-spoils : T (requires k bs) → (c : ℕ) → c ∈ bs → T (not (spoils k c))
  unfolding requires
  none-spoils t c m =
      not_T (spoils k c)
      (λ s. T_not (any (spoils k) bs) (and_left (not (any (spoils k) bs)) _ t) (any-in (spoils k) m s))

  met : T (requires k bs) → 1 + k ∈ bs
  unfolding requires
  met t = let o = any_out (eqb (1 + k)) bs (and_right (not (any (spoils k) bs)) _ t) in
      subst (λ (c : ℕ). c ∈ bs) (sym (eqb→eq (1 + k) o.0 o.2)) o.1

  to-rule : T (requires k bs) → T (eqb (k % 2) 0) ⊎ T (not (eqb (k % 2) 0)) → Rule bs (2 + k) false
  to-rule t (inl e) = let p = eqb→eq (k % 2) 0 e in
      Rule.loses (1 + k) (met t) (λ c m. (even-spoils k c p).0 (none-spoils t c m)) (omega arith)
  to-rule t (inr e) =
      let n : ¬ (k % 2 ≡ 0) = λ q. T_not (eqb (k % 2) 0) e (subst (λ (j : ℕ). T (eqb j 0)) (sym q) tt) in
      let p : k % 2 ≡ 1 = omega arith in
      Rule.wins (1 + k) (met t) (omega arith) (λ c m l. (odd-spoils k c p).0 (none-spoils t c m) l) (omega arith)

  both : ((c : ℕ) → c ∈ bs → T (not (spoils k c))) → 1 + k ∈ bs → T (requires k bs)
  unfolding requires
  both none m =
      and_both (not (any (spoils k) bs)) _
      (not_T (any (spoils k) bs)
      (λ t. let o = any_out (spoils k) bs t in T_not (spoils k o.0) (none o.0 o.1) o.2))
      (any-in (eqb (1 + k)) m (eqb_refl (1 + k)))

  of-rule : Rule bs (2 + k) false → T (requires k bs)
  of-rule (Rule.wins b m l f e) =
      let z : b ≡ 1 + k = omega arith in
      both (λ c n. (odd-spoils k c (omega arith)).1 (λ q. omega (arith, f c n q))) (subst (λ (x : ℕ). x ∈ bs) z m)
  of-rule (Rule.loses b m f e) =
      let z : b ≡ 1 + k = omega arith in
      both (λ c n. (even-spoils k c (omega (arith, (f b m).0.1))).1 ((f c n).0, omega (arith, (f c n).1)))
      (subst (λ (x : ℕ). x ∈ bs) z m)
  of-rule (Rule.draws b m d f e) = absurd (omega arith)
  of-rule (Rule.stalemate z e) = absurd (omega arith)

  -- Depth k, not 0, is required exactly so.
  pub verdict : T (requires k bs) ↔ (required false bs ≡ 2 + k)
  verdict = (
    λ t. rule-one (required-rule false bs) (to-rule t (decided (eqb (k % 2) 0))),
    λ e. of-rule (rw e at (required-rule false bs)),
  )

-- A pass may try numbers in any order, and only some of them: once all that it is to settle are settled, it leaves what the pass over all leaves.
use Rattle.std.specs.Prelude.{◌≡◌, Bool, not, ◌⊎◌, ◌↔◌, List, map, ℕ, zero, suc, ◌+◌, ◌<◌, ◌≤◌, set}
use Rattle.std.proofs.Math.Path.{refl, sym, ap, ap₂, subst, subst⁻¹}
use Rattle.std.proofs.Common.{◌∙◌, inl, inr, T_not, length-set, get_or-set_same, get_or-set_other}
use Rattle.std.proofs.Math.Bool.{true, false, cond, ◌&&◌}
use native.Mathlib.Omega.{arith}
use Rattle.std.proofs.Math.Dec.{T, eqb, eqb→eq, eqb_refl}
use Rattle.std.proofs.Math.ListN.{length, get_or, get_or-eq_default}
use Rattle.finite.specs.Truth.{decided, fails, and_left, and_right, true_of, false_of, same_test}
use Rattle.finite.specs.Members.{◌∈◌, map-out}
use Rattle.finite.specs.Mapped.{mapped}
use Rattle.finite.specs.Ranked.{rank}
use Rattle.theory.specs.Game.{Game, next}
use Rattle.theory.specs.Required.{required_at}
use Rattle.theory.proofs.laws.RuleLaws.{required-rule, byte-before}
use Rattle.theory.proofs.laws.InPlace.{Settling, in_place}
use Rattle.table_theory.specs.Tables.{Numbering, reads, settles, pass_byte, passed}
use Rattle.table_theory.specs.Steps.{settled_by}
use Rattle.working_back.specs.Trying.{Midway, left_over, Went, Tried}
use Rattle.table_theory.proofs.laws.Acceptance.{reads-inside, reads-outside}

-- ---- counting what is left

rank_same : (f g : ℕ → Bool) (n : ℕ) → ((i : ℕ) → i < n → f i ≡ g i) → rank f n ≡ rank g n
unfolding rank
rank_same f g zero e = refl
rank_same f g (suc n) e =
    ap₂ (λ (b : Bool) (r : ℕ). cond b (suc r) r) (e n (omega arith)) (rank_same f g n (λ i h. e i (omega arith)))

rank-zero : (f : ℕ → Bool) (n : ℕ) → ((i : ℕ) → i < n → f i ≡ false) → rank f n ≡ 0
unfolding rank
rank-zero f zero e = refl
rank-zero f (suc n) e =
    ap₂ (λ (b : Bool) (r : ℕ). cond b (suc r) r) (e n (omega arith)) (rank-zero f n (λ i h. e i (omega arith)))

-- one less passes
rank_less : (f g : ℕ → Bool) (n : ℕ) → ((i : ℕ) → (i ≡ n → ⊥) → f i ≡ g i) → f n ≡ true → g n ≡ false → (size : ℕ)
    → n < size → 1 + rank g size ≡ rank f size
unfolding rank
rank_less f g n e y z zero h = absurd (omega arith)
rank_less f g n e y z (suc size) h = go (rank_less f g n e y z size) (decided (eqb size n))
  where
    go : (n < size → 1 + rank g size ≡ rank f size) → T (eqb size n) ⊎ T (not (eqb size n))
        → 1 + rank g (suc size) ≡ rank f (suc size)
    go below (inl x) =
        let q = eqb→eq size n x in
        let a : f size ≡ true = ap f q ∙ y in
        let b : g size ≡ false = ap g q ∙ z in
        let same = rank_same g f size (λ i l. sym (e i (λ w. omega (arith, w, q, l)))) in
        rw (a, b) (omega (arith, same))
    go below (inr x) =
        let d : size ≡ n → ⊥ = λ w. T_not (eqb size n) x (subst (λ (i : ℕ). T (eqb size i)) w (eqb_refl size)) in
        let ih = below (omega (arith, h, d)) in
        next (f size) (g size) (e size d) (rank f size) (rank g size) ih
      where
        next : (a b : Bool) → a ≡ b → (r s : ℕ) → 1 + s ≡ r → 1 + cond b (suc s) s ≡ cond a (suc r) r
        next true true q r s w = omega arith
        next false false q r s w = w
        next true false q r s w = absurd (subst T q tt)
        next false true q r s w = absurd (subst T (sym q) tt)

module _ (G : Game) (N : Numbering G) (k : ℕ) (t : List ℕ) where
  pub midway_start : Midway G N k t t
  midway_start = record { long = refl; byte = λ n. inl refl }

  -- a settled number held 1
  pub held_one : (n : ℕ) → T (settles G N k t n) → get_or t n 0 ≡ 1
  unfolding settles
  held_one n s = eqb→eq (get_or t n 0) 1 (and_left (eqb (get_or t n 0) 1) _ s)

  module _ (u : List ℕ) (w : Midway G N k t u) where
    pub settling : (q : G.Pos) → Settling k (reads G N t q) (reads G N u q)
    settling q = go (decided (N.inside q))
      where
        at-number : (m : ℕ) → (get_or u m 0 ≡ get_or t m 0) ⊎ (T (settles G N k t m) × (get_or u m 0 ≡ 2 + k))
            → Settling k (get_or t m 0) (get_or u m 0)
        at-number m (inl e) = inl e
        at-number m (inr s) = inr (held_one m s.0, s.1)

        go : T (N.inside q) ⊎ T (not (N.inside q)) → Settling k (reads G N t q) (reads G N u q)
        go (inl x) =
            rw (reads-inside G N t q x, reads-inside G N u q x) (at-number (N.number q) (w.byte (N.number q)))
        go (inr o) = inl (reads-outside G N u q (false_of o) ∙ sym (reads-outside G N t q (false_of o)))

    -- depth k is required where it was
    pub required-midway : (p : G.Pos)
        → eqb (required_at G (reads G N u) p) (2 + k) ≡ eqb (required_at G (reads G N t) p) (2 + k)
    required-midway p =
        same_test (eqb (required_at G (reads G N u) p) (2 + k)) (eqb (required_at G (reads G N t) p) (2 + k))
        (λ s. eq_test _ _ (r.1 (eqb→eq (required_at G (reads G N u) p) (2 + k) s)))
        (λ s. eq_test _ _ (r.0 (eqb→eq (required_at G (reads G N t) p) (2 + k) s)))
      where
        r : (required_at G (reads G N t) p ≡ 2 + k) ↔ (required_at G (reads G N u) p ≡ 2 + k)
        r = in_place k (reads G N t) (reads G N u) (next G p) (λ q m. settling q) (G.mated p)

        eq_test : (a b : ℕ) → a ≡ b → T (eqb a b)
        eq_test a b e = subst (λ (n : ℕ). T (eqb a n)) e (eqb_refl a)

    -- a number that still holds 1 is settled exactly if it was to be settled
    pub settles-midway : (n : ℕ) → get_or u n 0 ≡ 1 → settles G N k u n ≡ settles G N k t n
    unfolding settles
    settles-midway n e =
        ap₂ ◌&&◌ (ap (λ (b : ℕ). eqb b 1) (still (w.byte n)))
        (ap (λ (r : Bool). N.live n && r) (required-midway (N.at n)))
      where
        still : (get_or u n 0 ≡ get_or t n 0) ⊎ (T (settles G N k t n) × (get_or u n 0 ≡ 2 + k)) → get_or u n 0 ≡ get_or t n 0
        still (inl s) = s
        still (inr s) = absurd (omega (arith, e, s.1))

    -- settling one more
    pub midway-more : (n : ℕ) → n < length t → T (settles G N k t n) → Midway G N k t (set u n (2 + k))
    midway-more n h s = record { long = length-set u n (2 + k) ∙ w.long; byte = λ m. go m (decided (eqb m n)) }
      where
        go : (m : ℕ) → T (eqb m n) ⊎ T (not (eqb m n))
            → (get_or (set u n (2 + k)) m 0 ≡ get_or t m 0)
            ⊎ (T (settles G N k t m) × (get_or (set u n (2 + k)) m 0 ≡ 2 + k))
        go m (inl x) = let e = eqb→eq m n x in inr (
          subst (λ (i : ℕ). T (settles G N k t i)) (sym e) s,
          ap (λ (i : ℕ). get_or (set u n (2 + k)) i 0) e
              ∙ get_or-set_same u n (2 + k) 0 (subst (λ (x : ℕ). n < x) (sym w.long) h),
        )
        go m (inr x) =
            let e = get_or-set_other u n m (2 + k) 0 (λ z. T_not (eqb m n) x (subst (λ (i : ℕ). T (eqb m i)) z (eqb_refl m))) in
            subst (λ (b : ℕ). (b ≡ get_or t m 0) ⊎ (T (settles G N k t m) × (b ≡ 2 + k))) (sym e) (w.byte m)

    -- all that were to be settled are: the pass is done
    pub midway_end : length t ≡ N.size → ((n : ℕ) → n < N.size → T (settles G N k t n) → get_or u n 0 ≡ 1 → ⊥)
        → u ≡ passed G N k t
    unfolding passed
    midway_end e all = mapped (pass_byte G N k t) t u w.long
        (λ n h. go n (settles G N k t n) refl (subst (λ (x : ℕ). n < x) e h) (w.byte n))
      where
        go : (n : ℕ) (s : Bool) → settles G N k t n ≡ s → n < N.size
            → (get_or u n 0 ≡ get_or t n 0) ⊎ (T (settles G N k t n) × (get_or u n 0 ≡ 2 + k))
            → get_or u n 0 ≡ cond s (2 + k) (get_or t n 0)
        go n true f h (inl x) =
            let y : T (settles G N k t n) = subst T (sym f) tt in absurd (all n h y (x ∙ held_one n y))
        go n true f h (inr x) = x.1
        go n false f h (inl x) = x
        go n false f h (inr x) = absurd (subst T f x.0)

  -- ---- what is settled at depth k, not 0, has a successor of depth k - 1

  pub cause : (n : ℕ) → 0 < k → T (settles G N k t n)
      → (q : G.Pos) × (q ∈ next G (N.at n)) × (reads G N t q ≡ 1 + k)
  unfolding settles
  cause n some s =
      let byte = required_at G (reads G N t) (N.at n) in
      let last = and_right (eqb (get_or t n 0) 1) (N.live n && eqb byte (2 + k)) s in
      let e = eqb→eq byte (2 + k) (and_right (N.live n) (eqb byte (2 + k)) last) in
      let b = byte-before
      (required-rule (G.mated (N.at n)) (map (reads G N t) (next G (N.at n)))) (omega (arith, e)) in
      let o = map-out (reads G N t) b.0 (next G (N.at n)) b.1 in
      (o.0, o.1, sym o.2 ∙ before b.0 (sym e ∙ b.2))
    where
      before : (b : ℕ) → 2 + k ≡ 1 + b → b ≡ 1 + k
      before b e = omega arith

  -- ---- some are settled

  module _ (long : length t ≡ N.size) where
    pub went-none : (u : List ℕ) → Midway G N k t u → Went G N k t u u 0
    went-none u w = record { midway = w; ones = λ n e. e; count = omega arith }

    pub went_then : (u v x : List ℕ) (a b : ℕ) → Went G N k t u v a → Went G N k t v x b → Went G N k t u x (a + b)
    went_then u v x a b p q = record {
      midway = q.midway;
      ones = λ n e. p.ones n (q.ones n e);
      count = omega (arith, p.count, q.count);
    }

    pub tried-kept : (u v : List ℕ) (a n : ℕ) → Went G N k t u v a → Tried G N k t u n → Tried G N k t v n
    tried-kept u v a n p f s e = f s (p.ones n e)

    module _ (u : List ℕ) (w : Midway G N k t u) (n : ℕ) where
      still : (i : ℕ) → (i ≡ n → ⊥) → get_or (set u n (2 + k)) i 0 ≡ get_or u i 0
      still i d = get_or-set_other u n i (2 + k) 0 d

      pub now-there : n < length u → get_or (set u n (2 + k)) n 0 ≡ 2 + k
      now-there h = get_or-set_same u n (2 + k) 0 h

      pub went-one : n < length u → T (settles G N k t n) → get_or u n 0 ≡ 1 → Went G N k t u (set u n (2 + k)) 1
      unfolding left_over
      went-one h s e =
          let l : n < length t = subst (λ (x : ℕ). n < x) w.long h in
          record {
            midway = midway-more u w n l s;
            ones = λ i r. go i r (decided (eqb i n));
            count = rank_less (λ i. settles G N k t i && eqb (get_or u i 0) 1)
                (λ i. settles G N k t i && eqb (get_or (set u n (2 + k)) i 0) 1) n
                (λ i d. ap (λ (b : ℕ). settles G N k t i && eqb b 1) (sym (still i d)))
                (rw (true_of {b = settles G N k t n} s, e))
                (rw (now-there h) (off (settles G N k t n))) N.size (subst (λ (x : ℕ). n < x) long l);
          }
        where
          off : (b : Bool) → (b && eqb (2 + k) 1) ≡ false
          off true = fails (eqb (2 + k) 1) (λ z. let y = eqb→eq (2 + k) 1 z in omega arith)
          off false = refl

          go : (i : ℕ) → get_or (set u n (2 + k)) i 0 ≡ 1 → T (eqb i n) ⊎ T (not (eqb i n)) → get_or u i 0 ≡ 1
          go i r (inl x) =
              let q = eqb→eq i n x in
              let z : get_or (set u n (2 + k)) n 0 ≡ 1 = subst (λ (j : ℕ). get_or (set u n (2 + k)) j 0 ≡ 1) q r in
              absurd (omega (arith, z, now-there h))
          go i r (inr x) =
              sym (still i (λ z. T_not (eqb i n) x (subst (λ (j : ℕ). T (eqb i j)) z (eqb_refl i)))) ∙ r

      -- one that the table does not have
      pub tried-out : length u ≤ n → Went G N k t u u 0 × Tried G N k t u n
      tried-out h = (went-none u w, λ p q. let z : get_or u n 0 ≡ 0 = get_or-eq_default u 0 h in omega (arith, z, q))

    -- all are tried
    pub went-end : (u : List ℕ) (did : ℕ) → Went G N k t t u did
        → ((n : ℕ) → n < N.size → Tried G N k t u n) → (did ≡ settled_by G N k t) × (u ≡ passed G N k t)
    unfolding left_over settled_by
    went-end u did p all = (
      omega (arith, p.count, none, every),
      midway_end u p.midway long (λ n h s e. all n h s e),
    )
      where
        none : rank (λ n. settles G N k t n && eqb (get_or u n 0) 1) N.size ≡ 0
        none = rank-zero (λ n. settles G N k t n && eqb (get_or u n 0) 1) N.size
            (λ n h. fails (settles G N k t n && eqb (get_or u n 0) 1)
            (λ z. all n h (and_left (settles G N k t n) (eqb (get_or u n 0) 1) z)
            (eqb→eq (get_or u n 0) 1 (and_right (settles G N k t n) (eqb (get_or u n 0) 1) z))))

        every : rank (λ n. settles G N k t n && eqb (get_or t n 0) 1) N.size ≡ rank (settles G N k t) N.size
        every = rank_same (λ n. settles G N k t n && eqb (get_or t n 0) 1) (settles G N k t) N.size
            (λ n h. both n (settles G N k t n) refl)
          where
            both : (n : ℕ) (b : Bool) → settles G N k t n ≡ b → (b && eqb (get_or t n 0) 1) ≡ b
            both n true e = rw (held_one n (subst⁻¹ T e tt))
            both n false e = refl

  -- a byte 1 + k, k not 0, stands where it stood
  pub byte-stands : 0 < k → (u : List ℕ) → Midway G N k t u → (n : ℕ) → get_or t n 0 ≡ 1 + k → get_or u n 0 ≡ 1 + k
  byte-stands some u w n e = go (w.byte n)
    where
      go : (get_or u n 0 ≡ get_or t n 0) ⊎ (T (settles G N k t n) × (get_or u n 0 ≡ 2 + k)) → get_or u n 0 ≡ 1 + k
      go (inl x) = x ∙ e
      go (inr x) = absurd (omega (arith, some, e, held_one n x.0))

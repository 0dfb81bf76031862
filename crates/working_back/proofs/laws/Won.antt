-- Where nothing is left to settle below depth k, k odd, a byte 1 with a move to a loss in k - 1 is a win in k: the other moves need not be tried.
use Rattle.std.specs.Prelude.{◌≡◌, refl, Bool, ◌⊎◌, List, map, ℕ, suc, ◌+◌, ◌-◌, ◌%◌, ◌<◌, ◌≤◌}
use Rattle.std.proofs.Common.{sym, subst, ◌∙◌, zero-add, arith, eq-eqb}
use Rattle.std.proofs.Math.Path.{ap, ap₂, subst⁻¹}
use Rattle.std.proofs.Math.Bool.{true, false, cond, ◌&&◌}
use Rattle.std.proofs.Math.Logic.{inl, inr}
use mathlib.Core.List.Memᴰ
use Rattle.std.proofs.Math.Dec.{T, eqb, eqb→eq, eqb_refl}
use Rattle.std.proofs.Math.ListN.{length, get_or, get_or-eq_default}
use Rattle.finite.specs.Truth.{and_left, and_right, and_both, fails, refuted, le-or-lt, true_of}
use Rattle.finite.specs.Members.{◌∈◌, map-in, map-out}
use Rattle.finite.specs.Mapped.{map_from, length-map_from, get_d-map_from}
use Rattle.theory.specs.Game.{Game, next}
use Rattle.theory.specs.Required.{Win, Rule, required, required_at}
use Rattle.theory.proofs.laws.RuleLaws.{required-rule, rule-one}
use Rattle.theory.proofs.laws.Alike.{alike-required}
use Rattle.theory.proofs.laws.InPlace.{Settling}
use Rattle.table_theory.specs.Tables.{Numbering, Lawful, reads, start_byte, settles, pass_byte, passed}
use Rattle.table_theory.proofs.laws.Acceptance.{reads_same}
use Rattle.working_back.specs.Trying.{Midway, Ready}
use Rattle.working_back.proofs.laws.Trying.{settling, settles-midway}

equal : (a b : ℕ) → a ≡ b → T (eqb a b)
equal a b e = subst (λ (n : ℕ). T (eqb a n)) e (eqb_refl a)

-- ---- settling depth k makes no lesser depth required

module _ {A : Type 0} (k : ℕ) (was is : A → ℕ) (l : List A) (same : (x : A) → x ∈ l → Settling k (was x) (is x)) where
  from-was : (b : ℕ) → b ∈ map was l → ¬ (b ≡ 1) → b ∈ map is l
  from-was b m n = let o = map-out was b l m in go o.0 o.1 o.2 (same o.0 o.1)
    where
      go : (x : A) → x ∈ l → b ≡ was x → Settling k (was x) (is x) → b ∈ map is l
      go x i e (inl s) = Memᴰ.cast (e ∙ sym s) (map-in is i)
      go x i e (inr s) = absurd (n (e ∙ s.0))

  from_is : (b : ℕ) → b ∈ map is l → ¬ (b ≡ 2 + k) → b ∈ map was l
  from_is b m n = let o = map-out is b l m in go o.0 o.1 o.2 (same o.0 o.1)
    where
      go : (x : A) → x ∈ l → b ≡ is x → Settling k (was x) (is x) → b ∈ map was l
      go x i e (inl s) = Memᴰ.cast (e ∙ s) (map-in was i)
      go x i e (inr s) = absurd (n (e ∙ s.1))

  lower : (j : ℕ) → j ≤ k → {mate : Bool} → Rule (map is l) (2 + j) mate → Rule (map was l) (2 + j) mate
  lower j g (Rule.checkmate e) = Rule.checkmate e
  lower j g (Rule.wins b m h f e) =
      Rule.wins b (from_is b m (λ z. omega arith)) h (λ c n i. f c (from-was c n (λ z. omega arith)) i) e
  lower j g (Rule.loses b m f e) = Rule.loses b (from_is b m (λ z. omega arith)) (λ c n. here c n) e
    where
      here : (c : ℕ) → c ∈ map was l → Win c × (c ≤ b)
      here c n = let o = map-out was c l n in go o.0 o.1 o.2 (same o.0 o.1)
        where
          go : (x : A) → x ∈ l → c ≡ was x → Settling k (was x) (is x) → Win c × (c ≤ b)
          go x i d (inl s) = let w = f (is x) (map-in is i) in (omega (arith, w.0, d, s), omega (arith, w.1, d, s))
          go x i d (inr s) = absurd (omega (arith, (f (is x) (map-in is i)).1, s.1))
  lower j g (Rule.draws b m d f e) = absurd (omega arith)
  lower j g (Rule.stalemate z e) = absurd (omega arith)

  required-lower : (j : ℕ) → j ≤ k → (mate : Bool) → required mate (map is l) ≡ 2 + j → required mate (map was l) ≡ 2 + j
  required-lower j g mate e =
      rule-one (required-rule mate (map was l)) (lower j g (rw e at (required-rule mate (map is l))))

-- ---- nothing is left to settle below a depth

module _ (G : Game) (N : Numbering G) where
  pub ready-start : (t : List ℕ) → Ready G N 0 (map_from (start_byte G N) 0 t)
  ready-start t = record { settled = λ j n h. absurd (omega arith); alive = λ n z. by n z (le-or-lt (length t) n) }
    where
      go : (n : ℕ) (b : Bool) → (get_or (map_from (start_byte G N) 0 t) n 0 ≡ 0 → ⊥) → get_or (map_from (start_byte G N) 0 t) n 0 ≡ cond b 1 0 → T b
      go n true z e = tt
      go n false z e = absurd (z e)

      by : (n : ℕ) → (get_or (map_from (start_byte G N) 0 t) n 0 ≡ 0 → ⊥) → (length t ≤ n) ⊎ (n < length t) → T (N.live n)
      by n z (inl h) =
          absurd (z (get_or-eq_default (map_from (start_byte G N) 0 t) 0 (subst⁻¹ (λ (x : ℕ). x ≤ n) (length-map_from (start_byte G N) 0 t) h)))
      by n z (inr h) =
          go n (N.live n) z
          (get_d-map_from (start_byte G N) 0 t n h ∙ ap (λ (x : ℕ). start_byte G N x (get_or t n 0)) (zero-add n))

  -- what it is that a number is settled
  held : (k : ℕ) (t : List ℕ) (n : ℕ) → T (settles G N k t n)
      → (get_or t n 0 ≡ 1) × T (N.live n) × (required_at G (reads G N t) (N.at n) ≡ 2 + k)
  unfolding settles
  held k t n s =
      let r = eqb (required_at G (reads G N t) (N.at n)) (2 + k) in
      let x = and_right (eqb (get_or t n 0) 1) (N.live n && r) s in (
        eqb→eq (get_or t n 0) 1 (and_left (eqb (get_or t n 0) 1) (N.live n && r) s),
        and_left (N.live n) r x,
        eqb→eq (required_at G (reads G N t) (N.at n)) (2 + k) (and_right (N.live n) r x),
      )

  settled-so : (k : ℕ) (t : List ℕ) (n : ℕ) → get_or t n 0 ≡ 1 → T (N.live n)
      → required_at G (reads G N t) (N.at n) ≡ 2 + k → T (settles G N k t n)
  unfolding settles
  settled-so k t n e l r =
      and_both (eqb (get_or t n 0) 1) (N.live n && eqb (required_at G (reads G N t) (N.at n)) (2 + k))
      (equal (get_or t n 0) 1 e)
      (and_both (N.live n) (eqb (required_at G (reads G N t) (N.at n)) (2 + k)) l
      (equal (required_at G (reads G N t) (N.at n)) (2 + k) r))

  -- at the number of a position that holds 1: settled exactly where the depth is required of the position
  pub settles-at : (L : Lawful G N) (k : ℕ) (t : List ℕ) (p : G.Pos) → L.D p → T (N.inside p) → get_or t (N.number p) 0 ≡ 1
      → settles G N k t (N.number p) ≡ eqb (required_at G (reads G N t) p) (2 + k)
  unfolding settles
  settles-at L k t p d i e =
      ap₂ ◌&&◌ (eq-eqb (get_or t (N.number p) 0) 1 e)
      (ap₂ ◌&&◌ (true_of {b = N.live (N.number p)} (L.number-live p d i).1)
      (ap (λ (b : ℕ). eqb b (2 + k))
      (sym (alike-required G G L.Same L.alike (reads G N t) (reads G N t) (reads_same G N L t) p (N.at (N.number p))
      (L.same_at p d i)))))

  module _ (k : ℕ) (t : List ℕ) where
    still : (u : List ℕ) → Midway G N k t u → (n : ℕ) → get_or u n 0 ≡ 1 → get_or t n 0 ≡ 1
    still u w n e = go (w.byte n)
      where
        go : (get_or u n 0 ≡ get_or t n 0) ⊎ (T (settles G N k t n) × (get_or u n 0 ≡ 2 + k)) → get_or t n 0 ≡ 1
        go (inl x) = sym x ∙ e
        go (inr x) = absurd (omega (arith, e, x.1))

    ready-done : (u : List ℕ) → Midway G N k t u → ((n : ℕ) → T (settles G N k t n) → get_or u n 0 ≡ 1 → ⊥) → Ready G N k t
        → Ready G N (suc k) u
    ready-done u w done r = record {
      settled = λ j n h. fails (settles G N j u n) (λ s. go j n h s (held j u n s) (le-or-lt k j));
      alive = λ n z. live n z (w.byte n);
    }
      where
        live : (n : ℕ) → (get_or u n 0 ≡ 0 → ⊥)
            → (get_or u n 0 ≡ get_or t n 0) ⊎ (T (settles G N k t n) × (get_or u n 0 ≡ 2 + k)) → T (N.live n)
        live n z (inl e) = r.alive n (λ y. z (e ∙ y))
        live n z (inr s) = (held k t n s.0).1

        go : (j n : ℕ) → j < suc k → T (settles G N j u n)
            → (get_or u n 0 ≡ 1) × T (N.live n) × (required_at G (reads G N u) (N.at n) ≡ 2 + j) → (k ≤ j) ⊎ (j < k) → ⊥
        go j n h s x (inl g) =
            let e : j ≡ k = omega (arith, g, h) in
            done n (subst T (settles-midway G N k t u w n x.0) (subst (λ (i : ℕ). T (settles G N i u n)) e s)) x.0
        go j n h s x (inr g) =
            refuted (r.settled j n g)
            (settled-so j t n (still u w n x.0) x.1
            (required-lower k (reads G N t) (reads G N u) (next G (N.at n)) (λ q m. settling G N k t u w q) j (omega (arith, g))
            (G.mated (N.at n)) x.2))

    passed-byte : (n : ℕ) → (get_or (passed G N k t) n 0 ≡ get_or t n 0) ⊎ (T (settles G N k t n) × (get_or (passed G N k t) n 0 ≡ 2 + k))
    unfolding passed
    passed-byte n = by (le-or-lt (length t) n)
      where
        go : (b : Bool) → settles G N k t n ≡ b → get_or (passed G N k t) n 0 ≡ cond b (2 + k) (get_or t n 0)
            → (get_or (passed G N k t) n 0 ≡ get_or t n 0) ⊎ (T (settles G N k t n) × (get_or (passed G N k t) n 0 ≡ 2 + k))
        go true f e = inr (subst⁻¹ T f tt, e)
        go false f e = inl e

        by : (length t ≤ n) ⊎ (n < length t)
            → (get_or (passed G N k t) n 0 ≡ get_or t n 0) ⊎ (T (settles G N k t n) × (get_or (passed G N k t) n 0 ≡ 2 + k))
        by (inl h) =
            inl (get_or-eq_default (passed G N k t) 0
            (subst⁻¹ (λ (x : ℕ). x ≤ n) (length-map_from (pass_byte G N k t) 0 t) h) ∙ sym (get_or-eq_default t 0 h))
        by (inr h) =
            go (settles G N k t n) refl
            (get_d-map_from (pass_byte G N k t) 0 t n h ∙ ap (λ (x : ℕ). pass_byte G N k t x (get_or t n 0)) (zero-add n))

    passed-midway : Midway G N k t (passed G N k t)
    passed-midway = record {
      long = unfold passed in length-map_from (pass_byte G N k t) 0 t;
      byte = passed-byte;
    }

    passed-done : (n : ℕ) → T (settles G N k t n) → get_or (passed G N k t) n 0 ≡ 1 → ⊥
    unfolding passed
    passed-done n s e = by (le-or-lt (length t) n)
      where
        by : (length t ≤ n) ⊎ (n < length t) → ⊥
        by (inl h) = absurd (omega (arith, (held k t n s).0, get_or-eq_default t 0 h))
        by (inr h) =
            let z : get_or (passed G N k t) n 0 ≡ pass_byte G N k t n (get_or t n 0) =
            get_d-map_from (pass_byte G N k t) 0 t n h ∙ ap (λ (x : ℕ). pass_byte G N k t x (get_or t n 0)) (zero-add n) in
            let f : settles G N k t n ≡ true = true_of s in
            let y : pass_byte G N k t n (get_or t n 0) ≡ 2 + k = ap (λ (b : Bool). cond b (2 + k) (get_or t n 0)) f in
            absurd (omega (arith, e, z, y))

    pub ready-next : Ready G N k t → Ready G N (suc k) (passed G N k t)
    ready-next r = ready-done (passed G N k t) passed-midway passed-done r

    -- ---- the shortcut

    module _ (odd : k % 2 ≡ 1) (r : Ready G N k t) where
      by-rule : (bs : List ℕ) (byte : ℕ) (mate : Bool) → Rule bs byte mate → 1 + k ∈ bs → ((j : ℕ) → j < k → byte ≡ 2 + j → ⊥)
          → byte ≡ 2 + k
      by-rule bs byte mate (Rule.checkmate e) i never = absurd (never 0 (omega (arith, odd)) e)
      by-rule bs byte mate (Rule.wins b m h f e) i never = go (le-or-lt (1 + k) b)
        where
          most : b ≤ 1 + k
          most = f (1 + k) i (omega (arith, odd), omega (arith, odd))

          go : (1 + k ≤ b) ⊎ (b < 1 + k) → byte ≡ 2 + k
          go (inl g) = omega (arith, g, most, e)
          go (inr g) = absurd (never (b - 1) (omega (arith, g, h)) (omega (arith, h, e)))
      by-rule bs byte mate (Rule.loses b m f e) i never = absurd (omega (arith, odd, (f (1 + k) i).0.1))
      by-rule bs byte mate (Rule.draws b m d f e) i never = absurd (f (1 + k) i (omega (arith, odd), omega (arith, odd)))
      by-rule bs byte mate (Rule.stalemate z e) i never = absurd (Memᴰ.not-nil (subst (λ (l : List ℕ). 1 + k ∈ l) z i))

      pub won : (n : ℕ) → get_or t n 0 ≡ 1 → T (N.live n) → (q : G.Pos) → q ∈ next G (N.at n) → reads G N t q ≡ 1 + k
          → T (settles G N k t n)
      won n e l q i h =
          settled-so k t n e l
          (by-rule (map (reads G N t) (next G (N.at n))) (required_at G (reads G N t) (N.at n)) (G.mated (N.at n))
          (required-rule (G.mated (N.at n)) (map (reads G N t) (next G (N.at n))))
          (Memᴰ.cast (sym h) (map-in (reads G N t) i)) (λ j g z. refuted (r.settled j n g) (settled-so j t n e l z)))

      -- .. at the number of any position that has the move
      pub won-from : (L : Lawful G N) (p q : G.Pos) → L.D p → T (N.inside p) → q ∈ next G p → reads G N t q ≡ 1 + k
          → get_or t (N.number p) 0 ≡ 1 → T (settles G N k t (N.number p))
      won-from L p q d u i h e =
          let x = L.alike.forth p (N.at (N.number p)) (L.same_at p d u) q i in
          won (N.number p) e (L.number-live p d u).1 x.0 x.1
          (sym (reads_same G N L t q x.0 x.2) ∙ h)

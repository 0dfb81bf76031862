-- A table is accepted exactly when it is true, and there is one such table: the checker accepts that table and no other.
use Rattle.std.specs.Prelude.{◌≡◌, false, ◌⊎◌, ◌↔◌, List, ℕ, ◌<◌, eqb, length}
use Rattle.std.proofs.Math.Path.{sym, ap}
use Rattle.std.proofs.Common.{subst, ◌∙◌, inl, inr, ext_get_or}
use Rattle.std.proofs.Math.Bool.{not}
use Rattle.std.proofs.Math.Dec.{T}
use Rattle.std.proofs.Math.ListN.{get_or}
use borrow.Author.Tests.{eq-eqb, eqb-true, not-false}
use Rattle.finite.specs.Truth.{decided, true_of, false_of}
use Rattle.theory.specs.Game.{Game}
use Rattle.theory.specs.Value.{DepthIs, TrueByte}
use Rattle.theory.specs.Required.{required_at, Closed, Consistent}
use Rattle.theory.proofs.laws.TrueBytes.{byte_one}
use Rattle.theory.specs.Alike.{Alike}
use Rattle.theory.proofs.laws.Alike.{flip, alike-required, alike-byte}
use Rattle.theory.proofs.laws.Consistency.{consistent-true, true-consistent, too-deep}
use Rattle.table_theory.specs.Tables.{Numbering, Lawful, OuterTrue, reads, required_byte, wrong_at, Accepted, True}

module _ (G : Game) (N : Numbering G) (t : List ℕ) where
  -- ---- reading

  pub reads-inside : (p : G.Pos) → T (N.inside p) → reads G N t p ≡ get_or t (N.number p) 0
  unfolding reads
  reads-inside p i = rw (true_of {b = N.inside p} i)

  pub reads-outside : (p : G.Pos) → N.inside p ≡ false → reads G N t p ≡ N.outer p
  unfolding reads
  reads-outside p e = rw e

  -- ---- what is required

  required-live : (n : ℕ) → T (N.live n) → required_byte G N t n ≡ required_at G (reads G N t) (N.at n)
  unfolding required_byte
  required-live n l = rw (true_of {b = N.live n} l)

  required-dead : (n : ℕ) → N.live n ≡ false → required_byte G N t n ≡ 0
  unfolding required_byte
  required-dead n e = rw e

  right-byte : Accepted G N t → (n : ℕ) → n < N.size → get_or t n 0 ≡ required_byte G N t n
  unfolding wrong_at
  right-byte ok n h =
      eqb-true (get_or t n 0) (required_byte G N t n) (not-false (eqb (get_or t n 0) (required_byte G N t n)) (ok n h))

module _ (G : Game) (N : Numbering G) (L : Lawful G N) (t : List ℕ) where
  -- positions that go alike read the same byte
  pub reads_same : (p q : G.Pos) → L.Same p q → reads G N t p ≡ reads G N t q
  reads_same p q s = go (decided (N.inside p))
    where
      go : T (N.inside p) ⊎ T (not (N.inside p)) → reads G N t p ≡ reads G N t q
      go (inl i) = reads-inside G N t p i ∙ ap (λ (n : ℕ). get_or t n 0) (L.same_number p q s i)
          ∙ sym (reads-inside G N t q (subst T (L.same-inside p q s) i))
      go (inr o) = let e : N.inside p ≡ false = false_of o in reads-outside G N t p e ∙ L.same-outer p q s e
          ∙ sym (reads-outside G N t q (sym (L.same-inside p q s) ∙ e))

  reads_at : (n : ℕ) → n < N.size → T (N.live n) → reads G N t (N.at n) ≡ get_or t n 0
  reads_at n h l = let a = L.live_at n h l in reads-inside G N t (N.at n) a.1 ∙ ap (λ (m : ℕ). get_or t m 0) a.2

  -- the byte of a position with a number is that of the number's own position
  reads-class : (p : G.Pos) → L.D p → T (N.inside p) → reads G N t p ≡ reads G N t (N.at (N.number p))
  reads-class p d i = reads_same p (N.at (N.number p)) (L.same_at p d i)

  module _ (truth : OuterTrue G N L) where
    -- positions without a number are consistent: their bytes are true, and moves lead to such positions only
    outside-consistent : (p : G.Pos) → L.D p → N.inside p ≡ false → reads G N t p ≡ required_at G (reads G N t) p
    outside-consistent p d e =
        true-consistent G Out closed (reads G N t) (λ q o. rw (reads-outside G N t q o.1) (truth q o.0 o.1)) p
        (d, e)
      where
        Out : G.Pos → Type 0
        Out q = L.D q × (N.inside q ≡ false)

        closed : Closed G Out
        closed q r o i = (L.closed q r o.0 i, L.outer-next q r o.0 o.1 i)

    -- An accepted table is consistent with the rule at every position.
    pub accepted-consistent : Accepted G N t → Consistent G L.D (reads G N t)
    accepted-consistent ok p d = go (decided (N.inside p))
      where
        go : T (N.inside p) ⊎ T (not (N.inside p)) → reads G N t p ≡ required_at G (reads G N t) p
        go (inl i) =
            let n : ℕ = N.number p in
            let l = L.number-live p d i in
            reads-inside G N t p i ∙ right-byte G N t ok n l.0 ∙ required-live G N t n l.1
            ∙ sym (alike-required G G L.Same L.alike (reads G N t) (reads G N t) reads_same p (N.at n)
            (L.same_at p d i))
        go (inr o) = outside-consistent p d (false_of o)

    pub accepted-true : Accepted G N t → True G N t
    accepted-true ok = record {
      legal-true =
          λ n h l. subst (λ (b : ℕ). TrueByte G (N.at n) b) (reads_at n h l)
          (consistent-true G L.D L.closed (reads G N t) (accepted-consistent ok) (N.at n) (L.live_at n h l).0);
      others-zero = λ n h e. right-byte G N t ok n h ∙ required-dead G N t n e;
    }

    -- a true table reads the true byte at every position
    pub true-reads : True G N t → (p : G.Pos) → L.D p → TrueByte G p (reads G N t p)
    true-reads w p d = go (decided (N.inside p))
      where
        back : T (N.inside p) → TrueByte G (N.at (N.number p)) (reads G N t (N.at (N.number p)))
            → TrueByte G p (reads G N t p)
        back i b = subst (λ (c : ℕ). TrueByte G p c) (sym (reads-class p d i))
            (alike-byte G G (λ x y. L.Same y x) flipped (N.at (N.number p)) p (reads G N t (N.at (N.number p)))
            (L.same_at p d i) b)
          where
            flipped : Alike G G (λ x y. L.Same y x)
            flipped = flip L.alike

        go : T (N.inside p) ⊎ T (not (N.inside p)) → TrueByte G p (reads G N t p)
        go (inl i) =
            let n : ℕ = N.number p in
            let l = L.number-live p d i in
            back i (subst (λ (b : ℕ). TrueByte G (N.at n) b) (sym (reads_at n l.0 l.1))
            (w.legal-true n l.0 l.1))
        go (inr o) = rw (reads-outside G N t p (false_of o)) (truth p d (false_of o))

    pub true-accepted : True G N t → Accepted G N t
    unfolding wrong_at
    true-accepted w n h = ap not (eq-eqb (get_or t n 0) (required_byte G N t n) (go (decided (N.live n))))
      where
        go : T (N.live n) ⊎ T (not (N.live n)) → get_or t n 0 ≡ required_byte G N t n
        go (inl l) = sym (reads_at n h l)
            ∙ true-consistent G L.D L.closed (reads G N t) (true-reads w) (N.at n) (L.live_at n h l).0
            ∙ sym (required-live G N t n l)
        go (inr o) = w.others-zero n h (false_of o) ∙ sym (required-dead G N t n (false_of o))

    -- Accepted means true, and the other way round.
    pub accepted-iff-true : Accepted G N t ↔ True G N t
    accepted-iff-true = (accepted-true, true-accepted)

    -- Where a position is deeper than 253, no table of bytes is accepted.
    pub accepted-shallow : ((n : ℕ) → get_or t n 0 < 256)
        → ((p : G.Pos) → L.D p → N.inside p ≡ false → N.outer p < 256) → Accepted G N t → (p : G.Pos) (n : ℕ)
        → L.D p → DepthIs G n p → 253 < n → ⊥
    accepted-shallow small outer-small ok p n d k h =
        too-deep G L.D L.closed (reads G N t) p n d k h (λ q e. go q e (decided (N.inside q)))
        (accepted-consistent ok)
      where
        go : (q : G.Pos) → L.D q → T (N.inside q) ⊎ T (not (N.inside q)) → reads G N t q < 256
        go q e (inl i) = rw (reads-inside G N t q i) (small (N.number q))
        go q e (inr o) = rw (reads-outside G N t q (false_of o)) (outer-small q e (false_of o))

-- There is one true table.
pub one-true-table : (G : Game) (N : Numbering G) (t u : List ℕ) → length t ≡ N.size → length u ≡ N.size → True G N t
    → True G N u → t ≡ u
one-true-table G N t u e f v w =
    ext_get_or 0 t u (e ∙ sym f) (λ n h. go n (subst (λ (s : ℕ). n < s) e h) (decided (N.live n)))
  where
    go : (n : ℕ) → n < N.size → T (N.live n) ⊎ T (not (N.live n)) → get_or t n 0 ≡ get_or u n 0
    go n h (inl l) = byte_one G (N.at n) (get_or t n 0) (get_or u n 0) (v.legal-true n h l) (w.legal-true n h l)
    go n h (inr o) = v.others-zero n h (false_of o) ∙ sym (w.others-zero n h (false_of o))

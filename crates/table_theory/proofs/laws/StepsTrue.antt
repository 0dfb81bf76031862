-- Steps from a start, each progress given to the next and no other hand on the table: k of them leave the true byte wherever the depth is less than k
-- and the starting byte elsewhere; a run that has ended leaves what the single fill leaves, and stays so; 255 steps have ended.
use Rattle.std.specs.Prelude.{◌≡◌, Bool, true, false, cond, not, ◌⊎◌, ◌↔◌, List, T, length, get_or}
use Rattle.std.proofs.Math.Path.{refl, sym, ap, subst}
use Rattle.std.proofs.Common.{◌∙◌, inl, inr, zero-add}
use Prim.Native.Nat.{ℕ, zero, suc, ◌+◌, ◌<◌, ◌≤◌, min}
use native.Mathlib.Omega.{arith}
use Rattle.finite.specs.Truth.{decided, true_of, false_of, refuted, le-or-lt}
use Rattle.finite.specs.Mapped.{map_from}
use Rattle.theory.specs.Game.{Game}
use Rattle.theory.specs.Value.{DepthIs}
use Rattle.theory.proofs.laws.Passes.{Settled, settled_is, all-below}
use Rattle.table_theory.specs.declared.Progress.{Progress}
use Rattle.table_theory.specs.Tables.{Numbering, Lawful, OuterTrue, Result, too_deep, Outcome, ended, some_settles, start_byte, passed}
use Rattle.table_theory.proofs.laws.Passing.{DepthsBelow, start-holds, pass-holds}
use Rattle.table_theory.proofs.laws.Filling.{none-depth}
use Rattle.table_theory.specs.Lending.{passes_until, filled_until}
use Rattle.table_theory.proofs.laws.LendingLaws.{until-done, until-more, until_skip, until-deep}
use Rattle.table_theory.specs.Steps.{going_on, said_done, gave_ten, Said, settled, ends, Stepped, settled_by, started, last_before, step_at, step_from, steps}
use Rattle.table_theory.proofs.laws.StepLaws.{step-done, step-more, step_skip, step-deep, from-going, from-done, from-ten}

abbrev says : Said → Progress → List ℕ → Stepped
says a p t = record { said = a; progress = p; bytes = t }

settled-ends : (m : ℕ) (r : Result) → settled m ≡ ends r → ⊥
settled-ends m r e = let z : ◌≡◌ {A = ℕ} 0 1 = cc in omega arith

module _ (G : Game) (N : Numbering G) (L : Lawful G N) (deeper : ℕ → Bool) where
  -- no position at all has this depth
  abbrev None : ℕ → Type 0
  None k = (p : G.Pos) → L.D p → DepthIs G k p → ⊥

  -- what n steps from a start have come to
  data Ran (t : List ℕ) (n : ℕ) (s : Stepped) : Type 0 where
    going : (m last left : ℕ) (u : List ℕ) → left + n ≡ 254 → s ≡ says (settled m) (going_on n last) u
        → last_before G N deeper n last ≡ last → DepthsBelow G N n u
        → passes_until G N deeper left n (ended last) u ≡ filled_until G N deeper t → Ran t n s
    over : (k last : ℕ) (u : List ℕ) → k < n → s ≡ says (ends (ended last)) (said_done k last) u → DepthsBelow G N k u
        → None k → filled_until G N deeper t ≡ record { result = ended last; bytes = u } → Ran t n s
    deep : (k last : ℕ) (u : List ℕ) → 254 < n → s ≡ says (ends too_deep) (gave_ten k last) u
        → filled_until G N deeper t ≡ record { result = too_deep; bytes = u } → Ran t n s

  abbrev next : Stepped → Stepped
  next s = step_from G N deeper s.progress s.bytes

  module _ (truth : OuterTrue G N L)
      (lent : (p : G.Pos) → L.D p → N.inside p ≡ false → (k : ℕ) → DepthIs G k p → T (deeper k))
      (last-deeper : deeper 254 ≡ false) (t : List ℕ) (long : length t ≡ N.size) where
    -- nothing settled and nothing lent as deep: no position at all has depth k
    none-at : (k : ℕ) (u : List ℕ) → DepthsBelow G N k u → some_settles G N k u ≡ false → deeper k ≡ false → None k
    none-at k u w z e p d h = go (decided (N.inside p))
      where
        go : T (N.inside p) ⊎ T (not (N.inside p)) → ⊥
        go (inl i) = none-depth G N L truth k u w (subst (λ (b : Bool). T (not b)) (sym z) tt) (p, d, i, h)
        go (inr o) = refuted e (lent p d (false_of o) k h)

    ran-start : Ran t 0 (started G N t)
    unfolding started filled_until
    ran-start = Ran.going 0 0 254 (map_from (start_byte G N) 0 t) refl refl refl (start-holds G N t long) refl

    ran-going : (n last left : ℕ) (s : Stepped) (u : List ℕ) → left + n ≡ 254 → next s ≡ step_at G N deeper n last u
        → last_before G N deeper n last ≡ last → DepthsBelow G N n u
        → passes_until G N deeper left n (ended last) u ≡ filled_until G N deeper t → Ran t (suc n) (next s)
    ran-going n last left s u e z b w q = go left e q (some_settles G N n u) refl (deeper n) refl
      where
        go : (left : ℕ) → left + n ≡ 254 → passes_until G N deeper left n (ended last) u ≡ filled_until G N deeper t
            → (x : Bool) → some_settles G N n u ≡ x → (d : Bool) → deeper n ≡ d → Ran t (suc n) (next s)
        go left e q false y false d =
            Ran.over n last u (omega arith)
            (z ∙ step-done G N deeper n last u y d ∙ ap (λ (l : ℕ). says (ends (ended l)) (said_done n l) u) b) w
            (none-at n u w y d)
            (sym q ∙ until-done G N deeper n (ended last) u left y d)
        go zero e q false y true d = let x : n ≡ 254 = omega (arith, e) in
            absurd (refuted last-deeper (subst (λ (j : ℕ). T (deeper j)) x (subst T (sym d) tt)))
        go (suc left) e q false y true d =
            Ran.going (settled_by G N n u) last left (passed G N n u) (omega arith)
            (z ∙ step_skip G N deeper n last u y d
            ∙ ap (λ (l : ℕ). says (settled (settled_by G N n u)) (going_on (suc n) l) (passed G N n u)) b)
            (ap (λ (x : Bool). cond x last (suc n)) d) (pass-holds G N L truth n u w)
            (sym (until_skip G N deeper n (ended last) u left y d) ∙ q)
        go zero e q true y x d =
            Ran.deep n (last_before G N deeper n last) (map_from (λ i b. 0) 0 u) (omega arith)
            (z ∙ step-deep G N deeper n last u (omega arith) y) (sym q ∙ until-deep G N deeper n (ended last) u y)
        go (suc left) e q true y x d =
            Ran.going (settled_by G N n u) (suc n) left (passed G N n u) (omega arith)
            (z ∙ step-more G N deeper n last u (omega arith) y) (either (deeper n)) (pass-holds G N L truth n u w)
            (sym (until-more G N deeper n (ended last) u left y) ∙ q)
          where
            either : (x : Bool) → cond x (suc n) (suc n) ≡ suc n
            either true = refl
            either false = refl

    ran-step : (n : ℕ) (s : Stepped) → Ran t n s → Ran t (suc n) (next s)
    ran-step n s (Ran.going m last left u e f b w q) =
        let z : min n 254 ≡ n = omega arith in
        ran-going n last left s u e
        (ap next f ∙ from-going G N deeper (going_on n last) u refl ∙ ap (λ (j : ℕ). step_at G N deeper j last u) z)
        b w q
    ran-step n s (Ran.over k last u h e w x q) =
        Ran.over k last u (omega arith) (ap next e ∙ from-done G N deeper (said_done k last) u refl) w x q
    ran-step n s (Ran.deep k last u h e q) =
        Ran.deep k last u (omega arith)
        (ap next e ∙ from-ten G N deeper (gave_ten k last) u (λ z. omega arith) (λ z. omega arith)) q

    ran-steps : (m n : ℕ) (s : Stepped) → Ran t n s → Ran t (m + n) (steps G N deeper m s)
    unfolding steps
    ran-steps zero n s r = subst (λ (j : ℕ). Ran t j s) (sym (zero-add n)) r
    ran-steps (suc m) n s r =
        let z : m + suc n ≡ suc m + n = omega arith in
        subst (λ (j : ℕ). Ran t j (steps G N deeper m (next s))) z (ran-steps m (suc n) (next s) (ran-step n s r))

    abbrev run : ℕ → Stepped
    run n = steps G N deeper n (started G N t)

    ran : (n : ℕ) → Ran t n (run n)
    ran n = let z : n + 0 ≡ n = omega arith in
        subst (λ (j : ℕ). Ran t j (run n)) z (ran-steps n 0 (started G N t) ran-start)

    -- A RUN THAT HAS ENDED LEAVES WHAT THE SINGLE FILL LEAVES, and ends as it does.
    pub steps-fill : (n : ℕ) (r : Result) → (run n).said ≡ ends r
        → (r ≡ (filled_until G N deeper t).result) × ((run n).bytes ≡ (filled_until G N deeper t).bytes)
    steps-fill n r f = go (run n) f (ran n)
      where
        same : (a : Result) (s : Stepped) (p : Progress) (u : List ℕ) → s.said ≡ ends r → s ≡ says (ends a) p u
            → filled_until G N deeper t ≡ record { result = a; bytes = u }
            → (r ≡ (filled_until G N deeper t).result) × (s.bytes ≡ (filled_until G N deeper t).bytes)
        same a s p u f e q =
            let g : ends r ≡ ends a = sym f ∙ ap (λ (x : Stepped). x.said) e in
            let y : r ≡ a = cc in (
              y ∙ sym (ap (λ (o : Outcome). o.result) q),
              ap (λ (x : Stepped). x.bytes) e
                  ∙ sym (ap (λ (o : Outcome). o.bytes) q),
            )

        go : (s : Stepped) → s.said ≡ ends r → Ran t n s
            → (r ≡ (filled_until G N deeper t).result) × (s.bytes ≡ (filled_until G N deeper t).bytes)
        go s f (Ran.going m last left u x e b w q) =
            absurd (settled-ends m r (sym (ap (λ (y : Stepped). y.said) e) ∙ f))
        go s f (Ran.over k last u h e w x q) = same (ended last) s (said_done k last) u f e q
        go s f (Ran.deep k last u h e q) = same too_deep s (gave_ten k last) u f e q

    -- 255 steps have ended.
    pub steps-end : (n m : ℕ) → 254 < n → (run n).said ≡ settled m → ⊥
    steps-end n m h f = go (run n) f (ran n)
      where
        no : (r : Result) (s : Stepped) (p : Progress) (u : List ℕ) → s.said ≡ settled m → s ≡ says (ends r) p u → ⊥
        no r s p u f e = settled-ends m r (sym f ∙ ap (λ (x : Stepped). x.said) e)

        go : (s : Stepped) → s.said ≡ settled m → Ran t n s → ⊥
        go s f (Ran.going i last left u x e b w q) = omega arith
        go s f (Ran.over k last u x e w y q) = no (ended last) s (said_done k last) u f e
        go s f (Ran.deep k last u x e q) = no too_deep s (gave_ten k last) u f e

    -- THE SINGLE FILL GIVES 10 EXACTLY WHERE A RUN DOES.
    pub steps-ten : ((filled_until G N deeper t).result ≡ too_deep) ↔ ((n : ℕ) × ((run n).said ≡ ends too_deep))
    steps-ten = (λ e. (255, go e (run 255).said refl), λ x. sym (steps-fill x.0 too_deep x.1).0)
      where
        go : (filled_until G N deeper t).result ≡ too_deep → (a : Said) → (run 255).said ≡ a → (run 255).said ≡ ends too_deep
        go e (settled m) f = absurd (steps-end 255 m (omega arith) f)
        go e (ends r) f = f ∙ ap ends ((steps-fill 255 r f).0 ∙ e)

    -- STEPS PAST THE END CHANGE NOTHING: neither what is said, nor the progress, nor a byte.
    pub steps-past : (n : ℕ) (r : Result) → (run n).said ≡ ends r → (m : ℕ) → steps G N deeper m (run n) ≡ run n
    unfolding steps
    steps-past n r f zero = refl
    steps-past n r f (suc m) = ap (steps G N deeper m) (go (run n) f (ran n)) ∙ steps-past n r f m
      where
        go : (s : Stepped) → s.said ≡ ends r → Ran t n s → next s ≡ s
        go s f (Ran.going i last left u x e b w q) =
            absurd (settled-ends i r (sym (ap (λ (y : Stepped). y.said) e) ∙ f))
        go s f (Ran.over k last u h e w x q) = ap next e ∙ from-done G N deeper (said_done k last) u refl ∙ sym e
        go s f (Ran.deep k last u h e q) =
            ap next e ∙ from-ten G N deeper (gave_ten k last) u (λ z. omega arith) (λ z. omega arith) ∙ sym e

    -- ---- the bytes after n steps, no 10 given

    module _ (n : ℕ) (no-ten : (run n).said ≡ ends too_deep → ⊥) (i : ℕ) (h : i < N.size) where
      -- n passes are done, or k of them and no depth is k or more
      data Bytes (u : List ℕ) : Type 0 where
        first : (k : ℕ) → DepthsBelow G N k u → k ≤ n → (k < n → None k) → Bytes u

      bytes : Bytes (run n).bytes
      bytes = go (run n) no-ten (ran n)
        where
          go : (s : Stepped) → (s.said ≡ ends too_deep → ⊥) → Ran t n s → Bytes s.bytes
          go s ten (Ran.going m last left u x e b w q) =
              subst Bytes (sym (ap (λ (y : Stepped). y.bytes) e)) (Bytes.first n w (omega arith) (λ l. omega arith))
          go s ten (Ran.over k last u l e w x q) =
              subst Bytes (sym (ap (λ (y : Stepped). y.bytes) e)) (Bytes.first k w (omega arith) (λ y. x))
          go s ten (Ran.deep k last u x e q) = absurd (ten (ap (λ (y : Stepped). y.said) e))

      -- AFTER n STEPS A LEGAL POSITION'S NUMBER HOLDS ITS TRUE BYTE WHERE THE DEPTH IS LESS THAN n, and 1 elsewhere.
      pub steps-true : T (N.live i) → Settled G n (N.at i) (get_or (run n).bytes i 0)
      steps-true v = go (run n).bytes bytes
        where
          more : (k : ℕ) → k ≤ n → (k < n → None k) → (b : ℕ) → Settled G k (N.at i) b → Settled G n (N.at i) b
          more k l none b (Settled.done m x d e) = Settled.done m (omega arith) d e
          more k l none b (Settled.yet x e) = Settled.yet (λ m y d. x m (lower m y d) d) e
            where
              lower : (m : ℕ) → m < n → DepthIs G m (N.at i) → m < k
              lower m y d = either (le-or-lt n k)
                where
                  either : (n ≤ k) ⊎ (k < n) → m < k
                  either (inl z) = omega arith
                  either (inr z) = all-below G L.D L.closed k (none z) m (N.at i) (L.live_at i h v).0 d

          go : (u : List ℕ) → Bytes u → Settled G n (N.at i) (get_or u i 0)
          go u (Bytes.first k w l none) =
              more k l none (get_or u i 0)
              (subst (λ (b : ℕ). Settled G k (N.at i) b) (sym (w.byte i h ∙ rw (true_of {b = N.live i} v)))
              (settled_is G k (N.at i)))

      -- Every other number holds 0.
      pub steps-zero : N.live i ≡ false → get_or (run n).bytes i 0 ≡ 0
      steps-zero v = go (run n).bytes bytes
        where
          go : (u : List ℕ) → Bytes u → get_or u i 0 ≡ 0
          go u (Bytes.first k w l none) = w.byte i h ∙ rw v

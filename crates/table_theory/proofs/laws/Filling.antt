-- Filling writes the true table and gives the greatest depth, or says that nothing is decided; it gives up, the table cleared, exactly
-- where a depth exceeds 253. For endings whose positions without a number are drawn.
use Rattle.std.specs.Prelude.{◌≡◌, Bool, cond, ◌⊎◌, List, length, get_or}
use Rattle.std.proofs.Math.Path.{refl}
use Rattle.std.proofs.Common.{sym, ap, subst, ◌∙◌, inl, inr, zero-add}
use Rattle.std.proofs.Math.Bool.{true, false, not}
use Prim.Native.Nat.{ℕ, zero, suc, ◌+◌, ◌-◌, ◌<◌, ◌≤◌}
use native.Mathlib.Omega.{arith}
use Rattle.std.proofs.Math.Dec.{T, T_not}
use Rattle.std.proofs.Math.ListN.{get_or-eq_default}
use Rattle.finite.specs.Truth.{decided, true_of, false_of, le-or-lt}
use Rattle.finite.specs.Below.{all_below, below, fails-below}
use Rattle.finite.specs.Mapped.{map_from, get_d-map_from, length-map_from}
use Rattle.theory.specs.Game.{Game}
use Rattle.theory.specs.Value.{Drawn, DepthIs, TrueByte}
use Rattle.theory.proofs.laws.Depth.{draw-is}
use Rattle.theory.proofs.laws.Alike.{alike-depth}
use Rattle.theory.proofs.laws.Passes.{complete, all-below}
use Rattle.table_theory.specs.Tables.{Numbering, Lawful, OuterTrue, True, Result, undecided, deepest, too_deep, Outcome, ended, settles, some_settles, start_byte, pass_byte, passed, passes_from, filled}
use Rattle.table_theory.proofs.laws.Passing.{DepthsBelow, start-holds, settles-depth, pass-holds}

pub cleared : (t : List ℕ) (n : ℕ) → get_or (map_from (λ i b. 0) 0 t) n 0 ≡ 0
cleared t n = go (le-or-lt (length t) n)
  where
    go : (length t ≤ n) ⊎ (n < length t) → get_or (map_from (λ i b. 0) 0 t) n 0 ≡ 0
    go (inl h) =
        get_or-eq_default (map_from (λ i b. 0) 0 t) 0
        (subst (λ (m : ℕ). m ≤ n) (sym (length-map_from (λ i b. 0) 0 t)) h)
    go (inr h) = get_d-map_from (λ i b. 0) 0 t n h

module _ (G : Game) (N : Numbering G) (L : Lawful G N) where
  -- some position with a number has this depth
  abbrev pub SomeDepth : ℕ → Type 0
  SomeDepth k = (p : G.Pos) × L.D p × T (N.inside p) × DepthIs G k p

  -- what is promised of a filled table, by how filling ends
  unfoldable pub FillRight : Result → List ℕ → Type 0
  FillRight undecided t = True G N t × ((k : ℕ) → SomeDepth k → ⊥)
  FillRight (deepest n) t = True G N t × SomeDepth n × ((m : ℕ) → SomeDepth m → m ≤ n) × (n ≤ 253)
  FillRight too_deep t = ((n : ℕ) → get_or t n 0 ≡ 0) × ((k : ℕ) × (253 < k) × SomeDepth k)

  -- where no position has depth k, the table after k passes is true
  pub holds-true : (k : ℕ) (t : List ℕ) → DepthsBelow G N k t → ((p : G.Pos) → L.D p → DepthIs G k p → ⊥) → True G N t
  holds-true k t w none = record {
    legal-true =
        λ n h l. subst (λ (b : ℕ). TrueByte G (N.at n) b) (sym (w.byte n h ∙ rw (true_of {b = N.live n} l)))
        (complete G L.D L.closed k none (N.at n) (L.live_at n h l).0);
    others-zero = λ n h e. w.byte n h ∙ rw e;
  }

  module _ (truth : OuterTrue G N L) where
    -- pass k settles a number exactly where some position with a number has depth k
    pub some-depth : (k : ℕ) (t : List ℕ) → DepthsBelow G N k t → T (some_settles G N k t) → SomeDepth k
    unfolding some_settles
    some-depth k t w s =
        let f = fails-below (λ n. not (settles G N k t n)) N.size s in
        let d = (settles-depth G N L truth k t w f.0 f.1).0 (twice (settles G N k t f.0) f.2) in
        let a = L.live_at f.0 f.1 d.0 in
        (N.at f.0, a.0, a.1, d.1)
      where
        twice : (b : Bool) → T (not (not b)) → T b
        twice true t = tt
        twice false t = t

    pub none-depth : (k : ℕ) (t : List ℕ) → DepthsBelow G N k t → T (not (some_settles G N k t)) → SomeDepth k → ⊥
    unfolding some_settles
    none-depth k t w s x =
        let l = L.number-live x.0 x.1 x.2 in
        let d = alike-depth G G L.Same L.alike k x.0 (N.at (N.number x.0))
        (L.same_at x.0 x.1 x.2) x.3 in
        T_not (settles G N k t (N.number x.0))
        (below (λ m. not (settles G N k t m)) N.size (all (all_below (λ m. not (settles G N k t m)) N.size) s)
        (N.number x.0) l.0)
        ((settles-depth G N L truth k t w (N.number x.0) l.0).1 (l.1, d))
      where
        all : (b : Bool) → T (not (not b)) → T b
        all true t = tt
        all false t = t

    module _ (outer-drawn : (p : G.Pos) → L.D p → N.inside p ≡ false → Drawn G p) where
      -- then no position at all has that depth
      no-depth : (k : ℕ) (t : List ℕ) → DepthsBelow G N k t → T (not (some_settles G N k t)) → (p : G.Pos) → L.D p
          → DepthIs G k p → ⊥
      no-depth k t w s p d h = go (decided (N.inside p))
        where
          go : T (N.inside p) ⊎ T (not (N.inside p)) → ⊥
          go (inl i) = none-depth k t w s (p, d, i, h)
          go (inr o) = (draw-is G p).0 (outer-drawn p d (false_of o)) k h

      -- a pass that settles nothing ends the filling
      ended-filled : (k : ℕ) (t : List ℕ) → k ≤ 254 → DepthsBelow G N k t → (k ≡ 0) ⊎ SomeDepth (k - 1)
          → ((p : G.Pos) → L.D p → DepthIs G k p → ⊥) → FillRight (ended k) t
      unfolding FillRight
      ended-filled zero t h w before none = (
        holds-true 0 t w none,
        λ k x. absurd (omega (arith, all-below G L.D L.closed 0 none k x.0 x.1 x.3)),
      )
      ended-filled (suc k) t h w before none = (
        holds-true (suc k) t w none,
        top before,
        λ m x. least m (all-below G L.D L.closed (suc k) none m x.0 x.1 x.3),
        omega arith,
      )
        where
          last : suc k - 1 ≡ k
          last = omega arith

          least : (m : ℕ) → m < suc k → m ≤ k
          least m h = omega arith

          top : (suc k ≡ 0) ⊎ SomeDepth (suc k - 1) → SomeDepth k
          top (inl e) = absurd (omega arith)
          top (inr x) = subst SomeDepth last x

      abbrev Right : Outcome → Type 0
      Right o = FillRight o.result o.bytes

      passes-filled : (left k : ℕ) (t : List ℕ) → left + k ≡ 254 → DepthsBelow G N k t → (k ≡ 0) ⊎ SomeDepth (k - 1)
          → Right (passes_from G N left k t)
      unfolding passes_from FillRight
      passes-filled zero k t e w before = go (some_settles G N k t) refl
        where
          go : (b : Bool) → some_settles G N k t ≡ b
              → Right (cond {A = Outcome} b (record { result = too_deep; bytes = map_from (λ n b. 0) 0 t })
              (record { result = ended k; bytes = t }))
          go true s = (cleared t, (k, omega arith, some-depth k t w (subst T (sym s) tt)))
          go false s =
              ended-filled k t (omega arith) w before (no-depth k t w (subst (λ (b : Bool). T (not b)) (sym s) tt))
      passes-filled (suc left) k t e w before =
          let z : suc k - 1 ≡ k = omega arith in
          go (some_settles G N k t) refl
          (λ x. passes-filled left (suc k) (passed G N k t) (omega arith) (pass-holds G N L truth k t w)
          (inr (subst SomeDepth (sym z) x)))
        where
          go : (b : Bool) → some_settles G N k t ≡ b
              → (SomeDepth k → Right (passes_from G N left (suc k) (passed G N k t)))
              → Right (cond {A = Outcome} b (passes_from G N left (suc k) (passed G N k t))
              (record { result = ended k; bytes = t }))
          go true s next = next (some-depth k t w (subst T (sym s) tt))
          go false s next =
              ended-filled k t (omega arith) w before (no-depth k t w (subst (λ (b : Bool). T (not b)) (sym s) tt))

      -- What filling promises, whatever the lent table held.
      pub fill-right : (t : List ℕ) → length t ≡ N.size → FillRight (filled G N t).result (filled G N t).bytes
      unfolding filled
      fill-right t e = passes-filled 254 0 (map_from (start_byte G N) 0 t) refl (start-holds G N t e) (inl refl)

-- ---- what filling leaves is bytes

mapped-small : (f : ℕ → ℕ → ℕ) (t : List ℕ) → ((n : ℕ) → f n (get_or t n 0) < 256) → (n : ℕ)
    → get_or (map_from f 0 t) n 0 < 256
mapped-small f t small n = go (le-or-lt (length t) n)
  where
    go : (length t ≤ n) ⊎ (n < length t) → get_or (map_from f 0 t) n 0 < 256
    go (inl h) = let z : get_or (map_from f 0 t) n 0 ≡ 0 =
        get_or-eq_default (map_from f 0 t) 0 (subst (λ (m : ℕ). m ≤ n) (sym (length-map_from f 0 t)) h) in
        omega (arith, z)
    go (inr h) = let z : get_or (map_from f 0 t) n 0 ≡ f n (get_or t n 0) = get_d-map_from f 0 t n h
        ∙ ap (λ (m : ℕ). f m (get_or t n 0)) (zero-add n) in omega (arith, z, small n)

either-small : (b : Bool) (x y : ℕ) → x < 256 → y < 256 → cond b x y < 256
either-small true x y h k = h
either-small false x y h k = k

passes-small : (G : Game) (N : Numbering G) (left k : ℕ) (t : List ℕ) → left + k ≡ 254 → ((n : ℕ) → get_or t n 0 < 256)
    → (n : ℕ) → get_or (passes_from G N left k t).bytes n 0 < 256
unfolding passes_from
passes-small G N zero k t e small n = go (some_settles G N k t)
  where
    go : (b : Bool)
        → get_or (cond {A = Outcome} b (record { result = too_deep; bytes = map_from (λ n b. 0) 0 t })
        (record { result = ended k; bytes = t })).bytes n 0 < 256
    go true = let z = cleared t n in omega (arith, z)
    go false = small n
passes-small G N (suc left) k t e small n =
    go (some_settles G N k t) (passes-small G N left (suc k) (passed G N k t) (omega arith) passed-small n)
  where
    passed-small : (m : ℕ) → get_or (passed G N k t) m 0 < 256
    passed-small m = unfold passed in
        mapped-small (pass_byte G N k t) t
        (λ i. either-small (settles G N k t i) (2 + k) (get_or t i 0) (omega arith) (small i)) m

    go : (b : Bool) → get_or (passes_from G N left (suc k) (passed G N k t)).bytes n 0 < 256
        → get_or (cond {A = Outcome} b (passes_from G N left (suc k) (passed G N k t))
        (record { result = ended k; bytes = t })).bytes n 0 < 256
    go true h = h
    go false h = small n

pub filled-small : (G : Game) (N : Numbering G) (t : List ℕ) (n : ℕ) → get_or (filled G N t).bytes n 0 < 256
unfolding filled
filled-small G N t =
    passes-small G N 254 0 (map_from (start_byte G N) 0 t) refl
    (mapped-small (start_byte G N) t (λ i. either-small (N.live i) 1 0 (omega arith) (omega arith)))

-- filling keeps the table's length
passes-length : (G : Game) (N : Numbering G) (left k : ℕ) (t : List ℕ)
    → length (passes_from G N left k t).bytes ≡ length t
unfolding passes_from
passes-length G N zero k t = go (some_settles G N k t)
  where
    go : (b : Bool)
        → length
        (cond {A = Outcome} b (record { result = too_deep; bytes = map_from (λ n b. 0) 0 t })
        (record { result = ended k; bytes = t })).bytes ≡ length t
    go true = length-map_from (λ n b. 0) 0 t
    go false = refl
passes-length G N (suc left) k t = go (some_settles G N k t) (passes-length G N left (suc k) (passed G N k t))
  where
    pass-length : length (passed G N k t) ≡ length t
    pass-length = unfold passed in length-map_from (pass_byte G N k t) 0 t

    go : (b : Bool) → length (passes_from G N left (suc k) (passed G N k t)).bytes ≡ length (passed G N k t)
        → length
        (cond {A = Outcome} b (passes_from G N left (suc k) (passed G N k t))
        (record { result = ended k; bytes = t })).bytes ≡ length t
    go true e = e ∙ pass-length
    go false e = refl

pub filled-length : (G : Game) (N : Numbering G) (t : List ℕ) → length (filled G N t).bytes ≡ length t
unfolding filled
filled-length G N t = passes-length G N 254 0 (map_from (start_byte G N) 0 t) ∙ length-map_from (start_byte G N) 0 t

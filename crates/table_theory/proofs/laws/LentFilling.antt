-- Filling over lent tables writes the true table and gives the greatest depth that it settled; it gives up, the table cleared, exactly where a
-- position with a number is deeper than 253.
use Rattle.std.specs.Prelude.{◌≡◌, Bool, true, cond, not, ◌&&◌, ◌⊎◌, List, T, length}
use Rattle.std.proofs.Math.Path.{refl, ap}
use Rattle.std.proofs.Common.{sym, subst, ◌∙◌, inl, inr}
use Rattle.std.proofs.Math.Bool.{false}
use Prim.Native.Nat.{ℕ, zero, suc, ◌+◌, ◌<◌, ◌≤◌}
use native.Mathlib.Omega.{arith}
use Rattle.finite.specs.Truth.{decided, false_of, refuted, le-or-lt}
use Rattle.finite.specs.Mapped.{map_from, length-map_from}
use Rattle.theory.specs.Game.{Game}
use Rattle.theory.specs.Value.{DepthIs}
use Rattle.theory.proofs.laws.Passes.{all-below}
use Rattle.table_theory.specs.Tables.{Numbering, Lawful, OuterTrue, Result, undecided, deepest, too_deep, Outcome, some_settles, start_byte, pass_byte, passed}
use Rattle.table_theory.specs.Lending.{passes_until, filled_until}
use Rattle.table_theory.proofs.laws.Passing.{DepthsBelow, start-holds, pass-holds}
use Rattle.table_theory.proofs.laws.Filling.{cleared, SomeDepth, FillRight, holds-true, some-depth, none-depth}

module _ (G : Game) (N : Numbering G) (L : Lawful G N) where
  -- what the passes before k have settled
  abbrev SoFar : ℕ → Result → Type 0
  SoFar k undecided = (m : ℕ) → m < k → SomeDepth G N L m → ⊥
  SoFar k (deepest n) = SomeDepth G N L n × (n < k) × ((m : ℕ) → m < k → SomeDepth G N L m → m ≤ n)
  SoFar k too_deep = ⊥

  settles-none : (k : ℕ) (so : Result) → SoFar k so → (SomeDepth G N L k → ⊥) → SoFar (suc k) so
  settles-none k undecided s none = λ m h x. go m h x (le-or-lt k m)
    where
      go : (m : ℕ) → m < suc k → SomeDepth G N L m → (k ≤ m) ⊎ (m < k) → ⊥
      go m h x (inl l) = let z : m ≡ k = omega arith in none (subst (SomeDepth G N L) z x)
      go m h x (inr l) = s m l x
  settles-none k (deepest n) s none = (s.0, omega (arith, s.1), λ m h x. go m h x (le-or-lt k m))
    where
      go : (m : ℕ) → m < suc k → SomeDepth G N L m → (k ≤ m) ⊎ (m < k) → m ≤ n
      go m h x (inl l) = let z : m ≡ k = omega arith in absurd (none (subst (SomeDepth G N L) z x))
      go m h x (inr l) = s.2 m l x
  settles-none k too_deep s none = absurd s

  module _ (truth : OuterTrue G N L) (deeper : ℕ → Bool)
      (lent : (p : G.Pos) → L.D p → N.inside p ≡ false → (k : ℕ) → DepthIs G k p → T (deeper k))
      (last-deeper : deeper 254 ≡ false) where
    -- nothing settled and nothing lent as deep: no position at all has depth k
    none-at : (k : ℕ) → (SomeDepth G N L k → ⊥) → deeper k ≡ false → (p : G.Pos) → L.D p → DepthIs G k p → ⊥
    none-at k none e p d h = go (decided (N.inside p))
      where
        go : T (N.inside p) ⊎ T (not (N.inside p)) → ⊥
        go (inl i) = none (p, d, i, h)
        go (inr o) = refuted e (lent p d (false_of o) k h)

    done-filled : (k : ℕ) (so : Result) (t : List ℕ) → k ≤ 254 → DepthsBelow G N k t → SoFar k so
        → (SomeDepth G N L k → ⊥) → deeper k ≡ false → FillRight G N L so t
    unfolding FillRight
    done-filled k undecided t b w s none e =
        let below-k = all-below G L.D L.closed k (none-at k none e) in
        (holds-true G N L k t w (none-at k none e), λ m x. s m (below-k m x.0 x.1 x.3) x)
    done-filled k (deepest n) t b w s none e =
        let below-k = all-below G L.D L.closed k (none-at k none e) in (
          holds-true G N L k t w (none-at k none e),
          s.0,
          λ m x. s.2 m (below-k m x.0 x.1 x.3) x,
          omega (arith, s.1),
        )
    done-filled k too_deep t b w s none e = absurd s

    abbrev Right : Outcome → Type 0
    Right o = FillRight G N L o.result o.bytes

    passes-right : (left k : ℕ) (so : Result) (t : List ℕ) → left + k ≡ 254 → DepthsBelow G N k t → SoFar k so
        → Right (passes_until G N deeper left k so t)
    unfolding passes_until FillRight
    passes-right zero k so t e w s = go (some_settles G N k t) refl
      where
        at-end : deeper k ≡ false
        at-end = let z : k ≡ 254 = omega arith in ap deeper z ∙ last-deeper

        go : (b : Bool) → some_settles G N k t ≡ b
            → Right (cond {A = Outcome} b (record { result = too_deep; bytes = map_from (λ n b. 0) 0 t })
            (record { result = so; bytes = t }))
        go true q = (cleared t, (k, omega arith, some-depth G N L truth k t w (subst T (sym q) tt)))
        go false q =
            done-filled k so t (omega arith) w s
            (none-depth G N L truth k t w (subst (λ (b : Bool). T (not b)) (sym q) tt)) at-end
    passes-right (suc left) k so t e w s =
        go (some_settles G N k t) refl (deeper k) refl
        (λ now x. passes-right left (suc k) now (passed G N k t) (omega arith) (pass-holds G N L truth k t w) x)
      where
        go : (b : Bool) → some_settles G N k t ≡ b → (d : Bool) → deeper k ≡ d
            → ((now : Result) → SoFar (suc k) now → Right (passes_until G N deeper left (suc k) now (passed G N k t)))
            → Right (cond {A = Outcome} (not b && not d) (record { result = so; bytes = t })
            (passes_until G N deeper left (suc k) (cond b (deepest k) so) (passed G N k t)))
        go true q d r next =
            next (deepest k) (some-depth G N L truth k t w (subst T (sym q) tt), omega arith, λ m h y. omega arith)
        go false q true r next =
            next so
            (settles-none k so s (none-depth G N L truth k t w (subst (λ (b : Bool). T (not b)) (sym q) tt)))
        go false q false r next =
            done-filled k so t (omega arith) w s
            (none-depth G N L truth k t w (subst (λ (b : Bool). T (not b)) (sym q) tt)) r

    -- What filling over lent tables promises, whatever the table to be filled held.
    pub lent-fill-right : (t : List ℕ) → length t ≡ N.size
        → FillRight G N L (filled_until G N deeper t).result (filled_until G N deeper t).bytes
    unfolding filled_until
    lent-fill-right t e =
        passes-right 254 0 undecided (map_from (start_byte G N) 0 t) refl (start-holds G N t e) (λ m h x. omega arith)

-- ---- filling keeps the table's length

until-length : (G : Game) (N : Numbering G) (deeper : ℕ → Bool) (left k : ℕ) (so : Result) (t : List ℕ)
    → length (passes_until G N deeper left k so t).bytes ≡ length t
unfolding passes_until
until-length G N deeper zero k so t = go (some_settles G N k t)
  where
    go : (b : Bool)
        → length
        (cond {A = Outcome} b (record { result = too_deep; bytes = map_from (λ n b. 0) 0 t })
        (record { result = so; bytes = t })).bytes ≡ length t
    go true = length-map_from (λ n b. 0) 0 t
    go false = refl
until-length G N deeper (suc left) k so t =
    go (not (some_settles G N k t) && not (deeper k))
    (until-length G N deeper left (suc k) (cond (some_settles G N k t) (deepest k) so) (passed G N k t))
  where
    pass-length : length (passed G N k t) ≡ length t
    pass-length = unfold passed in length-map_from (pass_byte G N k t) 0 t

    go : (b : Bool)
        → length
        (passes_until G N deeper left (suc k) (cond (some_settles G N k t) (deepest k) so) (passed G N k t)).bytes
        ≡ length (passed G N k t)
        → length
        (cond {A = Outcome} b (record { result = so; bytes = t })
        (passes_until G N deeper left (suc k) (cond (some_settles G N k t) (deepest k) so) (passed G N k t))).bytes
        ≡ length t
    go true e = refl
    go false e = e ∙ pass-length

pub lent-fill-length : (G : Game) (N : Numbering G) (deeper : ℕ → Bool) (t : List ℕ)
    → length (filled_until G N deeper t).bytes ≡ length t
unfolding filled_until
lent-fill-length G N deeper t = until-length G N deeper 254 0 undecided (map_from (start_byte G N) 0 t)
    ∙ length-map_from (start_byte G N) 0 t

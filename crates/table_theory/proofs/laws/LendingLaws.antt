-- Filling with nothing lent is the filling of one ending; and how the passes go on from pass k.
use Rattle.std.specs.Prelude.{◌≡◌, Bool, ◌&&◌, List}
use Rattle.std.proofs.Math.Path.{refl}
use Rattle.std.proofs.Math.Bool.{true, false, cond, not}
use Prim.Native.Nat.{ℕ, zero, suc}
use Rattle.finite.specs.Mapped.{map_from}
use Rattle.theory.specs.Game.{Game}
use Rattle.table_theory.specs.Tables.{Numbering, Result, deepest, too_deep, Outcome, ended, some_settles, start_byte, passed, passes_from, filled}
use Rattle.table_theory.specs.Lending.{passes_until, filled_until}

module _ (G : Game) (N : Numbering G) where
  passes_same : (left k : ℕ) (t : List ℕ) → passes_until G N (λ n. false) left k (ended k) t ≡ passes_from G N left k t
  unfolding passes_until passes_from
  passes_same zero k t = refl
  passes_same (suc left) k t = go (some_settles G N k t) (passes_same left (suc k) (passed G N k t))
    where
      go : (b : Bool)
          → passes_until G N (λ n. false) left (suc k) (deepest k) (passed G N k t)
          ≡ passes_from G N left (suc k) (passed G N k t)
          → cond {A = Outcome} (not b && not false) (record { result = ended k; bytes = t })
          (passes_until G N (λ n. false) left (suc k) (cond b (deepest k) (ended k)) (passed G N k t))
          ≡ cond b (passes_from G N left (suc k) (passed G N k t)) (record { result = ended k; bytes = t })
      go true e = e
      go false e = refl

  -- One ending is filled with nothing lent.
  pub filled-same : (t : List ℕ) → filled_until G N (λ n. false) t ≡ filled G N t
  unfolding filled_until filled
  filled-same t = passes_same 254 0 (map_from (start_byte G N) 0 t)

  module _ (deeper : ℕ → Bool) (k : ℕ) (so : Result) (t : List ℕ) where
    pub until-done : (left : ℕ) → some_settles G N k t ≡ false → deeper k ≡ false
        → passes_until G N deeper left k so t ≡ record { result = so; bytes = t }
    unfolding passes_until
    until-done zero e d = rw e
    until-done (suc left) e d = rw (e, d)

    pub until-more : (left : ℕ) → some_settles G N k t ≡ true
        → passes_until G N deeper (suc left) k so t ≡ passes_until G N deeper left (suc k) (deepest k) (passed G N k t)
    unfolding passes_until
    until-more left e = rw e

    pub until_skip : (left : ℕ) → some_settles G N k t ≡ false → deeper k ≡ true
        → passes_until G N deeper (suc left) k so t ≡ passes_until G N deeper left (suc k) so (passed G N k t)
    unfolding passes_until
    until_skip left e d = rw (e, d)

    pub until-deep : some_settles G N k t ≡ true
        → passes_until G N deeper 0 k so t ≡ record { result = too_deep; bytes = map_from (λ n b. 0) 0 t }
    unfolding passes_until
    until-deep e = rw e

-- Filling where positions without a number may be read in lent tables: `deeper k` says that one of these holds a depth of k or more. Depths may then
-- skip, so a pass that settles nothing is no end while it holds. Definitions only.
use Rattle.std.specs.Prelude.{Bool, cond, not, ◌&&◌, List, ℕ, zero, suc}
use Rattle.finite.specs.Mapped.{map_from}
use Rattle.theory.specs.Game.{Game}
use Rattle.table_theory.specs.Tables.{Numbering, Result, undecided, deepest, too_deep, Outcome, some_settles, start_byte, passed}

module _ (G : Game) (N : Numbering G) (deeper : ℕ → Bool) where
  -- "says done exactly when it settles none and no lent small table holds a depth of k or more" (02, P10)
  abbrev pub done_at : ℕ → List ℕ → Bool
  done_at k t = not (some_settles G N k t) && not (deeper k)

  -- Passes from pass k on, those before it having come to `so`; `left` is 254 - k.
  unfoldable pub passes_until : ℕ → ℕ → Result → List ℕ → Outcome
  passes_until zero k so t = cond (some_settles G N k t) (record { result = too_deep; bytes = map_from (λ n b. 0) 0 t }) (record { result = so; bytes = t })
  passes_until (suc left) k so t = cond (done_at k t) (record { result = so; bytes = t }) (passes_until left (suc k) (cond (some_settles G N k t) (deepest k) so) (passed G N k t))

  unfoldable pub filled_until : List ℕ → Outcome
  filled_until t = passes_until 254 0 undecided (map_from (start_byte G N) 0 t)

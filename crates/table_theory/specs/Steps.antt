-- Filling in steps (02, P8): the progress between two steps, and one step on any bytes and any progress. Definitions only.
use Rattle.std.specs.Prelude.{Bool, cond, ◌&&◌, List, ℕ, zero, suc, min, leb, eqb}
use Rattle.finite.specs.Ranked.{rank}
use Rattle.finite.specs.Mapped.{map_from}
use Rattle.theory.specs.Game.{Game}
use Rattle.table_theory.specs.declared.Progress.{Progress}
use Rattle.table_theory.specs.Tables.{Numbering, Result, too_deep, ended, settles, some_settles, start_byte, passed}
use Rattle.table_theory.specs.Lending.{done_at}

-- ---- the progress: every value is one of these three, a stage above 2 counting as 2

-- the step for depth k comes next; `last` is 1 + the last depth settled, and 0 where none was
abbrev pub going_on : ℕ → ℕ → Progress
going_on k last = record { stage = 0; next = k; last = last }

-- the step for depth k said done, `last - 1` being the greatest depth; none is decided where `last` is 0
abbrev pub said_done : ℕ → ℕ → Progress
said_done k last = record { stage = 1; next = k; last = last }

abbrev pub gave_ten : ℕ → ℕ → Progress
gave_ten k last = record { stage = 2; next = k; last = last }

-- What a call says: how many numbers it settled, filling going on; or how filling ends.
pub data Said : Type 0 where
  settled : ℕ → Said
  ends : Result → Said

-- what a call hands back, and the table's bytes after it
pub record Stepped : Type 0 where
  pub said : Said
  pub progress : Progress
  pub bytes : List ℕ

module _ (G : Game) (N : Numbering G) where
  -- how many numbers pass k settles
  unfoldable pub settled_by : ℕ → List ℕ → ℕ
  settled_by k t = rank (settles G N k t) N.size

  -- "Starting sets every used legal number to 1 and the rest to 0."
  unfoldable pub started : List ℕ → Stepped
  started t = record { said = settled 0; progress = going_on 0 0; bytes = map_from (start_byte G N) 0 t }

  module _ (deeper : ℕ → Bool) where
    -- What counts as `last` at the step for depth k, whatever the progress says: the step before settled its depth, or else it would have said done,
    -- unless something lent is as deep.
    abbrev pub last_before : ℕ → ℕ → ℕ
    last_before zero last = zero
    last_before (suc k) last = cond (deeper k) last (suc k)

    -- The step for depth k, 254 at most: it "writes 2 + k at exactly the legal positions that hold 1 and whose successors' bytes, as they stood before
    -- the step, require depth k". "The whole case of 10 is the step that would settle depth 254"; "it clears the table".
    unfoldable pub step_at : ℕ → ℕ → List ℕ → Stepped
    step_at k last t =
        let before = last_before k last in
        cond (done_at G N deeper k t) (record { said = ends (ended before); progress = said_done k before; bytes = t })
        (cond (some_settles G N k t && leb 254 k) (record { said = ends too_deep; progress = gave_ten k before; bytes = map_from (λ n b. 0) 0 t })
        (record { said = settled (settled_by k t); progress = going_on (suc k) (cond (some_settles G N k t) (suc k) before); bytes = passed G N k t }))

    -- "later steps repeat that answer, and the table stays"; "a k above 254 in it counts as 254"
    unfoldable pub step_from : Progress → List ℕ → Stepped
    step_from p t =
        cond (eqb p.stage 0) (step_at (min p.next 254) p.last t)
        (cond (eqb p.stage 1) (record { said = ends (ended p.last); progress = p; bytes = t })
        (record { said = ends too_deep; progress = p; bytes = t }))

    -- n steps, "each progress given to the next step, no other hand on the table"
    unfoldable pub steps : ℕ → Stepped → Stepped
    steps zero s = s
    steps (suc n) s = steps n (step_from s.progress s.bytes)

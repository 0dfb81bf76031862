-- What a start and a step answer (02, P8), on any bytes and any progress. Definitions only.
use Rattle.std.specs.Prelude.{◌≡◌, Bool, false, cond, not, List, ℕ, zero, suc, leb, eqb, length, Err, Option, Result}
use Rattle.table_theory.specs.declared.Progress.{Progress}
use Rattle.table_theory.specs.Steps as over
use Rattle.table_theory.specs.Steps.{going_on, Said, settled, ends, started, step_at, step_from}
use Rattle.rules.specs.Chess.{chess}
use Rattle.endings.specs.Ending.{table_size, ending}
use Rattle.endings.specs.Answers.{result_of}
use Rattle.desk_refusals.specs.Numbers.{by_number}
use Rattle.filling.specs.declared.steps as declared

-- what a call says, a refusal by its number
pub data Stepped : Type 0 where
  Settled : ℕ → Stepped
  Says : Result (Option ℕ) ℕ → Stepped

-- what a call hands back
pub record Step : Type 0 where
  pub said : Stepped
  pub progress : Progress

abbrev pub said_as : declared.Stepped.Stepped → Stepped
said_as (declared.Stepped.TheVariants.Settled n) = Stepped.Settled n
said_as (declared.Stepped.TheVariants.Says f) = Stepped.Says (by_number f)

abbrev pub step_as : declared.Step.Step → Step
step_as r = record { said = said_as r.said; progress = r.progress }

-- what a call hands back, and the table's bytes after it
pub record Taken : Type 0 where
  pub step : Step
  pub bytes : List ℕ

-- what is promised of the step r and of the bytes that it leaves
pub record Hands (o : Taken) (r : Step) (after : List ℕ) : Type 0 where
  pub step : r ≡ o.step
  pub bytes : after ≡ o.bytes

abbrev pub said_of : Said → Stepped
said_of (settled n) = Stepped.Settled n
said_of (ends r) = Stepped.Says (result_of r)

abbrev pub taken_of : over.Stepped → Taken
taken_of s = record { step = record { said = said_of s.said; progress = s.progress }; bytes = s.bytes }

-- refusals 1 and 7 leave the table and the progress as they were
abbrev pub refusing : ℕ → Progress → Step
refusing k p = record { said = Stepped.Says (Err k); progress = p }

abbrev pub refused : ℕ → List ℕ → Progress → Taken
refused k t p = record { step = refusing k p; bytes = t }

unfoldable pub admitted : ℕ → List ℕ → Progress → Taken → Taken
admitted kind t p s = cond (leb 4 kind) (refused 1 t p) (cond (not (eqb (length t) table_size)) (refused 7 t p) s)

-- three men: nothing is lent
abbrev pub none_deeper : ℕ → Bool
none_deeper k = false

-- the start hands back the progress at its beginning, refused or not
unfoldable pub start_of : ℕ → List ℕ → Taken
start_of kind t = admitted kind t (going_on 0 0) (taken_of (started chess (ending kind) t))

-- the step for depth k, the one before having settled its depth
unfoldable pub step_alone : ℕ → ℕ → List ℕ → Taken
step_alone kind k t = taken_of (step_at chess (ending kind) none_deeper k k t)

unfoldable pub step_of : ℕ → List ℕ → Progress → Taken
step_of kind t p = admitted kind t p (taken_of (step_from chess (ending kind) none_deeper p t))

-- n steps, "each progress given to the next step, no other hand on the table"
unfoldable pub steps_of : ℕ → ℕ → Taken → Taken
steps_of kind zero s = s
steps_of kind (suc n) s = steps_of kind n (step_of kind s.bytes s.step.progress)

-- how many numbers a call settled
abbrev pub settled_of : Stepped → ℕ
settled_of (Stepped.Settled n) = n
settled_of (Stepped.Says f) = 0

-- The word of a progress and of a step's answer (include/sledgewren.h). Definitions only.
use Rattle.std.specs.Prelude.{List, ℕ, ◌+◌, ◌*◌, ◌^◌, ◌/◌, ◌%◌, Err, None, Ok, Option, Result, Some}
use Rattle.table_theory.specs.declared.Progress.{Progress}
use Rattle.filling.specs.Steps.{Stepped, Step, Taken}
use Rattle.filling.specs.Handed.{handed}
use Rattle.table_theory.specs.Steps.{going_on}
use Rattle.numbering.specs.declared.Material.{Material}
use Rattle.four_men.specs.Lending.{Lent}
use Rattle.four_men.specs.Steps.{start_with, step_with}

-- bits 0-7 stage, 8-23 the next step's depth, 24-31 1 + the last depth settled
abbrev pub progress_word : Progress → ℕ
progress_word p = p.stage + p.next * 2 ^ 8 + p.last * 2 ^ 24

-- every word of 32 bits is a progress's
abbrev pub progress_of : ℕ → Progress
progress_of w = record { stage = w % 2 ^ 8; next = w / 2 ^ 8 % 2 ^ 16; last = w / 2 ^ 24 }

-- the refusal; where there is none the progress tells how filling ends
abbrev pub end_word : Result (Option ℕ) ℕ → ℕ
end_word (Err k) = k
end_word (Ok (Some n)) = 0
end_word (Ok None) = 0

-- bits 0-7 refusal, 8-31 how many numbers the call settled
abbrev pub said_word : Stepped → ℕ
said_word (Stepped.Settled n) = n * 2 ^ 8
said_word (Stepped.Says f) = end_word f

-- and 32-63 the progress
abbrev pub step_word : Step → ℕ
step_word s = said_word s.said + progress_word s.progress * 2 ^ 32

-- ---- what a start and a step hand back

abbrev pub start_for : Material → List ℕ → Taken
start_for m t = handed t (going_on 0 0) (start_with m t)

abbrev pub step_for : Material → Progress → Lent → List ℕ → Taken
step_for m p l t = handed t p (step_with m l t p)

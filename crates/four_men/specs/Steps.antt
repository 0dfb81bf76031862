-- What a start and a step answer for one man and for two (02, P8 and P10), on any bytes and any progress. Definitions
-- only.
use Rattle.std.specs.Prelude.{cond, not, List, [], ℕ, zero, suc, eqb, length}
use Rattle.table_theory.specs.declared.Progress.{Progress}
use Rattle.table_theory.specs.Steps.{Stepped, started, step_from}
use Rattle.rules.specs.Chess.{chess}
use Rattle.numbering.specs.declared.Material.{Material}
use Rattle.numbering.specs.Material.{given, size_of}
use Rattle.four_men.specs.Lending.{Lent, borrowed}
use Rattle.four_men.specs.Reading.{numbered, holds_depth}
use Rattle.four_men.specs.Answers.{lengths_fit}

-- What a call comes to: a refusal, the table and the progress as they were; or what it says, hands back and leaves.
pub data Call : Type 0 where
  refused : ℕ → Call
  made : Stepped → Call

-- "lent too, but not to P8's start"
abbrev pub nothing : Lent
nothing = record { first = []; second = [] }

unfoldable pub start_with : Material → List ℕ → Call
start_with m t =
    cond (not (given m)) (Call.refused 1)
    (cond (not (eqb (length t) (size_of m))) (Call.refused 7) (Call.made (started chess (numbered m nothing) t)))

-- A step reads the lent tables' bytes as they stand: 17 is asked "at filling and checking only".
unfoldable pub step_with : Material → Lent → List ℕ → Progress → Call
step_with m l t p =
    cond (not (given m)) (Call.refused 1)
    (cond (not (lengths_fit m l t)) (Call.refused 7)
    (Call.made (step_from chess (numbered m l) (holds_depth (borrowed m l)) p t)))

-- n steps, "each progress given to the next step, no other hand on the table"
abbrev pub steps_with : Material → Lent → ℕ → Call → Call
steps_with m l zero s = s
steps_with m l (suc n) (Call.refused k) = Call.refused k
steps_with m l (suc n) (Call.made s) = steps_with m l n (step_with m l s.bytes s.progress)

-- How a call for one man or two (02, P10) is handed back. Definitions only.
use Rattle.std.specs.Prelude.{List, ℕ}
use Rattle.table_theory.specs.declared.Progress.{Progress}
use Rattle.four_men.specs.Steps.{Call}
use Rattle.filling.specs.Steps.{Taken, taken_of, refused}

-- a refusal leaves the table and the progress as they were
abbrev pub handed : List ℕ → Progress → Call → Taken
handed t p (Call.refused k) = refused k t p
handed t p (Call.made s) = taken_of s

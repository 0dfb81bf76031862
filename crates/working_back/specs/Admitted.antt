-- What filling's parts are given: the men of an ending, and tables of their lengths. Definitions only.
use Rattle.std.specs.Prelude.{List, ℕ, ◌<◌, T}
use Rattle.table_theory.specs.Tables.{Numbering}
use Rattle.rules.specs.Chess.{chess}
use Rattle.position.specs.declared.Men.{Men}
use Rattle.position.specs.Posed.{material_for}
use Rattle.numbering.specs.Material.{given}
use Rattle.four_men.specs.Lending.{lent}
use Rattle.four_men.specs.Reading.{numbered}
use Rattle.four_men.specs.Answers.{lengths_fit}

-- the ending's boards, numbered over the lent tables
abbrev pub over : Men → List ℕ → List ℕ → Numbering chess
over m first second = numbered (material_for m) (lent first second)

-- 1 and 7 do not refuse
pub record Admitted (m : Men) (first second table : List ℕ) : Type 0 where
  pub ending : T (given (material_for m))
  pub colour : m.colour < 2
  pub lengths : T (lengths_fit (material_for m) (lent first second) table)

-- `filling::start_rows` meets its contract. The loop's invariant: the bytes below n are started, the others as they were,
-- and the row's set is kept.
use mathlib.Core.Path.{◌≡◌}
use Prim.Native.Nat.{◌%◌}
use Rattle.finite.specs.Mapped.{Upto}
use Rattle.table_theory.specs.Tables.{start_byte}
use Rattle.rules.specs.Chess.{chess}
use Rattle.position.specs.Posed.{material_for}
use Rattle.four_men.specs.Reading.{numbered}
use Rattle.four_men.specs.Steps.{nothing}
use Rattle.deciding.specs.Rows.{LegalRow}
use Rattle.filling.proofs.bytes.start_rows.Given as goal

abbrev pub invariant-loop-n : goal.invariant-loop-n
invariant-loop-n l = Upto (start_byte chess (numbered (material_for l.m) nothing)) l.initial.table l.table l.n × ((l.n % 64 ≡ 0 → ⊥) → LegalRow l.m l.n l.legal)

-- The word of each answer about a set (include/sledgewren.h), and a choice from its four bytes. Definitions only.
use Rattle.std.specs.Prelude.{Bool, not, ℕ, ◌+◌, ◌*◌, ◌^◌, eqb, Err, Ok, Result}
use Rattle.endings.specs.Ending.{table_size}
use Rattle.sets.specs.declared.Choice.{Choice}

-- 0 is no, any other byte yes
abbrev pub yes : ℕ → Bool
yes b = not (eqb b 0)

abbrev pub choice_by : ℕ → ℕ → ℕ → ℕ → Choice
choice_by queen rook bishop knight = record { queen = yes queen; rook = yes rook; bishop = yes bishop; knight = yes knight }

-- the refusal, or 0
abbrev pub set_written_word : Result (Unit {0}) ℕ → ℕ
set_written_word (Ok tt) = 0
set_written_word (Err k) = k

-- bits 0-7 refusal, 8-31 length, 32-63 offset
abbrev pub found_word : Result ℕ ℕ → ℕ
found_word (Ok offset) = table_size * 2 ^ 8 + offset * 2 ^ 32
found_word (Err k) = k

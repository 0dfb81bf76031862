-- A move as four bytes, and how long a lent list of moves is (include/sledgewren.h). Definitions only.
use Rattle.std.specs.Prelude.{Bool, true, false, List, [], ◌∷◌, ℕ}
use Rattle.rules.specs.declared.Move.{Move}

-- 1 where it holds, 0 where not
abbrev pub flag_of : Bool → ℕ
flag_of true = 1
flag_of false = 0

-- from-square, to-square, 1 where the move takes and 0 where not, and what a pawn becomes
abbrev pub move_bytes : Move → List ℕ
move_bytes m = m.from ∷ m.to ∷ flag_of m.takes ∷ m.becomes ∷ []

-- 62 places of four bytes
abbrev pub list_size : ℕ
list_size = 248

-- The smaller tables that an ending borrows, and its moves' room (02, P10). Definitions only.
use Rattle.std.specs.Prelude.{List, [], ◌∷◌, ℕ, ◌*◌, take, drop}
use Rattle.numbering.specs.declared.Material.{Material}
use Rattle.numbering.specs.Material.{small_size}

-- "The move list's room rises from 35 to 62"
abbrev pub room_of : Material → ℕ
room_of (Material.One kind) = 35
room_of (Material.Two first second rivals) = 62
room_of Material.Pawn = 35

-- "Captures lead into three-man tables, lent too": the table of the first man's kind and that of the second's; of like
-- kinds one table is lent twice. One man borrows none. "promotes to Q, R, B or N into the accepted three-man tables"
-- (P12): a pawn's ending borrows the four of them, one after the other in `first`.
pub record Lent : Type 0 where
  pub first : List ℕ
  pub second : List ℕ

-- as a call is lent them
abbrev pub lent : List ℕ → List ℕ → Lent
lent first second = record { first = first; second = second }

-- the table of a kind among four
unfoldable pub part_of : ℕ → List ℕ → List ℕ
part_of kind run = take small_size (drop (kind * small_size) run)

abbrev pub borrowed : Material → Lent → List (List ℕ)
borrowed (Material.One kind) l = []
borrowed (Material.Two first second rivals) l = l.first ∷ l.second ∷ []
borrowed Material.Pawn l = part_of 0 l.first ∷ part_of 1 l.first ∷ part_of 2 l.first ∷ part_of 3 l.first ∷ []

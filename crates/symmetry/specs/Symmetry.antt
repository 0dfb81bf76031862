-- The board's eight maps: "the files reversed or not, the ranks reversed or not, file and rank exchanged or not" (01). Definitions only.
use Rattle.std.specs.Prelude.{Bool, true, false, cond, List, [], ◌∷◌, ℕ, ◌+◌, ◌-◌, ◌*◌, ◌/◌, ◌%◌, ltb}
use Rattle.std.specs.Bool.{xor}

-- reverse the files or not, reverse the ranks or not, then exchange file and rank or not
pub record Symmetry : Type 0 where
  pub files : Bool
  pub ranks : Bool
  pub swap : Bool

-- the square that s goes to; what is off the board stays
unfoldable pub mapped : Symmetry → ℕ → ℕ
mapped m s =
    let x = cond m.files (7 - s % 8) (s % 8) in
    let y = cond m.ranks (7 - s / 8) (s / 8) in
    cond (ltb s 64) (cond m.swap (x * 8 + y) (y * 8 + x)) s

-- the step (dx, dy), each written plus 2, on the mapped board
unfoldable pub mapped_x : Symmetry → ℕ → ℕ → ℕ
mapped_x m dx dy = cond m.swap (cond m.ranks (4 - dy) dy) (cond m.files (4 - dx) dx)

unfoldable pub mapped_y : Symmetry → ℕ → ℕ → ℕ
mapped_y m dx dy = cond m.swap (cond m.files (4 - dx) dx) (cond m.ranks (4 - dy) dy)

-- the map that takes it back
unfoldable pub inverse : Symmetry → Symmetry
inverse m = record { files = cond m.swap m.ranks m.files; ranks = cond m.swap m.files m.ranks; swap = m.swap }

-- first m, then n: "maps compose" (01)
unfoldable pub composed : Symmetry → Symmetry → Symmetry
composed m n = record {
  files = xor m.files (cond m.swap n.ranks n.files);
  ranks = xor m.ranks (cond m.swap n.files n.ranks);
  swap = xor m.swap n.swap;
}

-- all eight
abbrev pub symmetries : List Symmetry
symmetries =
    record { files = false; ranks = false; swap = false }
    ∷ record { files = false; ranks = false; swap = true }
    ∷ record { files = false; ranks = true; swap = false }
    ∷ record { files = false; ranks = true; swap = true }
    ∷ record { files = true; ranks = false; swap = false }
    ∷ record { files = true; ranks = false; swap = true }
    ∷ record { files = true; ranks = true; swap = false }
    ∷ record { files = true; ranks = true; swap = true }
    ∷ []

-- the three that make up all eight, each by itself
abbrev pub files_reversed : Symmetry
files_reversed = record { files = true; ranks = false; swap = false }

abbrev pub ranks_reversed : Symmetry
ranks_reversed = record { files = false; ranks = true; swap = false }

abbrev pub exchange : Symmetry
exchange = record { files = false; ranks = false; swap = true }

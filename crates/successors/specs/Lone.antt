-- One man and two kings, as their numbers have them. Definitions only.
use Rattle.std.specs.Prelude.{Bool, ◌&&◌, ◌||◌, ℕ, ◌/◌, ◌%◌, eqb, ltb}

-- nothing is turned or exchanged with these kings, wherever the man stands: White's in the triangle a1-d1-d4, Black's below the diagonal where White's is on it
abbrev pub settled : ℕ → ℕ → Bool
settled white black =
    ltb (white % 8) 4 && (ltb (white / 8) (white % 8) || (eqb (white / 8) (white % 8) && ltb (black / 8) (black % 8)))

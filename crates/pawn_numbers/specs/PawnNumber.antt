-- The number of a board with one pawn, and the board of a number (02, P12). Definitions only.
use Rattle.std.specs.Prelude.{◌≡◌, Bool, true, false, not, ◌&&◌, List, [], ◌∷◌, ℕ, ◌+◌, ◌-◌, ◌*◌, ◌/◌, ◌%◌, ◌<◌, T, eqb, ltb}
use Rattle.rules.specs.declared.Piece.{Piece}
use Rattle.rules.specs.Pawn.{inner}
use Rattle.rules.specs.Rules.{Board, piece_of, pieces, apart, touching}
use Rattle.rules.specs.Changed.{changed}
use Rattle.rules.specs.Changed.{keeping}

-- "no other map is allowed, and demand 2's sameness here knows only this one and P9's exchange": the board reversed left
-- to right, the colours exchanged, which "also turns the ranks round", both or neither
pub record Flip : Type 0 where
  pub files : Bool
  pub colours : Bool

abbrev pub flip : Bool → Bool → Flip
flip f x = record { files = f; colours = x }

unfoldable pub flipped : Flip → Board → Board
flipped s b = changed (keeping s.files s.colours) s.colours b

-- all four
abbrev pub flips : List Flip
flips = flip false false ∷ flip false true ∷ flip true false ∷ flip true true ∷ []

-- the lone man
abbrev pub lone : List Piece → Piece
lone [] = piece_of 0 0 0
lone (a ∷ l) = a

-- "One white pawn on ranks 2 to 7, board reversed left to right so that the pawn is on files a to d"
unfoldable pub normal_pawn : Board → Bool
normal_pawn b = eqb (lone b.men).colour 0 && ltb ((lone b.men).square % 8) 4

-- "Slot = (rank - 2) x 4 + file, a being 0"
abbrev pub slot_of : ℕ → ℕ
slot_of s = (s / 8 - 1) * 4 + s % 8

-- "Number = (side x 24 + slot) x 4,096 + white king x 64 + black king"
unfoldable pub pawn_key : Board → ℕ
pawn_key b = (b.side * 24 + slot_of (lone b.men).square) * 4096 + b.white * 64 + b.black

-- the flip that makes a board normal
abbrev pub pawn_flip : Board → Flip
pawn_flip b = flip (ltb 3 ((lone b.men).square % 8)) (eqb (lone b.men).colour 1)

-- the number of a board with one pawn: the key of the normal board of its class
unfoldable pub pawn_number : Board → ℕ
pawn_number b = pawn_key (flipped (pawn_flip b) b)

-- "196,608 bytes": how many numbers there are
abbrev pub pawn_size : ℕ
pawn_size = 196608

-- the square of a slot
abbrev pub slot_square : ℕ → ℕ
slot_square slot = (slot / 4 + 1) * 8 + slot % 4

-- the board of a number
unfoldable pub pawn_board : ℕ → Board
pawn_board n = record {
  side = n / 4096 / 24 % 2;
  white = n / 64 % 64;
  black = n % 64;
  men = piece_of 4 0 (slot_square (n / 4096 % 24)) ∷ [];
}

-- not "where men share a square or the kings touch"
unfoldable pub separated : Board → Bool
separated b = apart (pieces b) && not (touching b)

-- the number is used
unfoldable pub used_pawn : ℕ → Bool
used_pawn n = separated (pawn_board n)

-- the man is one pawn, of either side, on ranks 2 to 7, and the kings are on the board
pub record HasPawn (b : Board) : Type 0 where
  pub colour : ℕ
  pub square : ℕ
  pub men : b.men ≡ piece_of 4 colour square ∷ []
  pub white-or-black : colour < 2
  pub inner : T (inner square)
  pub side : b.side < 2
  pub white : b.white < 64
  pub black : b.black < 64

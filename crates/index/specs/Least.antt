-- The least key of a class of boards with one man or two, as code finds it: four squares in one number. Definitions
-- only.
use Rattle.std.specs.Prelude.{◌≡◌, Bool, cond, ◌&&◌, ℕ, ◌+◌, ◌*◌, ◌/◌, ◌%◌, ◌<◌, leb, ltb}
use Rattle.std.specs.Int.Bits.{bit_and, bit_xor}
use Rattle.numbering.specs.Kings.{above, on_diagonal}

-- the bits of a square that the reversals for this white king turn over: 7 for the files, 56 for the ranks
unfoldable pub flip_of : ℕ → ℕ
flip_of white = cond (ltb 3 (white % 8)) 7 0 + cond (ltb 3 (white / 8)) 56 0

-- a square with these bits turned over; what is off the board stays
unfoldable pub flipped : ℕ → ℕ → ℕ
flipped flip s = cond (ltb s 64) (bit_xor s flip) s

-- whether the kings, once reversed, have file and rank exchanged: 0 no, 1 yes, 2 where that makes the men's digits less
unfoldable pub exchange_of : ℕ → ℕ → ℕ
exchange_of white black =
    cond (above white) 1 (cond (on_diagonal white) (cond (above black) 1 (cond (on_diagonal black) 2 0)) 0)

-- the white king's square, the black king's, the first man's and the second's, as digits of base 64
unfoldable pub packed : ℕ → ℕ → ℕ → ℕ → ℕ
packed w b x y = ((w * 64 + b) * 64 + x) * 64 + y

-- the squares with the reversals for this white king; 0 for a second man who is not there
unfoldable pub turned_key : ℕ → ℕ → ℕ → ℕ → ℕ
turned_key white black first second =
    let flip = flip_of white in
    packed (bit_xor white flip) (bit_xor black flip) (bit_xor first flip) (cond (leb 64 second) 0 (bit_xor second flip))

-- a key of squares as they stand: 0 for a second man who is not there
pub record KeyFor (single : Bool) (k w b x y : ℕ) : Type 0 where
  pub white : w < 64
  pub black : b < 64
  pub first : x < 64
  pub alone : single ≡ leb 64 y
  pub key : k ≡ packed w b x (cond single 0 y)

-- file and rank exchanged in each of the squares: 1864135 keeps the files
unfoldable pub transposed_key : ℕ → ℕ
transposed_key k = bit_and (k / 8) 1864135 + bit_and k 1864135 * 8

-- like men, the lower square first
unfoldable pub rising_key : Bool → ℕ → ℕ
rising_key like k = cond (ltb (k % 64) (k / 64 % 64) && like) (k / 4096 * 4096 + (k % 64 * 64 + k / 64 % 64)) k

-- file and rank exchanged where that is less
unfoldable pub least_of : Bool → ℕ → ℕ
least_of like k = let s = rising_key like k in let t = rising_key like (transposed_key k) in cond (ltb t s) t s

-- the digits of two men
abbrev pub men_digits : Bool → ℕ → ℕ → ℕ
men_digits like x y = cond (ltb y x && like) (y * 64 + x) (x * 64 + y)

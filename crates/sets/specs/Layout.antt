-- One file for all four endings (02, P4): how a set is laid out. Definitions only.
use Rattle.std.specs.Prelude.{◌≡◌, Bool, true, false, cond, ◌&&◌, List, [], ◌∷◌, ◌++◌, ℕ, zero, suc, ◌+◌, ◌*◌, ◌/◌, ◌%◌, leb, ltb, eqb, length, get_or, drop, Err, Ok, Result}
use Rattle.endings.specs.Ending.{table_size}
use Rattle.sets.specs.declared.Choice.{Choice}

-- ---- "the choice of endings, a yes or no for each code"

unfoldable pub chosen : Choice → ℕ → Bool
chosen ch code = cond (eqb code 0) ch.queen (cond (eqb code 1) ch.rook (cond (eqb code 2) ch.bishop (cond (eqb code 3) ch.knight false)))

-- the chosen ones of `left` codes, from `code` on
unfoldable pub codes_from : Choice → ℕ → ℕ → List ℕ
codes_from ch zero code = []
codes_from ch (suc left) code = cond (chosen ch code) (code ∷ codes_from ch left (suc code)) (codes_from ch left (suc code))

unfoldable pub codes_of : Choice → List ℕ
codes_of ch = codes_from ch 4 0

-- ---- "each 4 bytes little-endian"

unfoldable pub word4 : ℕ → List ℕ
word4 x = x % 256 ∷ x / 256 % 256 ∷ x / 65536 % 256 ∷ x / 16777216 % 256 ∷ []

unfoldable pub word_at : List ℕ → ℕ → ℕ
word_at s at = get_or s at 0 + 256 * get_or s (at + 1) 0 + 65536 * get_or s (at + 2) 0 + 16777216 * get_or s (at + 3) 0

-- ---- "a count, then for each table a material code, an offset from the file's start and a length, .. then the tables without gaps in the header's order"

-- of n tables
abbrev pub header_size : ℕ → ℕ
header_size n = 4 + 12 * n

-- "With four tables the file is 236,596 bytes, with none 4"
abbrev pub set_size : ℕ → ℕ
set_size n = header_size n + table_size * n

-- the entries of the codes, the first table at the offset
unfoldable pub entries_of : List ℕ → ℕ → List ℕ
entries_of [] offset = []
entries_of (c ∷ cs) offset = word4 c ++ (word4 offset ++ (word4 table_size ++ entries_of cs (offset + table_size)))

-- the header that the rules give for the codes
unfoldable pub header_of : List ℕ → List ℕ
header_of codes = word4 (length codes) ++ entries_of codes (header_size (length codes))

-- "Codes are 0 to 3 and rise strictly", from the least on
unfoldable pub rising : ℕ → List ℕ → Bool
rising least [] = true
rising least (c ∷ cs) = leb least c && (ltb c 4 && rising (c + 1) cs)

-- A RIGHT SET with these codes, of any bytes: its header is the one that the rules give for them, and it is as long as that says.
pub record RightSet (s codes : List ℕ) : Type 0 where
  pub rises : rising 0 codes ≡ true
  pub header : s ≡ header_of codes ++ drop (header_size (length codes)) s
  pub long : length s ≡ set_size (length codes)

-- where the rules put a code's table, the first code's at the offset; 15 where it is not there
unfoldable pub place_of : List ℕ → ℕ → ℕ → Result ℕ ℕ
place_of [] offset code = Err 15
place_of (c ∷ cs) offset code = cond (eqb c code) (Ok offset) (place_of cs (offset + table_size) code)

-- The boards of an ending and their numbering: which numbers are legal, and how a board is read. Definitions only.
use Rattle.std.specs.Prelude.{◌≡◌, Bool, cond, not, ◌&&◌, ◌⊎◌, List, [], ◌∷◌, ℕ, T, get_or}
use Rattle.table_theory.specs.Tables.{Numbering}
use Rattle.rules.specs.Rules.{Board, piece_of, empty, legal}
use Rattle.rules.specs.Chess.{chess}
use Rattle.position.specs.Keyed.{board_of}
use Rattle.numbering.specs.Number.{number_of}
use Rattle.index.specs.Answers.{position_at, unused}

-- one man of this kind and colour besides the kings
abbrev pub LoneOf : ℕ → ℕ → Board → Type 0
LoneOf kind colour b = (s : ℕ) × (b.men ≡ piece_of kind colour s ∷ [])

-- of either side
abbrev pub Lone : ℕ → Board → Type 0
Lone kind b = (colour : ℕ) × LoneOf kind colour b

-- "An ending is the positions with one material code" (01, "Games"): the legal boards with one man of this kind, White's or Black's (02, P9), and the
-- bare kings that his capture leaves
pub record Ending (kind : ℕ) (b : Board) : Type 0 where
  pub legality : T (legal b)
  pub men : (b.men ≡ []) ⊎ Lone kind b

-- "A table has 59,136 bytes, one a number"
abbrev pub table_size : ℕ
table_size = 59136

-- the board at a number
unfoldable pub lone_board_at : ℕ → ℕ → Board
lone_board_at kind n = board_of (position_at kind n)

-- the number is used and its position legal: its byte is not 0
unfoldable pub legal_number : ℕ → ℕ → Bool
legal_number kind n = not (unused (position_at kind n)) && legal (lone_board_at kind n)

-- The byte of a board: the one at its number; "Bare kings are a draw and are not looked up".
unfoldable pub byte_of : List ℕ → Board → ℕ
byte_of t b = cond (empty b.men) 1 (get_or t (number_of b) 0)

-- the ending's boards, numbered; bare kings have no number and count as drawn
unfoldable pub ending : ℕ → Numbering chess
ending kind = record {
  size = table_size;
  inside = λ b. not (empty b.men);
  number = number_of;
  at = lone_board_at kind;
  live = legal_number kind;
  outer = λ b. 1;
}

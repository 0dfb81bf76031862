-- What the library leaves in lent bytes, and the word of a move list and of a line (include/sledgewren.h); the word of every other answer is that of
-- crate words. Definitions only.
use Rattle.std.specs.Prelude.{◌≡◌, cond, ℕ, ◌+◌, ◌-◌, ◌*◌, ◌^◌, eqb, length, replicate}
use mathlib.Core.List.{List, ◌++◌, flat_map}
use Rattle.rules.specs.declared.Move.{Move}
use Rattle.position.specs.declared.Position.{Position}
use Rattle.move_list.specs.Answers.{moves_of, count_answer}
use Rattle.slips.specs.Slip.{padded}
use Rattle.adjudication.specs.Reply.{LineOutcome, reply_of}
pub use Rattle.move_bytes.specs.MoveBytes.{move_bytes, list_size}
pub use Rattle.words.specs.Words.{number_word, placed_word, count_word, filled_word, checked_word, marked_word}

-- ---- the move list, over a lent list of bytes

-- the moves; the places after them hold 0
unfoldable pub list_bytes : List Move → List ℕ
list_bytes ms = flat_map move_bytes ms ++ replicate (list_size - 4 * length ms) 0

pub record Listing : Type 0 where
  pub word : ℕ
  pub bytes : List ℕ

-- what is promised of the answer r and of the bytes that it leaves
pub record WroteList (o : Listing) (r : ℕ) (out : List ℕ) : Type 0 where
  pub word : r ≡ o.word
  pub bytes : out ≡ o.bytes

-- with any other length nothing is written
unfoldable pub listing_of : Position → List ℕ → Listing
listing_of p bytes =
    cond (eqb (length bytes) list_size)
    (record { word = count_word (count_answer p); bytes = list_bytes (moves_of p) })
    (record { word = 255; bytes = bytes })

-- ---- one line of the desk, over a lent table and a lent slip

pub record Desk : Type 0 where
  pub word : ℕ
  pub table : List ℕ
  pub slip : List ℕ

-- what is promised of the answer r and of the table and the slip that it leaves
pub record WroteSlip (o : Desk) (r : ℕ) (t s : List ℕ) : Type 0 where
  pub word : r ≡ o.word
  pub table : t ≡ o.table
  pub slip : s ≡ o.slip

-- bits 0-7 length of the slip, 8-15 the man held afterwards
unfoldable pub replied : LineOutcome → Desk
replied o = record { word = length o.slip + o.held * 2 ^ 8; table = o.table; slip = (padded o.slip).bytes }

-- with a slip of any other length nothing is written
unfoldable pub line_answer : List ℕ → ℕ → List ℕ → List ℕ → Desk
line_answer line held table slip = cond (eqb (length slip) 16) (replied (reply_of line held table)) (record { word = 65535; table = table; slip = slip })

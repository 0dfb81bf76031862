-- One file for all four endings (02, P4): what its reader and its writer answer. Definitions only.
use Rattle.std.specs.Prelude.{Bool, true, false, cond, not, ◌&&◌, ◌||◌, List, [], ◌∷◌, ◌++◌, ℕ, zero, suc, ◌+◌, leb, ltb, eqb, length, take, drop, Err, Ok, Result, None, Option, Some}
use Rattle.finite.specs.Mapped.{map_from}
use Rattle.finite.specs.Pieces.{over}
use Rattle.endings.specs.Ending.{table_size}
use Rattle.endings.specs.Answers.{Fill, fill_of}
use Rattle.sets.specs.declared.Choice.{Choice}
use Rattle.sets.specs.Layout.{codes_of, word_at, header_size, set_size, header_of}

-- ---- "Refusal 14: a file under 4 bytes, a header other than these rules give for its count and codes, or a file shorter or longer than it says"

-- an entry with a code from `least` to 3, the offset, and a table's length
unfoldable pub right_entry : List ℕ → ℕ → ℕ → ℕ → Bool
right_entry s at least offset = leb least (word_at s at) && (ltb (word_at s at) 4 && (eqb (word_at s (at + 4)) offset && eqb (word_at s (at + 8)) table_size))

-- so many entries from a place on, their codes rising strictly and their tables without gaps from the offset on
unfoldable pub right_entries : ℕ → List ℕ → ℕ → ℕ → ℕ → Bool
right_entries zero s at least offset = true
right_entries (suc left) s at least offset = right_entry s at least offset && right_entries left s (at + 12) (word_at s at + 1) (offset + table_size)

unfoldable pub right_set : List ℕ → Bool
right_set s = leb 4 (length s) && (eqb (length s) (set_size (word_at s 0)) && right_entries (word_at s 0) s 4 0 (header_size (word_at s 0)))

-- ---- "Refusal 15: the ending is not in the set; asking for a code above 3 is 1"

-- where the code's table starts, by so many entries from a place on, the first one's table at the offset
unfoldable pub find_entry : ℕ → List ℕ → ℕ → ℕ → ℕ → Result ℕ ℕ
find_entry zero s at offset code = Err 15
find_entry (suc left) s at offset code = cond (eqb (word_at s at) code) (Ok offset) (find_entry left s (at + 12) (offset + table_size) code)

-- the lowest refusal counts
unfoldable pub find_of : List ℕ → ℕ → Result ℕ ℕ
find_of s code =
    cond (ltb 3 code) (Err 1)
    (cond (not (right_set s)) (Err 14)
    (find_entry (word_at s 0) s 4 (header_size (word_at s 0)) code))

-- "The reader hands back the very part of the set that holds the ending"
abbrev pub table_at : List ℕ → Result ℕ ℕ → List ℕ
table_at s (Ok at) = take table_size (drop at s)
table_at s (Err r) = []

unfoldable pub part_of : List ℕ → ℕ → List ℕ
part_of s code = table_at s (find_of s code)

-- ---- "Each table is filled in its own part of the lent set, and the other parts stay as they are"

abbrev pub is_refusal : Result (Option ℕ) ℕ → Bool
is_refusal (Ok (Some n)) = false
is_refusal (Ok None) = false
is_refusal (Err r) = true

-- one ending's table filled at its place, "on refusal 10 it is all zero"
unfoldable pub filled_at : ℕ → ℕ → List ℕ → Fill
filled_at code at s =
    let f = fill_of code (take table_size (drop at s)) in
    record {
      answer = f.answer;
      bytes = cond (is_refusal f.answer) (map_from (λ n b. 0) 0 s) (over s at f.bytes);
    }

abbrev pub filled_where : ℕ → List ℕ → Result ℕ ℕ → Fill
filled_where code s (Ok at) = filled_at code at s
filled_where code s (Err r) = record { answer = Err r; bytes = s }

-- one ending's table filled where it is found
unfoldable pub fill_in_of : ℕ → List ℕ → Fill
fill_in_of code s = filled_where code s (find_of s code)

-- ---- "The writer gives 14 exactly when it is not as long as the choice of endings needs, and writes nothing; on refusal 10 it is all zero"

-- the tables that filling leaves in the bytes after the header
unfoldable pub tables_of : List ℕ → List ℕ → List ℕ
tables_of [] s = []
tables_of (c ∷ cs) s = (fill_of c (take table_size s)).bytes ++ tables_of cs (drop table_size s)

-- filling refuses one of them
unfoldable pub refused_one : List ℕ → List ℕ → Bool
refused_one [] s = false
refused_one (c ∷ cs) s = is_refusal (fill_of c (take table_size s)).answer || refused_one cs (drop table_size s)

pub record SetWritten : Type 0 where
  pub answer : Result (Unit {0}) ℕ
  pub bytes : List ℕ

unfoldable pub write_of : Choice → List ℕ → SetWritten
write_of ch s =
    let codes = codes_of ch in
    let rest = drop (header_size (length codes)) s in
    cond (not (eqb (length s) (set_size (length codes)))) (record { answer = Err 14; bytes = s })
    (cond (refused_one codes rest) (record { answer = Err 10; bytes = map_from (λ n b. 0) 0 s })
    (record { answer = Ok tt; bytes = header_of codes ++ tables_of codes rest }))

-- its header alone
unfoldable pub start_of : Choice → List ℕ → SetWritten
start_of ch s =
    let codes = codes_of ch in
    cond (not (eqb (length s) (set_size (length codes)))) (record { answer = Err 14; bytes = s })
    (record { answer = Ok tt; bytes = over s 0 (header_of codes) })

-- ---- the endings filled one after the other, up to a refusal

abbrev pub said_of : Result (Option ℕ) ℕ → Result (Unit {0}) ℕ
said_of (Ok (Some n)) = Ok tt
said_of (Ok None) = Ok tt
said_of (Err r) = Err r

unfoldable pub fill_each : List ℕ → List ℕ → SetWritten
fill_each [] s = record { answer = Ok tt; bytes = s }
fill_each (c ∷ cs) s =
    let f = fill_in_of c s in
    cond (is_refusal f.answer) (record { answer = said_of f.answer; bytes = f.bytes }) (fill_each cs f.bytes)

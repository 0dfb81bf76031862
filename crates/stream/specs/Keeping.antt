-- What the code keeps, and what a byte, a line's end, a part and the end of the input do to it, whatever state it is in. Definitions only.
use Rattle.std.specs.Prelude.{◌≡◌, cond, ℕ, ◌+◌, ◌*◌, ◌≤◌, eqb, ltb, length, set, take, replicate}
use mathlib.Core.List.{List, [], ◌∷◌, ◌++◌, foldl}
use Prim.Native.Char.{code}
use Rattle.adjudication.specs.Reply.{LineOutcome, reply_of}
use Rattle.stream.specs.declared.State.{State}
use Rattle.stream.specs.Stream.{Run}

-- ---- the output

-- lent bytes of which the first `used` are written
pub record Sheet : Type 0 where
  pub bytes : List ℕ
  pub used : ℕ

abbrev pub sheet : List ℕ → ℕ → Sheet
sheet o n = record { bytes = o; used = n }

-- bytes written one after the other; those that find no room are dropped
unfoldable pub put : Sheet → ℕ → Sheet
put s b = cond (ltb s.used (length s.bytes)) (sheet (set s.bytes s.used b) (s.used + 1)) s

abbrev pub put_all : Sheet → List ℕ → Sheet
put_all = foldl put

-- ---- the state

-- no line begun, no man's table held, and nothing to write
abbrev pub started : State
started = record { line = replicate 13 0; len = 0; held = 4; waiting = 0 }

-- the same state once what waited is handed out
abbrev pub emptied : State → State
emptied s = record { line = s.line; len = s.len; held = s.held; waiting = 0 }

-- one byte more of the line, where fewer than 13 are counted
unfoldable pub with_byte : State → ℕ → State
with_byte s b = cond (ltb s.len 13) (record { line = set s.line s.len b; len = s.len + 1; held = s.held; waiting = s.waiting }) s

-- ---- the state, the table and the output

pub record Kept : Type 0 where
  pub state : State
  pub table : List ℕ
  pub output : List ℕ

abbrev pub kept : State → List ℕ → List ℕ → Kept
kept s t o = record { state = s; table = t; output = o }

-- The line that ends here is answered: its slip is written after what waits, and the next line begins. A count above 13 counts all the places.
unfoldable pub line_answered : Kept → Kept
line_answered k =
    let o : LineOutcome = reply_of (take k.state.len k.state.line) k.state.held k.table in
    let s : Sheet = put_all (sheet k.output k.state.waiting) o.slip in
    kept (record { line = k.state.line; len = 0; held = o.held; waiting = s.used }) o.table s.bytes

-- "a newline ends the line"
unfoldable pub byte_taken : Kept → ℕ → Kept
byte_taken k b = cond (eqb b (code "\n")) (line_answered k) (kept (with_byte k.state b) k.table k.output)

abbrev pub all_taken : Kept → List ℕ → Kept
all_taken = foldl byte_taken

-- "(the last may lack it)"
unfoldable pub last_answered : Kept → Kept
last_answered k = cond (eqb k.state.len 0) k (line_answered k)

-- ---- part by part

abbrev pub waits : Kept → List ℕ
waits k = take k.state.waiting k.output

-- what is handed out in all: what waits after each part, whereupon the output begins anew, and what waits at the end
unfoldable pub served : Kept → List (List ℕ) → List ℕ
served k [] = waits (last_answered k)
served k (part ∷ parts) = let n : Kept = all_taken k part in waits n ++ served (kept (emptied n.state) n.table n.output) parts

-- an output of n bytes has room for the slips of each part, and of the last line
abbrev pub Fit : List (List ℕ) → ℕ → Type 0
Fit [] n = 16 ≤ n
Fit (part ∷ parts) n = (16 * length part ≤ n) × Fit parts n

-- ---- what is kept of a run

-- 13 places, of which the first `len` are the line, or its first 13 bytes
pub record Keeps (places : List ℕ) (len : ℕ) (line : List ℕ) : Type 0 where
  pub long : length places ≡ 13
  pub bytes : take len places ≡ take 13 line

-- What is kept holds a run, whose slips are written after what stood on a sheet.
pub record Holds (base : Sheet) (k : Kept) (run : Run) : Type 0 where
  pub keeps : Keeps k.state.line k.state.len run.line
  pub held : k.state.held ≡ run.held
  pub table : k.table ≡ run.table
  pub out : sheet k.output k.state.waiting ≡ put_all base run.out

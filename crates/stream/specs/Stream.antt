-- The desk's input as bytes that come one after the other, and as the lines of a whole text (01, "The desk program"): what is answered in all.
-- Definitions only.
use Rattle.std.specs.Prelude.{cond, ℕ, eqb}
use mathlib.Core.List.{List, [], ◌∷◌, ◌++◌, foldl}
use Prim.Native.Char.{code}
use Rattle.adjudication.specs.Reply.{LineOutcome, reply_of}
use Rattle.adjudication.specs.TrueSlip.{TrueSlip}

-- ---- byte by byte

-- the unfinished line, the man whose table is held, the table, and the slips so far
pub record Run : Type 0 where
  pub line : List ℕ
  pub held : ℕ
  pub table : List ℕ
  pub out : List ℕ

-- no line begun and nothing answered
abbrev pub fresh : ℕ → List ℕ → Run
fresh held t = record { line = []; held = held; table = t; out = [] }

-- the same run once its slips are handed out
abbrev pub quiet : Run → Run
quiet s = record { line = s.line; held = s.held; table = s.table; out = [] }

-- the line that ends here is answered by its slip
unfoldable pub line_over : Run → Run
line_over s =
    let o : LineOutcome = reply_of s.line s.held s.table in
    record { line = []; held = o.held; table = o.table; out = s.out ++ o.slip }

-- "a newline ends the line": any other byte belongs to it, CR and NUL too
unfoldable pub longer : Run → ℕ → Run
longer s b = record { line = s.line ++ b ∷ []; held = s.held; table = s.table; out = s.out }

unfoldable pub took : Run → ℕ → Run
took s b = cond (eqb b (code "\n")) (line_over s) (longer s b)

abbrev pub took_all : Run → List ℕ → Run
took_all = foldl took

-- "(the last may lack it)": at the end an unfinished line is answered, and an empty one is none; "Empty input writes nothing"
abbrev pub closed_by : List ℕ → Run → Run
closed_by [] s = s
closed_by (b ∷ bs) s = line_over s

unfoldable pub closed : Run → Run
closed s = closed_by s.line s

-- ---- part by part

-- the parts of the input as one text
abbrev pub whole_of : List (List ℕ) → List ℕ
whole_of [] = []
whole_of (part ∷ parts) = part ++ whole_of parts

-- what the desk hands out: after each part its slips, and at the end that of the last line where it lacks its newline
unfoldable pub handed_out : Run → List (List ℕ) → List ℕ
handed_out s [] = (closed s).out
handed_out s (part ∷ parts) = (took_all s part).out ++ handed_out (quiet (took_all s part)) parts

-- ---- line by line

-- a byte at the beginning of the first line
abbrev pub begun : ℕ → List (List ℕ) → List (List ℕ)
begun b [] = (b ∷ []) ∷ []
begun b (l ∷ ls) = (b ∷ l) ∷ ls

-- the lines of a text without their newlines: the empty text has none, and a final newline opens no further line
unfoldable pub lines_of : List ℕ → List (List ℕ)
lines_of [] = []
lines_of (b ∷ bs) = cond (eqb b (code "\n")) ([] ∷ lines_of bs) (begun b (lines_of bs))

-- the lines answered one after the other: their slips, and what is held afterwards
unfoldable pub answered_all : ℕ → List ℕ → List (List ℕ) → LineOutcome
answered_all held t [] = record { slip = []; held = held; table = t }
answered_all held t (l ∷ ls) =
    let o : LineOutcome = reply_of l held t in
    let rest : LineOutcome = answered_all o.held o.table ls in
    record { slip = o.slip ++ rest.slip; held = rest.held; table = rest.table }

-- the output is the true slips of the lines, in their order, and nothing else
pub data AllTrue : List (List ℕ) → List ℕ → Type 0 where
  none : AllTrue [] []
  more : (line slip : List ℕ) (lines : List (List ℕ)) (out : List ℕ) → TrueSlip line slip → AllTrue lines out → AllTrue (line ∷ lines) (slip ++ out)

-- a run's outcome
abbrev pub told : Run → LineOutcome
told s = record { slip = s.out; held = s.held; table = s.table }

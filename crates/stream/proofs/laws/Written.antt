-- What waits in the output is the slips: 16 bytes for each byte taken are room enough, and slips handed out part by part are those of the whole.
use Rattle.std.specs.Prelude.{◌≡◌, refl, Bool, true, false, cond, List, [], ◌∷◌, ◌++◌, ℕ, ◌+◌, ◌*◌, ◌≤◌, eqb, length, set, take}
use Rattle.std.proofs.Common.{sym, ap, subst, ◌∙◌, append_assoc, append-nil, add-one, arith, length-append, length-set, take-suc-set}
use Prim.Native.Char.{code}
use Rattle.endings.specs.Ending.{table_size}
use Rattle.adjudication.specs.Reply.{LineOutcome, reply_of}
use Rattle.adjudication.specs.TrueSlip.{Held}
use Rattle.adjudication.proofs.laws.Short.{reply-short}
use Rattle.stream.specs.Stream.{Run, fresh, quiet, line_over, longer, took, took_all, closed_by, closed, whole_of, handed_out, lines_of, answered_all, AllTrue}
use Rattle.stream.proofs.laws.Streamed.{parts_same, stream-lines, stream-true}
use Rattle.stream.specs.Keeping.{Sheet, sheet, put_all, Kept, waits, Holds}
use Rattle.stream.proofs.laws.Laws.{put-room}

-- ---- room

ended-room : (s : Run) → length (line_over s).out ≤ length s.out + 16
unfolding line_over
ended-room s = let h = reply-short s.line s.held s.table in let e =
    length-append s.out (reply_of s.line s.held s.table).slip in omega (arith, h, e)

took-room : (s : Run) (b : ℕ) → length (took s b).out ≤ length s.out + 16
unfolding took longer
took-room s b = go (eqb b (code "\n"))
  where
    go : (q : Bool) → length (cond q (line_over s) (longer s b)).out ≤ length s.out + 16
    go true = ended-room s
    go false = omega arith

-- A part of n bytes is answered by at most 16 n bytes, and the last line by 16.
pub part_room : (s : Run) (input : List ℕ) → length (took_all s input).out ≤ length s.out + 16 * length input
part_room s [] = omega arith
part_room s (b ∷ bs) = let h = took-room s b in let k = part_room (took s b) bs in omega (arith, h, k)

pub close-room : (s : Run) → length (closed s).out ≤ length s.out + 16
unfolding closed
close-room s = go s.line
  where
    go : (l : List ℕ) → length (closed_by l s).out ≤ length s.out + 16
    go [] = omega arith
    go (b ∷ bs) = ended-room s

-- ---- what waits

-- the bytes of a sheet that are written
abbrev written : Sheet → List ℕ
written s = take s.used s.bytes

all-written : (s : Sheet) (bs : List ℕ) → s.used + length bs ≤ length s.bytes
    → written (put_all s bs) ≡ written s ++ bs
all-written s [] h = sym (append-nil (written s))
all-written s (b ∷ bs) h =
    let q : Sheet = sheet (set s.bytes s.used b) (s.used + 1) in
    let n : length q.bytes ≡ length s.bytes = length-set s.bytes s.used b in
    ap (λ (x : Sheet). written (put_all x bs)) (sym (put-room s.bytes s.used b (omega (arith, h))))
    ∙ all-written q bs (omega (arith, h, n))
    ∙ ap (λ (x : List ℕ). x ++ bs)
    (ap (λ (k : ℕ). take k q.bytes) (add-one s.used) ∙ take-suc-set s.bytes s.used b (omega (arith, h)))
    ∙ append_assoc (written s) (b ∷ []) bs

-- Where an output begun anew has room for the slips, what waits in it is the slips.
pub slips-wait : (o : List ℕ) (k : Kept) (s : Run) → Holds (sheet o 0) k s → length s.out ≤ length o
    → waits k ≡ s.out
slips-wait o k s w h = ap written w.out ∙ all-written (sheet o 0) s.out (omega (arith, h))

-- A part's slips where the output has 16 bytes for each byte of the part, and the last line's where it has 16.
pub part-waits : (o : List ℕ) (k : Kept) (s : Run) (part : List ℕ) → Holds (sheet o 0) k (took_all (quiet s) part)
    → 16 * length part ≤ length o → waits k ≡ (took_all (quiet s) part).out
part-waits o k s part w h =
    let n = part_room (quiet s) part in slips-wait o k (took_all (quiet s) part) w (omega (arith, h, n))

pub close-waits : (o : List ℕ) (k : Kept) (s : Run) → Holds (sheet o 0) k (closed (quiet s)) → 16 ≤ length o
    → waits k ≡ (closed (quiet s)).out
close-waits o k s w h = let n = close-room (quiet s) in slips-wait o k (closed (quiet s)) w (omega (arith, h, n))

-- ---- part by part

-- a run with slips put out before
abbrev pub after : List ℕ → Run → Run
after out s = record { line = s.line; held = s.held; table = s.table; out = out ++ s.out }

ended-after : (out : List ℕ) (s : Run) → line_over (after out s) ≡ after out (line_over s)
unfolding line_over
ended-after out s =
    ap (λ (x : List ℕ). record {
      line = [];
      held = (reply_of s.line s.held s.table).held;
      table = (reply_of s.line s.held s.table).table;
      out = x;
    })
    (append_assoc out s.out (reply_of s.line s.held s.table).slip)

took-after : (out : List ℕ) (s : Run) (b : ℕ) → took (after out s) b ≡ after out (took s b)
unfolding took longer
took-after out s b = go (eqb b (code "\n"))
  where
    go : (q : Bool)
        → cond q (line_over (after out s)) (longer (after out s) b) ≡ after out (cond q (line_over s) (longer s b))
    go true = ended-after out s
    go false = refl

took-all-after : (out : List ℕ) (s : Run) (input : List ℕ) → took_all (after out s) input ≡ after out (took_all s input)
took-all-after out s [] = refl
took-all-after out s (b ∷ bs) = ap (λ (x : Run). took_all x bs) (took-after out s b) ∙ took-all-after out (took s b) bs

after-quiet : (s : Run) → after s.out (quiet s) ≡ s
after-quiet s =
    ap (λ (x : List ℕ). record { line = s.line; held = s.held; table = s.table; out = x }) (append-nil s.out)

-- What comes after slips were handed out is what would have come after them.
pub part-after : (s : Run) (input : List ℕ) → took_all s input ≡ after s.out (took_all (quiet s) input)
part-after s input = ap (λ (x : Run). took_all x input) (sym (after-quiet s)) ∙ took-all-after s.out (quiet s) input

pub close-after : (s : Run) → closed s ≡ after s.out (closed (quiet s))
unfolding closed
close-after s = go s.line
  where
    go : (l : List ℕ) → closed_by l s ≡ after s.out (closed_by l (quiet s))
    go [] = sym (after-quiet s)
    go (b ∷ bs) = ap line_over (sym (after-quiet s)) ∙ ended-after s.out (quiet s)

-- ---- the desk's run

handed-after : (s : Run) (parts : List (List ℕ))
    → s.out ++ handed_out (quiet s) parts ≡ (closed (took_all s (whole_of parts))).out
unfolding handed_out
handed-after s [] = ap (λ (x : Run). x.out) (sym (close-after s))
handed-after s (part ∷ parts) =
    let e : took_all s part ≡ after s.out (took_all (quiet s) part) = part-after s part in
    sym (append_assoc s.out (took_all (quiet s) part).out (handed_out (quiet (took_all (quiet s) part)) parts))
    ∙ ap (λ (x : Run). x.out ++ handed_out (quiet x) parts) (sym e)
    ∙ handed-after (took_all s part) parts
    ∙ ap (λ (x : Run). (closed x).out) (sym (parts_same s part (whole_of parts)))

-- In whatever parts the input comes, the desk hands out the slips of the whole text's lines.
pub run-lines : (held : ℕ) (t : List ℕ) (parts : List (List ℕ))
    → handed_out (fresh held t) parts ≡ (answered_all held t (lines_of (whole_of parts))).slip
run-lines held t parts =
    handed-after (fresh held t) parts ∙ ap (λ (o : LineOutcome). o.slip) (stream-lines held t (whole_of parts))

-- They are the true ones where the held table is right, as it is where no man is held.
pub run-true : (held : ℕ) (t : List ℕ) (parts : List (List ℕ)) → Held held t
    → AllTrue (lines_of (whole_of parts)) (handed_out (fresh held t) parts)
run-true held t parts w =
    subst (λ (x : List ℕ). AllTrue (lines_of (whole_of parts)) x) (sym (handed-after (fresh held t) parts))
    (stream-true held t (whole_of parts) w).0

-- The desk begins with no man held: all that its table must be is as long as a table.
pub none-held : (t : List ℕ) → length t ≡ table_size → Held 4 t
none-held t e = record { long = e; right = λ h. absurd (omega (arith, h)); small = λ h. absurd (omega (arith, h)) }

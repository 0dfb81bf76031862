-- Cutting and answering byte by byte, in parts of any size, gives the true slips of the text's lines; and 13 bytes of a line are enough.
use Rattle.std.specs.Prelude.{◌≡◌, refl, Bool, true, false, cond, ℕ, ◌<◌, eqb, ltb, length, take, Err, Result}
use Rattle.std.proofs.Common.{sym, ap, subst, ◌∙◌, arith, ltb-true, ltb-false, take_all, length-take-le}
use mathlib.Core.List.{List, [], ◌∷◌, ◌++◌, append_assoc, append-nil, foldl-append}
use Prim.Native.Char.{code}
use Rattle.lines.specs.Grammar.{position_shape, number_shape, request_of}
use Rattle.lines.proofs.laws.Shapes.{shape-longer}
use Rattle.lines.specs.declared.Request.{Request}
use Rattle.adjudication.specs.Reply.{LineOutcome, request_reply, reply_of}
use Rattle.adjudication.specs.TrueSlip.{Held}
use Rattle.adjudication.proofs.laws.Laws.{reply-right}
use Rattle.stream.specs.Stream.{Run, fresh, line_over, longer, took, took_all, closed_by, closed, begun, lines_of, answered_all, AllTrue, told}

-- ---- parts of any size

pub parts_same : (s : Run) (xs ys : List ℕ) → took_all s (xs ++ ys) ≡ took_all (took_all s xs) ys
parts_same = foldl-append took

-- ---- lines

-- an outcome after what was put out before
abbrev after : List ℕ → LineOutcome → LineOutcome
after out o = record { slip = out ++ o.slip; held = o.held; table = o.table }

-- the lines of a text that goes on from an unfinished line
abbrev alone : List ℕ → List (List ℕ)
alone [] = []
alone (b ∷ bs) = (b ∷ bs) ∷ []

abbrev joined : List ℕ → List (List ℕ) → List (List ℕ)
joined line [] = alone line
joined line (l ∷ ls) = (line ++ l) ∷ ls

joined-none : (ls : List (List ℕ)) → joined [] ls ≡ ls
joined-none [] = refl
joined-none (l ∷ ls) = refl

joined-more : (line : List ℕ) (b : ℕ) (ls : List (List ℕ)) → joined (line ++ b ∷ []) ls ≡ joined line (begun b ls)
joined-more line b [] = snoc line
  where
    snoc : (xs : List ℕ) → alone (xs ++ b ∷ []) ≡ (xs ++ b ∷ []) ∷ []
    snoc [] = refl
    snoc (x ∷ xs) = refl
joined-more line b (l ∷ ls) = ap (λ (x : List ℕ). x ∷ ls) (append_assoc line (b ∷ []) l)

after_both : (xs ys : List ℕ) (o : LineOutcome) → after (xs ++ ys) o ≡ after xs (after ys o)
after_both xs ys o =
    ap (λ (x : List ℕ). record { slip = x; held = o.held; table = o.table }) (append_assoc xs ys o.slip)

-- a line answered before the others
answered-first : (s : Run) (ls : List (List ℕ))
    → after (line_over s).out (answered_all (line_over s).held (line_over s).table ls)
    ≡ after s.out (answered_all s.held s.table (s.line ∷ ls))
unfolding line_over answered_all
answered-first s ls =
    after_both s.out (reply_of s.line s.held s.table).slip
    (answered_all (line_over s).held (line_over s).table ls)

-- at the end of the text
ends : (s : Run) → told (closed s) ≡ after s.out (answered_all s.held s.table (alone s.line))
unfolding closed answered_all line_over
ends s = go s.line refl
  where
    go : (l : List ℕ) → s.line ≡ l → told (closed_by l s) ≡ after s.out (answered_all s.held s.table (alone l))
    go [] e = ap (λ (x : List ℕ). record { slip = x; held = s.held; table = s.table }) (sym (append-nil s.out))
    go (b ∷ bs) e =
        ap (λ (x : List ℕ). record {
          slip = s.out ++ (reply_of x s.held s.table).slip;
          held = (reply_of x s.held s.table).held;
          table = (reply_of x s.held s.table).table;
        }) e
        ∙ ap (λ (x : List ℕ). record {
          slip = s.out ++ x;
          held = (reply_of (b ∷ bs) s.held s.table).held;
          table = (reply_of (b ∷ bs) s.held s.table).table;
        })
        (sym (append-nil (reply_of (b ∷ bs) s.held s.table).slip))

-- what is told of a run that takes these bytes: it answers the lines that its unfinished line and they make
abbrev GoesOn : Run → List ℕ → Type 0
GoesOn s bs =
    told (closed (took_all s bs)) ≡ after s.out (answered_all s.held s.table (joined s.line (lines_of bs)))

-- one byte more, by whether it ends the line
one_more : (s : Run) (b : ℕ) (bs : List ℕ) → GoesOn (line_over s) bs → GoesOn (longer s b) bs → GoesOn s (b ∷ bs)
unfolding lines_of took longer line_over
one_more s b bs h k = go (eqb b (code "\n"))
  where
    line-ends : told (closed (took_all (line_over s) bs)) ≡ after s.out (answered_all s.held s.table
        (joined s.line ([] ∷ lines_of bs)))
    line-ends =
        h
        ∙ ap (λ (ls : List (List ℕ)). after (line_over s).out (answered_all (line_over s).held (line_over s).table ls))
        (joined-none (lines_of bs))
        ∙ answered-first s (lines_of bs)
        ∙ ap (λ (l : List ℕ). after s.out (answered_all s.held s.table (l ∷ lines_of bs)))
        (sym (append-nil s.line))

    go : (q : Bool)
        → told (closed (took_all (cond q (line_over s) (longer s b)) bs))
        ≡ after s.out
        (answered_all s.held s.table (joined s.line (cond q ([] ∷ lines_of bs) (begun b (lines_of bs)))))
    go true = line-ends
    go false = k
        ∙ ap (λ (ls : List (List ℕ)). after s.out (answered_all s.held s.table ls))
        (joined-more s.line b (lines_of bs))

goes_on : (s : Run) (bs : List ℕ) → GoesOn s bs
unfolding lines_of
goes_on s [] = ends s
goes_on s (b ∷ bs) = one_more s b bs (goes_on (line_over s) bs) (goes_on (longer s b) bs)

-- Taking a text byte by byte and then closing is answering its lines one after the other.
pub stream-lines : (held : ℕ) (t bytes : List ℕ)
    → told (closed (took_all (fresh held t) bytes)) ≡ answered_all held t (lines_of bytes)
stream-lines held t bytes =
    goes_on (fresh held t) bytes ∙ ap (λ (ls : List (List ℕ)). answered_all held t ls) (joined-none (lines_of bytes))

-- ---- truth

all_right : (held : ℕ) (t : List ℕ) (ls : List (List ℕ)) → Held held t
    → AllTrue ls (answered_all held t ls).slip × Held (answered_all held t ls).held (answered_all held t ls).table
unfolding answered_all
all_right held t [] w = (AllTrue.none, w)
all_right held t (l ∷ ls) w =
    let r = reply-right l held t w in
    let rest = all_right (reply_of l held t).held (reply_of l held t).table ls r.1 in
    (AllTrue.more l _ ls _ r.0 rest.0, rest.1)

-- Where the held table is right at the start, the output is the true slips of the text's lines in order, and the table is right at the end.
pub stream-true : (held : ℕ) (t bytes : List ℕ) → Held held t
    → AllTrue (lines_of bytes) (closed (took_all (fresh held t) bytes)).out
    × Held (closed (took_all (fresh held t) bytes)).held (closed (took_all (fresh held t) bytes)).table
stream-true held t bytes w =
    subst (λ (o : LineOutcome). AllTrue (lines_of bytes) o.slip × Held o.held o.table)
    (sym (stream-lines held t bytes)) (all_right held t (lines_of bytes) w)

-- ---- what is kept of a line

-- a line longer than 13 bytes has the wrong shape, whatever its bytes are
too_long : (l : List ℕ) → 12 < length l → request_of l ≡ Err 12
unfolding request_of
too_long l h =
    rw (shape-longer position_shape l (λ e. omega (arith, e, h)), shape-longer number_shape l (λ e. omega (arith, e, h)))

-- The first 13 bytes of a line ask what the line asks, and are answered as it is.
pub kept-enough : (l : List ℕ) → request_of (take 13 l) ≡ request_of l
kept-enough l = go (ltb 13 (length l)) refl
  where
    go : (q : Bool) → ltb 13 (length l) ≡ q → request_of (take 13 l) ≡ request_of l
    go true e = let n : length (take 13 l) ≡ 13 = length-take-le 13 l (omega (arith, ltb-true, e)) in
        too_long (take 13 l) (omega (arith, n)) ∙ sym (too_long l (omega (arith, ltb-true, e)))
    go false e = ap request_of (take_all 13 l (omega (arith, ltb-false, e)))

pub kept-reply : (l : List ℕ) (held : ℕ) (t : List ℕ) → reply_of (take 13 l) held t ≡ reply_of l held t
unfolding reply_of
kept-reply l held t = ap (λ (r : Result Request ℕ). request_reply r held t) (kept-enough l)

-- What holds a run goes on to hold what the run becomes: with each byte, each part, at the end, and once what waited is handed out.
use Rattle.std.specs.Prelude.{◌≡◌, Bool, cond, ℕ, ◌+◌, ◌≤◌, ◌<◌, take, replicate}
use Rattle.std.proofs.Math.Path.{refl, ap}
use Rattle.std.proofs.Common.{sym, ◌∙◌, add-one, arith, length-append, length-set, take-suc-set, take_all, length-take-le}
use Rattle.std.proofs.Math.Bool.{true, false}
use mathlib.Core.List.{List, [], ◌∷◌, ◌++◌, foldl-append}
use Prim.Native.Char.{code}
use Rattle.std.proofs.Math.Dec.{eqb, ltb}
use Rattle.std.proofs.Math.ListN.{length, set}
use Rattle.std.proofs.lemmas.List.{take-append-le}
use borrow.Author.Tests.{ltb-true, ltb-false, eqb-true, eqb-false}
use Rattle.adjudication.specs.Reply.{LineOutcome, reply_of}
use Rattle.stream.specs.declared.State.{State}
use Rattle.stream.specs.Stream.{Run, fresh, quiet, line_over, longer, took, took_all, closed_by, closed}
use Rattle.stream.proofs.laws.Streamed.{kept-reply}
use Rattle.stream.specs.Keeping.{Sheet, sheet, put, put_all, started, emptied, with_byte, Kept, kept, line_answered, byte_taken, all_taken, last_answered, Keeps, Holds}

-- ---- the line

keeps-none : (places : List ℕ) → length places ≡ 13 → Keeps places 0 []
keeps-none places e = record { long = e; bytes = refl }

-- a count below 13 counts the whole line, and any other a line of 13 bytes or more
counted-whole : (places line : List ℕ) (len : ℕ) → Keeps places len line → len < 13 → length line ≡ len
counted-whole places line len k h = go (ltb (length line) 13) refl
  where
    counted : length (take 13 line) ≡ len
    counted = sym (ap length k.bytes) ∙ length-take-le len places (omega (arith, k.long, h))

    go : (q : Bool) → ltb (length line) 13 ≡ q → length line ≡ len
    go true l = ap length (sym (take_all 13 line (omega (arith, ltb-true, l)))) ∙ counted
    go false l = let n : length (take 13 line) ≡ 13 = length-take-le 13 line (omega (arith, ltb-false, l)) in
        absurd (omega (arith, n, counted, h))

counted-full : (places line : List ℕ) (len : ℕ) → Keeps places len line → 13 ≤ len → 13 ≤ length line
counted-full places line len k h = go (ltb (length line) 13) refl
  where
    counted : length (take 13 line) ≡ 13
    counted = ap length (sym k.bytes ∙ take_all len places (omega (arith, k.long, h))) ∙ k.long

    go : (q : Bool) → ltb (length line) 13 ≡ q → 13 ≤ length line
    go true l = let n : length line ≡ 13 = ap length (sym (take_all 13 line (omega (arith, ltb-true, l))))
        ∙ counted in omega (arith, n)
    go false l = omega (arith, ltb-false, l)

keeps-more : (places line : List ℕ) (len b : ℕ) → Keeps places len line → len < 13
    → Keeps (set places len b) (len + 1) (line ++ b ∷ [])
keeps-more places line len b k h =
    let n : length line ≡ len = counted-whole places line len k h in
    let m : length (line ++ b ∷ []) ≡ len + 1 = length-append line (b ∷ []) ∙ ap (λ (x : ℕ). x + 1) n in
    let whole : take 13 (line ++ b ∷ []) ≡ line ++ b ∷ [] = take_all 13 (line ++ b ∷ []) (omega (arith, m, h)) in
    let l : len < length places = omega (arith, k.long, h) in
    let before : take len places ≡ line = k.bytes ∙ take_all 13 line (omega (arith, n, h)) in
    record {
      long = length-set places len b ∙ k.long;
      bytes = ap (λ (x : ℕ). take x (set places len b)) (add-one len) ∙ take-suc-set places len b l
          ∙ ap (λ (x : List ℕ). x ++ b ∷ []) before ∙ sym whole;
    }

keeps-full : (places line : List ℕ) (len b : ℕ) → Keeps places len line → 13 ≤ len → Keeps places len (line ++ b ∷ [])
keeps-full places line len b k h =
    record {
      long = k.long;
      bytes = k.bytes
          ∙ sym (take-append-le 13 line (b ∷ []) (counted-full places line len k h));
    }

-- ---- begun, and handed out

pub holds-start : (t o : List ℕ) → Holds (sheet o 0) (kept started t o) (fresh 4 t)
holds-start t o = record { keeps = keeps-none (replicate 13 0) refl; held = refl; table = refl; out = refl }

pub holds-emptied : (base : Sheet) (k : Kept) (run : Run) → Holds base k run
    → Holds (sheet k.output 0) (kept (emptied k.state) k.table k.output) (quiet run)
holds-emptied base k run w = record { keeps = w.keeps; held = w.held; table = w.table; out = refl }

-- Every state holds a run, over any table and output: its 13 places are as long as its type says.
pub any-state : (s : State) (t o : List ℕ) → length s.line ≡ 13
    → Holds (sheet o s.waiting) (kept s t o)
    (record { line = take s.len s.line; held = s.held; table = t; out = [] })
any-state s t o e =
    record {
      keeps = record { long = e; bytes = sym (take_all 13 (take s.len s.line) (short (ltb s.len 13) refl)) };
      held = refl;
      table = refl;
      out = refl;
    }
  where
    short : (q : Bool) → ltb s.len 13 ≡ q → length (take s.len s.line) ≤ 13
    short true l =
        let n = length-take-le s.len s.line (omega (arith, ltb-true, l, e)) in omega (arith, ltb-true, l, n)
    short false l =
        let n = ap length (take_all s.len s.line (omega (arith, ltb-false, l, e))) in omega (arith, n, e)

-- ---- with each byte

module _ (base : Sheet) where
  pub holds-line : (k : Kept) (run : Run) → Holds base k run → Holds base (line_answered k) (line_over run)
  unfolding line_answered line_over
  holds-line k run w =
      record {
        keeps = keeps-none k.state.line w.keeps.long;
        held = ap (λ (x : LineOutcome). x.held) same;
        table = ap (λ (x : LineOutcome). x.table) same;
        out = written;
      }
    where
      same : reply_of (take k.state.len
          k.state.line) k.state.held k.table ≡ reply_of run.line run.held run.table
      same = rw (w.keeps.bytes, w.held, w.table) (kept-reply run.line run.held run.table)

      written : put_all (sheet k.output k.state.waiting) (reply_of (take k.state.len k.state.line)
          k.state.held k.table).slip
          ≡ put_all base (run.out ++ (reply_of run.line run.held run.table).slip)
      written = ap (λ (x : LineOutcome). put_all (sheet k.output k.state.waiting) x.slip) same
          ∙ ap (λ (x : Sheet). put_all x (reply_of run.line run.held run.table).slip) w.out
          ∙ sym (foldl-append put base run.out (reply_of run.line run.held run.table).slip)

  holds-longer : (k : Kept) (run : Run) (b : ℕ) → Holds base k run
      → Holds base (kept (with_byte k.state b) k.table k.output) (longer run b)
  unfolding with_byte longer
  holds-longer k run b w = go (ltb k.state.len 13) refl
    where
      more : State
      more = record {
        line = set k.state.line k.state.len b;
        len = k.state.len + 1;
        held = k.state.held;
        waiting = k.state.waiting;
      }

      go : (q : Bool) → ltb k.state.len 13 ≡ q
          → Holds base (kept (cond q more k.state) k.table k.output)
          (record { line = run.line ++ b ∷ []; held = run.held; table = run.table; out = run.out })
      go true l = record {
        keeps = keeps-more _ _ _ b w.keeps (omega (arith, ltb-true, l));
        held = w.held;
        table = w.table;
        out = w.out;
      }
      go false l =
          record {
            keeps = keeps-full _ _ _ b w.keeps (omega (arith, ltb-false, l));
            held = w.held;
            table = w.table;
            out = w.out;
          }

  pub holds-byte : (k : Kept) (run : Run) (b : ℕ) → Holds base k run → Holds base (byte_taken k b) (took run b)
  unfolding byte_taken took
  holds-byte k run b w = go (eqb b (code "\n"))
    where
      go : (q : Bool)
          → Holds base (cond q (line_answered k) (kept (with_byte k.state b) k.table k.output))
          (cond q (line_over run) (longer run b))
      go true = holds-line k run w
      go false = holds-longer k run b w

  pub holds-part : (k : Kept) (run : Run) (part : List ℕ) → Holds base k run
      → Holds base (all_taken k part) (took_all run part)
  holds-part k run [] w = w
  holds-part k run (b ∷ bs) w = holds-part (byte_taken k b) (took run b) bs (holds-byte k run b w)

  -- ---- at the end

  pub holds-last : (k : Kept) (run : Run) → Holds base k run → Holds base (last_answered k) (closed run)
  unfolding last_answered closed
  holds-last k run w = go (eqb k.state.len 0) refl run.line refl
    where
      -- a count of 0 counts an empty line, and an empty line is counted as 0
      go : (q : Bool) → eqb k.state.len 0 ≡ q → (l : List ℕ) → run.line ≡ l
          → Holds base (cond q k (line_answered k)) (closed_by l run)
      go true e [] f = w
      go true e (b ∷ bs) f = let n = counted-whole _ _ _ w.keeps (omega (arith, eqb-true k.state.len 0 e)) in
          absurd (omega (arith, n, ap length f, eqb-true k.state.len 0 e))
      go false e [] f = absurd (none (ltb k.state.len 13) refl)
        where
          none : (p : Bool) → ltb k.state.len 13 ≡ p → ⊥
          none true l =
              eqb-false k.state.len 0 e
              (sym (counted-whole _ _ _ w.keeps (omega (arith, ltb-true, l))) ∙ ap length f)
          none false l =
              let n = counted-full _ _ _ w.keeps (omega (arith, ltb-false, l)) in omega (arith, n, ap length f)
      go false e (b ∷ bs) f = holds-line k run w

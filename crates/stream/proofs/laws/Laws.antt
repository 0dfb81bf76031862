-- Laws for the code, in the terms that it has in hand.
use Rattle.std.specs.Prelude.{◌≡◌, ℕ, ◌+◌, ◌≤◌, ◌<◌, length, set, get_or, take, drop}
use Rattle.std.proofs.Common.{sym, ap, ap₂, subst, ◌∙◌, add-one, drop-cons, take_all, lt-ltb, le-ltb, eq-eqb, ne_eqb}
use mathlib.Core.List.{List, foldl}
use Prim.Native.Char.{code}
use Rattle.std.proofs.Math.Seq.{drop-length}
use Rattle.slips.proofs.laws.Padding.{line_of}
use Rattle.adjudication.specs.declared.Reply.{Reply}
use Rattle.adjudication.specs.Reply.{LineOutcome, Gives, reply_of}
use Rattle.adjudication.specs.TrueSlip.{LinePromise}
use Rattle.stream.specs.declared.State.{State}
use Rattle.stream.specs.Keeping.{Sheet, sheet, put, put_all, with_byte, Kept, kept, line_answered, byte_taken, last_answered}

-- ---- byte after byte

module _ {A : Type 0} (f : A → ℕ → A) where
  -- one byte more of a text, as a loop takes it, and no byte left
  pub next-byte : (s q : A) (text : List ℕ) (i : ℕ) → i < length text → q ≡ f s (get_or text i 0)
      → foldl f s (drop i text) ≡ foldl f q (drop (i + 1) text)
  next-byte s q text i h e = rw (drop-cons text i 0 h, add-one i, e)

  pub no_byte : (s : A) (text : List ℕ) (i : ℕ) → length text ≡ i → foldl f s (drop i text) ≡ s
  no_byte s text i e = rw (sym e, drop-length text)

-- ---- the output

pub put_full : (o : List ℕ) (w b : ℕ) → length o ≤ w → sheet o w ≡ put (sheet o w) b
unfolding put
put_full o w b h = rw (le-ltb w (length o) h)

pub put-room : (o : List ℕ) (w b : ℕ) → w < length o → sheet (set o w b) (w + 1) ≡ put (sheet o w) b
unfolding put
put-room o w b h = rw (lt-ltb w (length o) h)

-- a list of which more is asked than there is
pub put_whole : (s q : Sheet) (text : List ℕ) (n : ℕ) → length text ≤ n → q ≡ put_all s text → q ≡ put_all s (take n text)
put_whole s q text n h e = e ∙ ap (put_all s) (sym (take_all n text h))

-- ---- the line

module _ (s : State) (b : ℕ) where
  pub byte-dropped : 13 ≤ s.len → s ≡ with_byte s b
  unfolding with_byte
  byte-dropped h = rw (le-ltb s.len 13 h)

  pub byte-kept : s.len < 13
      → record { line = set s.line s.len b; len = s.len + 1; held = s.held; waiting = s.waiting }
      ≡ with_byte s b
  unfolding with_byte
  byte-kept h = rw (lt-ltb s.len 13 h)

-- ---- one line answered

-- a line of which more is asked than there is
pub reply-whole : (line : List ℕ) (n held : ℕ) (t : List ℕ) (r : Reply) (u : List ℕ) → length line ≤ n
    → LinePromise line held t r u → LinePromise (take n line) held t r u
reply-whole line n held t r u h a = subst (λ (x : List ℕ). LinePromise x held t r u) (sym (take_all n line h)) a

pub line-answered : (s : State) (t o u v : List ℕ) (r : Reply) (n : ℕ)
    → LinePromise (take s.len s.line) s.held t r u
    → sheet v n ≡ put_all (sheet o s.waiting) (take r.slip.len r.slip.bytes)
    → kept (record { line = s.line; len = 0; held = r.held; waiting = n }) u v ≡ line_answered (kept s t o)
unfolding line_answered Gives
line-answered s t o u v r n a e = ap (λ (x : ℕ). after x u (sheet v n)) (ap (λ (x : Reply). x.held) a.reply)
    ∙ ap₂ (after q.held) a.table (e ∙ ap (put_all (sheet o s.waiting)) slip)
  where
    q : LineOutcome
    q = reply_of (take s.len s.line) s.held t

    after : ℕ → List ℕ → Sheet → Kept
    after held table written =
        kept (record { line = s.line; len = 0; held = held; waiting = written.used }) table written.bytes

    slip : take r.slip.len r.slip.bytes ≡ q.slip
    slip = ap (λ (x : Reply). take x.slip.len x.slip.bytes) a.reply ∙ line_of q.slip

-- ---- a byte, and the end

module _ (k r : Kept) where
  pub takes-newline : (b : ℕ) → b ≡ code "\n" → r ≡ line_answered k → r ≡ byte_taken k b
  unfolding byte_taken
  takes-newline b e f = rw (eq-eqb b (code "\n") e) f

  pub closes-line : (k.state.len ≡ 0 → ⊥) → r ≡ line_answered k → r ≡ last_answered k
  unfolding last_answered
  closes-line e f = rw (ne_eqb k.state.len 0 e) f

pub takes-other : (s r : State) (t o : List ℕ) (b : ℕ) → (b ≡ code "\n" → ⊥) → r ≡ with_byte s b
    → kept r t o ≡ byte_taken (kept s t o) b
unfolding byte_taken
takes-other s r t o b e f = rw (ne_eqb b (code "\n") e) (ap (λ (x : State). kept x t o) f)

pub closes-none : (k : Kept) → k.state.len ≡ 0 → k ≡ last_answered k
unfolding last_answered
closes-none k e = rw (eq-eqb k.state.len 0 e)

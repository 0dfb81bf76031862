-- The library's answer to a line in terms of chess alone: on a right table the slip is the true one, and the table stays right.
use Rattle.std.specs.Prelude.{◌≡◌, List, ℕ, ◌+◌, ◌*◌, ◌/◌, ◌%◌, ◌≤◌, length, take}
use Rattle.std.proofs.Common.{sym, subst, arith, eq-eqb}
use Rattle.slips.specs.Slip.{padded}
use Rattle.slips.proofs.laws.Padding.{line_of}
use Rattle.adjudication.specs.Reply.{LineOutcome, reply_of}
use Rattle.adjudication.specs.TrueSlip.{TrueSlip, Held}
use Rattle.adjudication.proofs.laws.Laws.{reply-right}
use Rattle.adjudication.proofs.laws.Short.{reply-short}
use Rattle.sledgewren.specs.Words.{Desk, replied, line_answer}

-- the slip, the man held and the table, as a caller reads them from the word and the lent bytes
abbrev TrueDesk : List ℕ → Desk → Type 0
TrueDesk line o = TrueSlip line (take (o.word % 256) o.slip) × Held (o.word / 256) o.table

replied-true : (line : List ℕ) (o : LineOutcome) → length o.slip ≤ 16
    → TrueSlip line o.slip × Held o.held o.table → TrueDesk line (replied o)
unfolding replied padded
replied-true line o short right =
    let low : (length o.slip + o.held * 256) % 256 ≡ length o.slip = omega arith in
    let high : (length o.slip + o.held * 256) / 256 ≡ o.held = omega arith in
    rw (low, high) (subst (TrueSlip line) (sym (line_of o.slip)) right.0, right.1)

pub line-true : (line : List ℕ) (held : ℕ) (t s : List ℕ) → length s ≡ 16 → Held held t
    → TrueDesk line (line_answer line held t s)
unfolding line_answer
line-true line held t s h w =
    rw (eq-eqb (length s) 16 h)
    (replied-true line (reply_of line held t) (reply-short line held t) (reply-right line held t w))

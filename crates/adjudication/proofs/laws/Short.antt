-- A reply's slip is at most 16 bytes.
use Rattle.std.specs.Prelude.{Bool, true, false, cond, not, List, ℕ, ◌≤◌, eqb, length, Err, None, Ok, Option, Result, Some}
use Rattle.position.specs.declared.Position.{Position}
use Rattle.position.specs.Keyed.{man_kind}
use Rattle.position.specs.Refusals.{standing_refusal}
use Rattle.index.specs.Answers.{placed_at}
use Rattle.endings.specs.Answers.{fill_of, look_up_of}
use Rattle.lines.specs.declared.Request.{Request}
use Rattle.lines.specs.Grammar.{request_of}
use Rattle.slips.proofs.laws.Lengths.{answer-line, placed-line}
use Rattle.adjudication.specs.Reply.{LineOutcome, filled_reply, look_up_reply, request_reply, reply_of}

abbrev pub Short : LineOutcome → Type 0
Short o = length o.slip ≤ 16

short-either : (q : Bool) (x y : LineOutcome) → Short x → Short y → Short (cond q x y)
short-either true x y h k = h
short-either false x y h k = k

filled-short : (p : Position) (f : Result (Option ℕ) ℕ) (t : List ℕ) → Short (filled_reply p f t)
filled-short p (Ok (Some n)) t = (answer-line (look_up_of t p)).most
filled-short p (Ok None) t = (answer-line (look_up_of t p)).most
filled-short p (Err n) t = (answer-line (Err n)).most

look-up-short : (p : Position) (held : ℕ) (t : List ℕ) → Short (look_up_reply p held t)
unfolding look_up_reply
look-up-short p held t =
    short-either (not (eqb (standing_refusal p) 0)) _ _ (answer-line (Err (standing_refusal p))).most
    (short-either (eqb (man_kind p) held) _ _ (answer-line (look_up_of t p)).most
    (filled-short p (fill_of (man_kind p) t).answer (fill_of (man_kind p) t).bytes))

pub reply-short : (l : List ℕ) (held : ℕ) (t : List ℕ) → Short (reply_of l held t)
unfolding reply_of
reply-short l held t = go (request_of l)
  where
    go : (r : Result Request ℕ) → Short (request_reply r held t)
    go (Ok (Request.LookUp p)) = look-up-short p held t
    go (Ok (Request.Back kind n)) = (placed-line (placed_at kind n)).most
    go (Err n) = (answer-line (Err n)).most

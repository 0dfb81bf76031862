-- The slip of a line in terms of the rules of chess alone: no table is spoken of. And what the held table must be for it, and is afterwards.
-- Definitions only.
use Rattle.std.specs.Prelude.{◌≡◌, List, ℕ, ◌<◌, length, get_or, take, Err, Ok, Result}
use Rattle.answers.specs.declared.Answer.{Answer}
use Rattle.position.specs.declared.Position.{Position}
use Rattle.position.specs.Keyed.{board_of, man_kind}
use Rattle.position.specs.Refusals.{standing_refusal}
use Rattle.index.specs.Answers.{placed_at}
use Rattle.endings.specs.Ending.{table_size}
use Rattle.endings.specs.Truth.{TrueTable, TrueAnswer}
use Rattle.endings.specs.FilledTrue.{Decided, Shallow}
use Rattle.lines.specs.declared.Request.{Request}
use Rattle.lines.specs.Grammar.{request_of}
use Rattle.slips.specs.Slip.{slip_of, placed_slip}
use Rattle.adjudication.specs.declared.Reply.{Reply}
use Rattle.adjudication.specs.Reply.{Gives, reply_of}

pub data TrueSlip (line slip : List ℕ) : Type 0 where
  -- a line of the wrong shape, a number with a wrong check, or with a wrong byte in the man's place
  refused : (n : ℕ) → request_of line ≡ Err n → slip ≡ slip_of (Err n) → TrueSlip line slip
  -- a number line: the position of the number, or its refusal
  placed : (kind n : ℕ) → request_of line ≡ Ok (Request.Back kind n) → slip ≡ placed_slip (placed_at kind n) → TrueSlip line slip
  -- a position line with a refusal from 1 to 6
  not-standing : (p : Position) → request_of line ≡ Ok (Request.LookUp p) → (standing_refusal p ≡ 0 → ⊥) → slip ≡ slip_of (Err (standing_refusal p)) → TrueSlip line slip
  -- a legal position of an ending no deeper than 253: its true value and depth, and the first move that is truly best
  answered : (p : Position) (a : Result Answer ℕ) → request_of line ≡ Ok (Request.LookUp p) → standing_refusal p ≡ 0 → Shallow (man_kind p) → TrueAnswer (board_of p) a → slip ≡ slip_of a → TrueSlip line slip
  -- refusal 10: a legal position of the ending is deeper than 253
  too-deep : (p : Position) (n : ℕ) → request_of line ≡ Ok (Request.LookUp p) → standing_refusal p ≡ 0 → 253 < n → Decided (man_kind p) n → slip ≡ slip_of (Err 10) → TrueSlip line slip

-- The table is as long as a table, and where a man is held it is his true one, in bytes.
pub record Held (held : ℕ) (t : List ℕ) : Type 0 where
  pub long : length t ≡ table_size
  pub right : held < 4 → TrueTable held t
  pub small : held < 4 → (n : ℕ) → get_or t n 0 < 256

-- What is promised of a line's reply r and of the table u that it leaves.
pub record LinePromise (line : List ℕ) (held : ℕ) (t : List ℕ) (r : Reply) (u : List ℕ) : Type 0 where
  pub reply : Gives r (reply_of line held t)
  pub table : u ≡ (reply_of line held t).table
  pub true-slip : Held held t → TrueSlip line (take r.slip.len r.slip.bytes)
  pub still-held : Held held t → Held r.held u

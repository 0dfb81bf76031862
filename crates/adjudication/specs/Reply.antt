-- The reply to one line over a held table (01, "The desk program"): its slip, the man whose table is held afterwards, and the table's bytes.
-- Definitions only.
use Rattle.std.specs.Prelude.{◌≡◌, cond, not, List, ℕ, eqb, Err, None, Ok, Option, Result, Some}
use Rattle.position.specs.declared.Position.{Position}
use Rattle.position.specs.Keyed.{man_kind}
use Rattle.position.specs.Refusals.{standing_refusal}
use Rattle.index.specs.Answers.{placed_at}
use Rattle.endings.specs.Answers.{fill_of, look_up_of}
use Rattle.lines.specs.declared.Request.{Request}
use Rattle.lines.specs.Grammar.{request_of}
use Rattle.slips.specs.Slip.{slip_of, placed_slip, padded}
use Rattle.adjudication.specs.declared.Reply.{Reply}

pub record LineOutcome : Type 0 where
  pub slip : List ℕ
  pub held : ℕ
  pub table : List ℕ

-- what the code gives back of an outcome
unfoldable pub Gives : Reply → LineOutcome → Type 0
Gives r o = r ≡ record { slip = padded o.slip; held = o.held }

-- a position looked up in the table that filling left; where filling gave up, no table is held
abbrev pub filled_reply : Position → Result (Option ℕ) ℕ → List ℕ → LineOutcome
filled_reply p (Ok (Some n)) t = record { slip = slip_of (look_up_of t p); held = man_kind p; table = t }
filled_reply p (Ok None) t = record { slip = slip_of (look_up_of t p); held = man_kind p; table = t }
filled_reply p (Err n) t = record { slip = slip_of (Err n); held = 4; table = t }

-- "fills the table of a position line's man whenever that isn't the one it holds"; a refused position asks for no table
unfoldable pub look_up_reply : Position → ℕ → List ℕ → LineOutcome
look_up_reply p held t =
    cond (not (eqb (standing_refusal p) 0)) (record { slip = slip_of (Err (standing_refusal p)); held = held; table = t })
    (cond (eqb (man_kind p) held) (record { slip = slip_of (look_up_of t p); held = held; table = t })
    (filled_reply p (fill_of (man_kind p) t).answer (fill_of (man_kind p) t).bytes))

abbrev pub request_reply : Result Request ℕ → ℕ → List ℕ → LineOutcome
request_reply (Ok (Request.LookUp p)) held t = look_up_reply p held t
request_reply (Ok (Request.Back kind n)) held t = record { slip = placed_slip (placed_at kind n); held = held; table = t }
request_reply (Err n) held t = record { slip = slip_of (Err n); held = held; table = t }

unfoldable pub reply_of : List ℕ → ℕ → List ℕ → LineOutcome
reply_of line held t = request_reply (request_of line) held t

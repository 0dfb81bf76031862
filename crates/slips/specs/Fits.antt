-- The answers that a slip has room for: depth and refusal are bytes, and a move's squares are on the board and it promotes nothing. Definitions
-- only.
use Rattle.rules.specs.declared.Move.{Move}
use Rattle.std.specs.Prelude.{◌≡◌, ◌<◌, None, Option, Some, Err, Ok, Result, ℕ}
use Rattle.answers.specs.declared.Answer.{Answer}

abbrev pub AdviceFits : Option Move → Type 0
AdviceFits (Some m) = (m.from < 64) × (m.to < 64) × (m.becomes ≡ 0)
AdviceFits None = Unit {0}

abbrev pub AnswerFits : Result Answer ℕ → Type 0
AnswerFits (Ok (Answer.Win n a)) = (n < 256) × AdviceFits a
AnswerFits (Ok (Answer.Loss n a)) = (n < 256) × AdviceFits a
AnswerFits (Ok (Answer.Draw a)) = AdviceFits a
AnswerFits (Err k) = k < 256

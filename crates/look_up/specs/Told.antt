-- What a verdict on the byte of the normal position says of the position as keyed. Definitions only.
use Rattle.std.specs.Prelude.{ℕ, Err, Result}
use Rattle.symmetry.specs.Symmetry.{inverse}
use Rattle.position.specs.declared.Map.{Map}
use Rattle.position.specs.Maps.{symmetry_of}
use Rattle.answers.specs.declared.Answer.{Answer}
use Rattle.endings.specs.Answers.{mapped_advice, answer_of}
use Rattle.successors.specs.declared.Verdict.{Verdict}

-- 11 where the byte is not the one required; else the answer, its move carried back by the map
abbrev pub told_of : Map → ℕ → Verdict → Result Answer ℕ
told_of via byte Verdict.Wrong = Err 11
told_of via byte (Verdict.Right advice) = answer_of byte (mapped_advice (inverse (symmetry_of via)) advice)

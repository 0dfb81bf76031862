-- What the part that writes a number with its check answers: "it refuses 8 and 9"; and what it is for a line that carries what it wrote.
-- Definitions only.
use Rattle.position.specs.declared.Position.{Position}
use Rattle.std.specs.Prelude.{◌≡◌, List, ◌∷◌, ◌++◌, ℕ, replicate, Err, Ok, Result}
use Rattle.ascii.specs.Bytes.{bytes}
use Rattle.check_digits.specs.Check.{with_check, digit_bytes}
use Rattle.index.specs.Answers.{placed_at, position_at}
use Rattle.lines.specs.declared.Request.{Request}
use Rattle.lines.specs.Grammar.{kind_named, request_of}
use Rattle.lines.specs.Typed.{RightLine}
use Rattle.desk_refusals.specs.declared.Refusal.{Refusal}
use Rattle.desk_refusals.specs.Numbers.{number_of}

-- refusal 0 and the bytes of seven digits, or a refusal and seven zero bytes
pub record Written : Type 0 where
  pub refusal : ℕ
  pub digits : List ℕ

abbrev pub written_as : Result (List ℕ) Refusal → Written
written_as (Ok ds) = record { refusal = 0; digits = ds }
written_as (Err r) = record { refusal = number_of r; digits = replicate 7 0 }

-- by what numbering back answers: its refusal and seven zero bytes, or refusal 0 and the bytes of the seven digits
unfoldable pub written_by : ℕ → Result Position ℕ → Written
written_by n (Ok p) = record { refusal = 0; digits = digit_bytes 7 (with_check n) }
written_by n (Err k) = record { refusal = k; digits = replicate 7 0 }

-- numbering back's refusals 8 and 9 are the same for every man (WritingLaws, same-for-all), so it is asked for the queen
unfoldable pub written_of : ℕ → Written
written_of n = written_by n (placed_at 0 n)

-- a man's letter and the digits, as a number line
abbrev pub typed_line : ℕ → Written → List ℕ
typed_line letter w = letter ∷ bytes " # " ++ w.digits

-- the line is accepted, and leads back to the number's position
pub record LeadsBack (letter n : ℕ) (line : List ℕ) : Type 0 where
  pub right : RightLine line
  pub request : request_of line ≡ Ok (Request.Back (kind_named letter) n)
  pub placed : placed_at (kind_named letter) n ≡ Ok (position_at (kind_named letter) n)

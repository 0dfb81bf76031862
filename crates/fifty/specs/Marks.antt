-- What looking up answers with the plies since the last capture (02, P13). Definitions only.
use Rattle.rules.specs.declared.Piece.{Piece}
use Rattle.std.specs.Prelude.{Bool, true, false, cond, not, ◌&&◌, List, ℕ, ◌+◌, leb, ltb, None, Option, Some, Err, Ok, Result}
use Rattle.finite.specs.Members.{all}
use Rattle.rules.specs.Pawn.{pawn}
use Rattle.position.specs.declared.Position.{Position}
use Rattle.position.specs.Keyed.{board_of}
use Rattle.answers.specs.declared.Answer.{Answer}
use Rattle.endings.specs.Answers.{look_up_of}
use Rattle.four_men.specs.Lending.{Lent}
use Rattle.four_men.specs.Answers.{look_up_with}
use Rattle.desk_refusals.specs.declared.Refusal.{Refusal}
use Rattle.desk_refusals.specs.Numbers.{number_of, numbered}
use Rattle.fifty.specs.declared.Marked as declared

-- "Mark a win or a loss as 'within fifty' when that count plus the depth is at most 100"; "never on a draw"
abbrev pub marks : ℕ → Result Answer ℕ → Bool
marks c (Ok (Answer.Win n a)) = leb (c + n) 100
marks c (Ok (Answer.Loss n a)) = leb (c + n) 100
marks c (Ok (Answer.Draw a)) = false
marks c (Err k) = false

abbrev pub is_refused : Result Answer ℕ → Bool
is_refused (Err k) = true
is_refused (Ok (Answer.Win n a)) = false
is_refused (Ok (Answer.Loss n a)) = false
is_refused (Ok (Answer.Draw a)) = false

-- "0 to 99; more is refusal 19, asked after all others"
unfoldable pub at_count : ℕ → Result Answer ℕ → Result Answer ℕ
at_count c a = cond (is_refused a) a (cond (ltb 99 c) (Err 19) a)

-- no man is a pawn; as code asks it, of each slot
abbrev pub pawnless : Position → Bool
pawnless p = all (λ a. not (pawn a)) (board_of p).men

abbrev pub slot_free : Option Piece → Bool
slot_free None = true
slot_free (Some m) = not (pawn m)

-- look-up's answer at a count, its refusal by number, and whether it is marked
pub record Marked : Type 0 where
  pub answer : Result Answer ℕ
  pub within_fifty : Bool

abbrev pub marked_by : {R : Type 0} → (R → ℕ) → declared.Marked R → Marked
marked_by f m = record { answer = numbered f m.answer; within_fifty = m.within_fifty }

abbrev pub marked_as : declared.Marked Refusal → Marked
marked_as m = marked_by number_of m

-- an answer and its mark, by whether there is no pawn
abbrev pub marked_for : Bool → ℕ → Result Answer ℕ → Marked
marked_for free c a = record { answer = a; within_fifty = free && marks c a }

-- of one man, who is no pawn
unfoldable pub look_up_at : List ℕ → ℕ → Position → Marked
look_up_at t c p = marked_for true c (at_count c (look_up_of t p))

-- of every ending, through the lent tables: the mark is "never .. with a pawn"
unfoldable pub look_up_at_with : Lent → List ℕ → ℕ → Position → Marked
look_up_at_with l t c p = marked_for (pawnless p) c (at_count c (look_up_with l t p))

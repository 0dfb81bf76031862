-- The numbers of the refusals ("When the desk says no"), and what an answer says by number. Definitions only.
use Rattle.std.specs.Prelude.{ℕ, Result, Ok, Err}
use Rattle.desk_refusals.specs.declared.Refusal.{Refusal}

abbrev pub number_of : Refusal → ℕ
number_of Refusal.BadMan = 1
number_of Refusal.BadSide = 2
number_of Refusal.BadSquare = 3
number_of Refusal.SharedSquare = 4
number_of Refusal.KingsTouch = 5
number_of Refusal.OtherInCheck = 6
number_of Refusal.TableLength = 7
number_of Refusal.NumberTooHigh = 8
number_of Refusal.NumberUnused = 9
number_of Refusal.TooDeep = 10
number_of Refusal.Inconsistent = 11
number_of Refusal.BadLine = 12
number_of Refusal.BadCheck = 13
number_of Refusal.WrongSet = 14
number_of Refusal.NotInSet = 15
number_of Refusal.TooManyPlies = 16
number_of Refusal.NotAccepted = 17
number_of Refusal.BadPawn = 18
number_of Refusal.TooManyQuiet = 19

-- an answer with what stands for its refusal by number
abbrev pub numbered : {A R : Type 0} → (R → ℕ) → Result A R → Result A ℕ
numbered f (Ok x) = Ok x
numbered f (Err r) = Err (f r)

-- an answer with its refusal by number
abbrev pub by_number : {A : Type 0} → Result A Refusal → Result A ℕ
by_number r = numbered number_of r

-- what is refused, by number; 0 where nothing is
abbrev pub refused : {A : Type 0} → Result A Refusal → ℕ
refused (Ok x) = 0
refused (Err r) = number_of r

-- What the laws of numbers speak of, for one man and for two, and for a pawn. Definitions only.
use Rattle.std.specs.Prelude.{◌≡◌, ℕ}
use Rattle.pawn_numbers.specs.PawnNumber.{Flip, flipped}
use Rattle.position.specs.declared.Position.{Position}
use Rattle.position.specs.Keyed.{board_of}
use Rattle.numbering.specs.declared.Material.{Material}
use Rattle.numbering.specs.Material.{material_in}
use Rattle.position.specs.Refusals.{placing_with}
use Rattle.index.specs.Endings.{number_in}
use Rattle.index.specs.NumberLaws.{SameClass}

-- the position is of the ending, numbering does not refuse it, and this is its number
pub record BearsOf (m : Material) (n : ℕ) (p : Position) : Type 0 where
  pub ending : material_in (board_of p).men ≡ m
  pub placed : placing_with p ≡ 0
  pub number : number_in m (board_of p) ≡ n

-- demand 2's sameness: of pieces one of the changes; of a pawn "only" the board reversed left to right "and P9's
-- exchange" (02, P12)
abbrev pub SameClassIn : Material → Position → Position → Type 0
SameClassIn (Material.One kind) p q = SameClass p q
SameClassIn (Material.Two first second rivals) p q = SameClass p q
SameClassIn Material.Pawn p q = (s : Flip) × (board_of q ≡ flipped s (board_of p))

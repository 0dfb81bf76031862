-- A place of any ending, what stands at a number, and the verdict where the game is over. Definitions only.
use Rattle.std.specs.Prelude.{◌≡◌, Bool, true, false, cond, ◌&&◌, ◌⊎◌, List, ℕ, ◌+◌, eqb, None, Option, Some}
use Rattle.theory.specs.Required.{required_at}
use Rattle.rules.specs.Chess.{chess}
use Rattle.rules.specs.Rules.{Board, empty, in_check, moves}
use Rattle.numbering.specs.declared.Material.{Material}
use Rattle.position.specs.declared.Men.{Men}
use Rattle.position.specs.declared.Place.{Place}
use Rattle.position.specs.Posed.{board_in, material_for, Complete}
use Rattle.index.specs.Endings.{board_for}
use Rattle.four_men.specs.Reading.{legal_number_of}
use Rattle.pawn_moves.specs.PawnMoves.{PawnOn}
use Rattle.successors.specs.Successors.{bytes_in}
use Rattle.successors.specs.declared.Verdict.{Verdict}

-- king and pawn: the men are the pawn's, it is the first and there is no second, and none of the refusals 1 to 5 and 18
pub record PawnSeated (m : Men) (q : Place) : Type 0 where
  pub ending : material_for m ≡ Material.Pawn
  pub second : q.second ≡ 64
  pub on : PawnOn q

-- all the men of an ending are there, of pieces or king and pawn, and no refusal but that of a check
abbrev pub Seated : Men → Place → Type 0
Seated m q = Complete m q ⊎ PawnSeated m q

-- what stands at a number
abbrev pub StandingFor : Men → ℕ → Option Place → Type 0
StandingFor m n None = legal_number_of (material_for m) n ≡ false
StandingFor m n (Some q) =
    (legal_number_of (material_for m) n ≡ true) × Seated m q × (board_in m q ≡ board_for (material_for m) n)

-- with no move left the byte is 2 in check, which is mate, and 1 otherwise, which is stalemate
unfoldable pub end_of : ℕ → Board → Verdict
end_of c b =
    cond (empty (moves b))
    (cond (eqb c (cond (in_check b b.side) 2 1)) (Verdict.Right None) Verdict.Wrong) Verdict.Wrong

-- the position at the number is legal, and depth k required of it
unfoldable pub required_of : Men → List ℕ → List ℕ → List ℕ → ℕ → ℕ → Bool
required_of m first second table k n =
    legal_number_of (material_for m) n
    && eqb (required_at chess (bytes_in m first second table) (board_for (material_for m) n)) (2 + k)

-- A number that leads back, and the number of a position. Definitions only.
use Rattle.std.specs.Prelude.{◌≡◌, ℕ, ◌/◌, ◌<◌, Ok}
use Rattle.numbering.specs.Number.{number_of}
use Rattle.position.specs.declared.Position.{Position}
use Rattle.position.specs.Keyed.{board_of, man_kind}
use Rattle.position.specs.Refusals.{placing_refusal}
use Rattle.index.specs.Answers.{number_answer, position_at, placed_at}
use Rattle.index.specs.NumberLaws.{SameClass}

-- a position that is placed and bears a number of an ending
pub record Bears (kind n : ℕ) (p : Position) : Type 0 where
  pub ending : man_kind p ≡ kind
  pub side : p.side ≡ n / 29568
  pub placed : placing_refusal p ≡ 0
  pub number : number_of (board_of p) ≡ n

-- demand 2: a placed position's number is below 59,136 and used, and the position at it is of its class
pub record Located (p : Position) (n : ℕ) : Type 0 where
  pub number : number_answer p ≡ Ok n
  pub below : n < 59136
  pub back : placed_at (man_kind p) n ≡ Ok (position_at (man_kind p) n)
  pub class : SameClass p (position_at (man_kind p) n)

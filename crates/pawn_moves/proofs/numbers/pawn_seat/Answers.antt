-- `numbers::pawn_seat` meets its contract.
use mathlib.Core.Path.{refl, ap, ◌∙◌}
use Rattle.pawn_numbers.specs.Places.{seated}
use Rattle.pawn_numbers.proofs.laws.PlaceLaws.{place-board}
use Rattle.pawn_moves.proofs.numbers.pawn_seat.Goals as goal

pub returns : goal.returns
returns c = record { board = ap seated c.pawn_place_at-at.ensures ∙ place-board _; second = refl }

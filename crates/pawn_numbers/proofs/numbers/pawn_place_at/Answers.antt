-- `pawn_numbers::pawn_place_at` meets its contract.
use mathlib.Core.Path.{refl}
use Rattle.pawn_numbers.specs.Places.{place_of}
use Rattle.pawn_numbers.proofs.numbers.pawn_place_at.Goals as goal

pub returns : goal.returns
unfolding place_of
returns c = refl

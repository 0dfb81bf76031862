-- `pawn_numbers::pawn_number_at` meets its contract.
use mathlib.Core.Path.{ap, ◌∙◌}
use Rattle.pawn_numbers.specs.declared.PawnPlace.{PawnPlace}
use Rattle.pawn_numbers.specs.PawnNumber.{pawn_key}
use Rattle.pawn_numbers.specs.Places.{seated}
use Rattle.pawn_numbers.proofs.laws.PlaceLaws.{number-by}
use Rattle.pawn_numbers.proofs.numbers.pawn_number_at.Goals as goal

pub returns : goal.returns
returns c =
    c.pawn_key.ensures ∙ ap (λ (q : PawnPlace). pawn_key (seated q)) c.place_by.ensures
    ∙ number-by _

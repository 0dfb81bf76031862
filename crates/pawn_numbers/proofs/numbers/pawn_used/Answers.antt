-- `pawn_numbers::pawn_used` meets its contract.
use mathlib.Core.Path.{ap, ◌∙◌}
use Rattle.pawn_numbers.specs.declared.PawnPlace.{PawnPlace}
use Rattle.pawn_numbers.specs.PawnNumber.{separated, used_pawn}
use Rattle.pawn_numbers.specs.Places.{seated}
use Rattle.pawn_numbers.proofs.laws.PlaceLaws.{place-board}
use Rattle.pawn_numbers.proofs.numbers.pawn_used.Goals as goal

pub returns : goal.returns
unfolding used_pawn
returns c =
    c.is_pawn_used.ensures ∙ ap (λ (q : PawnPlace). separated (seated q)) c.pawn_place_at.ensures
    ∙ ap separated (place-board _)

-- `position::is_above` meets its contract.
use Rattle.std.specs.Prelude.{Option}
use Rattle.rules.specs.declared.Piece.{Piece}
use mathlib.Core.Path.{sym, ap}
use Rattle.numbering.specs.Normal.{first_above}
use Rattle.position.proofs.laws.MapLaws.{one-above}
use Rattle.position.specs.Keyed.{slot_men}
use Rattle.position.proofs.maps.is_above.Goals as goal

pub returns-in-None : goal.returns-in-None
unfolding first_above
returns-in-None c = sym (ap (λ (s : Option Piece). first_above (slot_men s)) c.in-None.is)

pub returns-in-Some : goal.returns-in-Some
returns-in-Some c = one-above _ _ c.in-Some.is

-- `position::bad_pawn` meets its contract.
use Rattle.position.proofs.laws.SlotLaws.{astray-by-slots}
use Rattle.position.proofs.refusals.bad_pawn.Goals as goal

pub returns : goal.returns
returns c = rw (c.is_astray.ensures, c.is_astray-2.ensures) (astray-by-slots c.args.p)

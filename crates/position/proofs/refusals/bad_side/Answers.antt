-- `position::bad_side` meets its contract.
use Rattle.position.proofs.laws.SlotLaws.{foreign-by-slots}
use Rattle.position.proofs.refusals.bad_side.Goals as goal

pub returns : goal.returns
returns c = rw (c.is_foreign.ensures, c.is_foreign-2.ensures) (foreign-by-slots c.args.p)

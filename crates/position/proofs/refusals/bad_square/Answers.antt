-- `position::bad_square` meets its contract.
use Rattle.position.proofs.laws.SlotLaws.{off-by-slots}
use Rattle.position.proofs.refusals.bad_square.Goals as goal

pub returns : goal.returns
returns c = rw (c.is_off.ensures, c.is_off-2.ensures) (off-by-slots c.args.p)

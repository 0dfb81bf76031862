-- `position::shared_square` meets its contract.
use Rattle.position.proofs.laws.SlotLaws.{shared-by-slots}
use Rattle.position.proofs.refusals.shared_square.Goals as goal

pub returns : goal.returns
returns c =
    rw (
      c.is_on.ensures,
      c.is_on-2.ensures,
      c.is_on-3.ensures,
      c.is_on-4.ensures,
      c.men_share.ensures,
    )
    (shared-by-slots c.args.p)

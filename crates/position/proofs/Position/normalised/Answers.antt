-- `Position::normalised` meets its contract: the reversals, then the exchange where it is called for.
use mathlib.Core.Path.{sym}
use mathlib.Core.Bool.{true, false}
use Rattle.position.proofs.laws.MapLaws.{unmoved, normal-made}
use Rattle.position.proofs.Position.normalised.Goals.{then-swap, else-swap}
use Rattle.position.proofs.Position.normalised.Goals as goal

pub returns : goal.returns
returns c =
    elim c.if-swap.branch [
      | then-swap v ↦ rw v.position-is
          (normal-made _ _ _ _ true c.turned-p.ensures c.swaps-swap.ensures v.if-swap.true v.exchanged-position.ensures)
      | else-swap v ↦ rw v.position-is
          (normal-made _ _ _ _ false c.turned-p.ensures c.swaps-swap.ensures v.if-swap.false (sym (unmoved _)))
    ]

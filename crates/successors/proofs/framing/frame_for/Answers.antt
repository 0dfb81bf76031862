-- `successors::frame_for` meets its contract.
use mathlib.Core.Path.{refl}
use native.Mathlib.Omega.{arith}
use Rattle.successors.proofs.laws.FramingLaws.{frame_is}
use Rattle.successors.proofs.framing.frame_for.Goals as goal

pub returns : goal.returns
returns c =
    λ hw hb. frame_is _ _ _ _ _ _ hw hb c.flip_of-flip.ensures c.exchange_of-exchange.ensures
    (c.number_keyed-alone.ensures _ _ 0 64
    (record { white = hw; black = hb; first = omega arith; alone = refl; key = c.packed.ensures.0 }))

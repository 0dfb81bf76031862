-- `index::place::seat_of` meets its contract.
use Prim.Native.Nat.{◌%◌}
use native.Mathlib.Omega.{arith}
use Rattle.numbering.proofs.laws.PairLaws.{kings-of}
use Rattle.index.specs.Seats.{seat_of}
use Rattle.index.proofs.place.seat_of.Goals as goal

pub overflow_cast-result-2 : goal.overflow_cast-result-2
overflow_cast-result-2 c =
    let e = c.kings_of-kings.ensures in
    let k = (kings-of (c.args.lead % 462) (omega arith)).white in
    omega arith

pub returns : goal.returns
unfolding seat_of
returns c = rw c.kings_of-kings.ensures

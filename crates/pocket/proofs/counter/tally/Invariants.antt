-- `pocket::tally` meets its contract. The loop's invariant: the three counts of bits are those of the entries in the i first words.
use Prim.Native.Nat.{◌*◌}
use Rattle.pocket.proofs.laws.TallyLaws.{Sums}
use Rattle.pocket.proofs.counter.tally.Given as goal

abbrev pub invariant-loop-i : goal.invariant-loop-i
invariant-loop-i l = Sums l.pocket (8 * l.i) l.low l.high l.both

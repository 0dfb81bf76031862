-- `pocket::pack` meets its contract. The loop's invariant: the pocket's bytes below i are packed, the others as they were.
use Rattle.finite.specs.Mapped.{Upto}
use Rattle.pocket.specs.Pocket.{packed_byte}
use Rattle.pocket.proofs.packer.pack.Given as goal

abbrev pub invariant-loop-i : goal.invariant-loop-i
invariant-loop-i l = Upto (λ j b. packed_byte l.table j) l.initial.pocket l.pocket l.i

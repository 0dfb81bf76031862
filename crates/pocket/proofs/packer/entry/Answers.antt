-- `pocket::entry` meets its contract.
use native.Mathlib.Omega.{arith}
use borrow.Author.Tests.{le-leb, lt-leb, eq-eqb, ne_eqb}
use Rattle.pocket.specs.Pocket.{entry_of}
use Rattle.pocket.proofs.packer.entry.Goals as goal

pub returns-then-byte-le1 : goal.returns-then-byte-le1
unfolding entry_of
returns-then-byte-le1 c = (simp (le-leb _ _ c.if-byte-le1.true), omega arith)

pub returns-then-byte-eq1 : goal.returns-then-byte-eq1
unfolding entry_of
returns-then-byte-eq1 c = (simp (lt-leb _ _ c.if-byte-le1.false, eq-eqb _ _ c.if-byte-eq1.true), omega arith)

pub returns : goal.returns
unfolding entry_of
returns c = (simp (lt-leb _ _ c.if-byte-le1.false, ne_eqb _ _ c.if-byte-eq1.false), omega arith)

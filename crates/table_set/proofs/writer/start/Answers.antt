-- `table_set::start` meets its contract.
use Rattle.table_set.proofs.laws.Writing.{start-unlike, start_is}
use native.Mathlib.Omega.{arith}
use borrow.Author.Rules.{rules}
use Rattle.table_set.proofs.writer.start.Goals as goal

pub returns-then-set-n : goal.returns-then-set-n
returns-then-set-n c = start-unlike _ _ _ c.count-n.ensures.0 c.if-set-n.true

pub write_header-requires : goal.write_header-requires
write_header-requires c = let k = c.count-n.ensures in (k.0, k.1, omega (arith, c.if-set-n.false))

pub returns : goal.returns
returns c =
    start_is _ _ _ c.count-n.ensures.0
    c.if-set-n.false _ c.write_header.ensures

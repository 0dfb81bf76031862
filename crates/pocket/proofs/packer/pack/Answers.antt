-- `pocket::pack` meets its contract. The loop's invariant: the pocket's bytes below i are packed, the others as they were.
use Rattle.finite.specs.Mapped.{upto_all}
use Rattle.pocket.proofs.laws.PackLaws.{pack-table, pack-pocket, pack-done}
use Rattle.pocket.proofs.packer.pack.Goals as goal

pub returns-then-table-ne-TABLE_SIZE : goal.returns-then-table-ne-TABLE_SIZE
returns-then-table-ne-TABLE_SIZE c = pack-table _ _ c.if-table-ne-TABLE_SIZE.true

pub returns-then-pocket-ne-POCKET_SIZE : goal.returns-then-pocket-ne-POCKET_SIZE
returns-then-pocket-ne-POCKET_SIZE c = pack-pocket _ _ c.if-table-ne-TABLE_SIZE.false c.if-pocket-ne-POCKET_SIZE.true

pub returns : goal.returns
returns c =
    pack-done _ _ c.if-table-ne-TABLE_SIZE.false _ c.if-pocket-ne-POCKET_SIZE.false
    (upto_all _ _ _ _ c.loop-i.invariant c.loop-i-test.false)

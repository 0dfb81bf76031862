-- `table_set::count` meets its contract.
use Rattle.table_set.proofs.laws.Writing.{codes-count}
use Rattle.std.proofs.Common.{arith, rules, sym, ◌∙◌}
use Rattle.table_set.proofs.header.count.Goals as goal

pub returns : goal.returns
returns c =
    let k = codes-count c.args.choice in
    (rw (c.from.ensures, c.from-2.ensures, c.from-3.ensures, c.from-4.ensures) k.0, search rules)

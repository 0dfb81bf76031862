-- `table_set::fill_part` meets its contract: the part that was lent comes back filled, and what stands around it as it was.
use Prim.Native.Nat.{◌+◌, ◌-◌}
use Rattle.table_set.proofs.laws.Writing.{part-put}
use native.Mathlib.Omega.{arith}
use borrow.Author.Rules.{rules}
use Rattle.table_set.proofs.tables.fill_part.Goals as goal

pub returns : goal.returns
returns c =
    let at = c.args.at in
    let f = c.fill_one_back in
    part-put _ at (at + 59136 - at) _ _ _ (omega arith) c.requires f.ensures.answered f.ensures.left
    f.auto.table

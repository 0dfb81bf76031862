-- `filling::pass_halves` meets its contract.
use Rattle.filling.proofs.laws.Outside.{quiet-outside}
use Rattle.filling.proofs.pass.pass_halves.Goals as goal

pub pass_over-requires : goal.pass_over-requires
pass_over-requires c =
    let p = c.requires in
    (p.0, p.1, quiet-outside _ _ _ _ p.1 _ _ _ p.2 _ _ c.first_of-from.ensures c.end_of-to.ensures)

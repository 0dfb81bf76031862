-- `filling::black_may` meets its contract.
use native.Mathlib.Omega.{arith}
use Rattle.filling.proofs.laws.Quiet.{quiet-high, high-most}
use Rattle.filling.proofs.halves.black_may.Goals as goal

pub may_settle-requires : goal.may_settle-requires
may_settle-requires c =
    let p = c.requires in
    (p.0, omega arith, omega arith, omega arith, high-most c.args.m _ c.high_of.ensures, p.1)

pub returns : goal.returns
returns c = λ e. quiet-high c.args.m _ _ _ _ _ _ _ c.high_of.ensures (c.may_settle.ensures e)

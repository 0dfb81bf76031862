-- `working_back::try_into` meets its contract.
use mathlib.Core.Path.{◌≡◌}
use Prim.Native.Nat.{◌%◌}
use native.Mathlib.Omega.{arith}
use Rattle.working_back.proofs.into.try_into.Goals as goal

pub win_into-requires : goal.win_into-requires
win_into-requires c =
    let p = c.requires in
    (p.1, c.if-k-eq1.true, p.2, p.3)

pub returns-then-k-eq1 : goal.returns-then-k-eq1
returns-then-k-eq1 c = c.win_into.ensures

pub lose_into-requires : goal.lose_into-requires
lose_into-requires c =
    let even : c.args.k % 2 ≡ 0 = omega (arith, c.if-k-eq1.false) in
    let p = c.requires in
    (p.0, p.1, even, p.2, p.3, p.4)

pub returns : goal.returns
returns c = c.lose_into.ensures

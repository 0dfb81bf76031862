-- `working_back::struck` meets its contract.
use mathlib.Core.Path.{refl}
use Rattle.working_back.proofs.laws.BareMoves.{struck-is}
use Rattle.working_back.proofs.bare.struck.Goals as goal

pub returns : goal.returns
returns c =
    let x = c.args in
    struck-is x.m x.white x.x x.y x.to _ _ _ _ _ _ _ c.one.ensures c.one-2.ensures c.one-3.ensures refl
    c.targets-near.ensures _ _ c.targets.ensures c.targets-2.ensures refl c.with.ensures

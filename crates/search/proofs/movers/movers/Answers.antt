-- `search::movers` meets its contract.
use Rattle.search.proofs.laws.MoverLaws.{movers-bare, movers-own}
use Rattle.search.proofs.movers.movers.Goals as goal

pub returns-then-is_bare : goal.returns-then-is_bare
returns-then-is_bare c = movers-bare _ _ c.is_bare.ensures c.if-is_bare.true

pub returns : goal.returns
returns c = movers-own _ _ _ c.is_bare.ensures c.if-is_bare.false c.own.ensures

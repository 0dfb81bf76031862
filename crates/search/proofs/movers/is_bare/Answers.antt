-- `search::is_bare` meets its contract.
use Rattle.search.proofs.laws.MoverLaws.{bare-first, bare-second, bare-both}
use Rattle.search.proofs.movers.is_bare.Goals as goal

pub returns-in-Some : goal.returns-in-Some
returns-in-Some c = bare-first _ _ c.in-Some.is

pub returns-in-Some-second : goal.returns-in-Some-second
returns-in-Some-second c = bare-second _ _ c.in-None.is c.in-Some-second.is

pub returns-in-None-second : goal.returns-in-None-second
returns-in-None-second c = bare-both _ c.in-None.is c.in-None-second.is

-- `retracting::was_legal` meets its contract.
use Rattle.std.proofs.Common.{sym}
use Rattle.retracting.proofs.laws.Code.{told-legal}
use Rattle.retracting.proofs.places.was_legal.Goals as goal

pub returns : goal.returns
returns c apart = sym (told-legal c.args.m _ _ _ c.place_before.ensures c.is_legal.ensures apart)

-- `movegen::reaching::is_safe` meets its contract: check after a move is found on the place after it.
use Rattle.std.proofs.Common.{sym}
use Rattle.movegen.proofs.laws.Struck.{check-placed}
use Rattle.movegen.proofs.reaching.is_safe.Goals as goal

pub returns : goal.returns
returns c stays h =
    let x = c.args in
    sym (check-placed x.m x.q _ x.from x.t _ stays h c.place_after.ensures c.men_check.ensures)

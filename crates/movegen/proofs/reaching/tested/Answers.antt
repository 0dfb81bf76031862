-- `movegen::reaching::tested` meets its contract: each target that passes is tested on the place after the move.
use Rattle.std.proofs.Common.{rules, not}
use Rattle.rules.specs.Rules.{in_check, moved}
use Rattle.position.specs.Posed.{board_in}
use Rattle.movegen.proofs.reaching.tested.Goals as goal

pub returns : goal.returns
returns c stays =
    let x = c.args in
    c.passing_of.ensures (λ t. not (in_check (moved (board_in x.m x.q) x.from t) x.q.side))
    (λ t h k b post. search (rules, stays, h, post))

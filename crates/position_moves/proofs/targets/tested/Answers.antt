-- `position_moves::targets::tested` meets its contract: each target that passes is tested on the position after the move.
use Rattle.std.proofs.Common.{rules, not}
use Rattle.rules.specs.Rules.{in_check, moved}
use Rattle.position.specs.Keyed.{board_of}
use Rattle.position_moves.proofs.targets.tested.Goals as goal

pub returns : goal.returns
returns c =
    let x = c.args in
    c.passing_of.ensures (λ t. not (in_check (moved (board_of x.p) x.from t) x.p.side)) (λ t h k b post. search (rules, post))

-- `retracting::legal_from` meets its contract: each square that passes is told by the place before.
use Rattle.std.proofs.Common.{rules}
use Rattle.rules.specs.Rules.{legal}
use Rattle.position.specs.Posed.{board_in}
use Rattle.retracting.specs.Retracting.{place_before}
use Rattle.retracting.proofs.places.legal_from.Goals as goal

pub returns : goal.returns
returns c apart =
    let x = c.args in
    c.passing_of.ensures (λ s. legal (board_in x.m (place_before x.q x.taken s x.to)))
    (λ s h k b post. let complete = apart s h k in search (rules, complete, post))

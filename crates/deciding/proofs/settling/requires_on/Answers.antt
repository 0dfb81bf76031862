-- `settling::requires_on` meets its contract: a depth is its byte less 2.
use Rattle.successors.proofs.laws.VerdictLaws.{depth-byte}
use Rattle.deciding.proofs.settling.requires_on.Goals as goal

pub returns-then-k-eq0 : goal.returns-then-k-eq0
returns-then-k-eq0 c = c.requires_depth.ensures

pub returns : goal.returns
returns c =
    let a = c.args in
    λ w. depth-byte _ _ a.k _ (c.requires_byte.ensures w)

-- `successors::sift_king` meets its contract.
use borrow.Author.Rules.{rules}
use Rattle.successors.proofs.laws.KingKeys.{byte_step}
use Rattle.successors.proofs.by_king.sift_king.Goals as goal

pub sift-requires : goal.sift-requires
sift-requires c =
    let s = c.still_king-others.ensures in
    let b = s.base-fits in let u = s.unit-fits in
    search rules

pub returns : goal.returns
returns c =
    λ w e first second. c.sift.ensures _ _ _ _ e
    (λ t r h z p. let f = byte_step c.args.m c.args.q w t z first second c.args.table.now c.still_king-others.result c.other-side.result in
    search (rules, f) parts 8)

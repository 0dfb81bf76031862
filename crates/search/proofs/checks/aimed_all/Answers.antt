-- `search::aimed_all` meets its contract.
use Rattle.board.specs.Sets.{has}
use Rattle.search.proofs.laws.TriedLaws.{aims-all}
use Rattle.search.proofs.checks.aimed_all.Goals as goal

pub returns : goal.returns
returns c =
    let x = c.args in
    λ t h.
    aims-all (has x.occ) x.from x.at t x.s _ _ _ _
    (c.aimed.ensures t h) (c.aimed-2.ensures t h)
    (c.aimed_slot.ensures t h) (c.aimed_slot-2.ensures t h)

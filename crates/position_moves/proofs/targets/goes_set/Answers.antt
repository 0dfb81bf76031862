use Rattle.board.specs.Sets.{has}
use mathlib.Core.Path.{sym, ◌∙◌}
use Rattle.board.proofs.laws.SetLaws.{has-none}
use Rattle.position.proofs.laws.Over.{goes_other, goes-elsewhere, goes-own}
use Rattle.position_moves.proofs.targets.goes_set.Goals as goal

pub returns-then-m-side : goal.returns-then-m-side
returns-then-m-side c =
    let x = c.args in
    λ t h. has-none t ∙ sym (goes_other (has x.occ) x.side x.from t x.m c.if-m-side.true)

pub returns-then-m-from : goal.returns-then-m-from
returns-then-m-from c =
    let x = c.args in
    λ t h. has-none t ∙ sym (goes-elsewhere (has x.occ) x.side x.from t x.m c.if-m-from.true)

pub returns : goal.returns
returns c =
    let x = c.args in
    λ t h. c.goes_to.ensures t h
    ∙ sym (goes-own (has x.occ) x.side x.from t x.m c.if-m-side.false c.if-m-from.false)

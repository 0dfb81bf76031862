-- `moves::legal_targets` meets its contract: each return is one of the ways of `Targets`.
use Rattle.movegen.proofs.laws.Targets.{by-making, by-attacked, by-freedom}
use mathlib.Core.Path.{sym, ◌∙◌}
use Rattle.position_moves.proofs.targets.legal_targets.Goals as goal

pub returns-then-has : goal.returns-then-has
returns-then-has c =
    let x = c.args in
    by-making x.p x.from _ _ _ _ c.occupied-occ.ensures c.goes_over.ensures
    c.own.ensures c.minus-free.ensures
    _ c.tested.type_inv c.tested.ensures

pub returns-then-king-from : goal.returns-then-king-from
returns-then-king-from c =
    let x = c.args in
    by-attacked x.p x.from _ _ _ _ c.occupied-occ.ensures c.goes_over.ensures
    c.own.ensures c.minus-free.ensures
    _ _ _ c.other-foe.ensures c.own-2.ensures
    (sym c.has.ensures ∙ c.if-has.false)
    c.without-rest.ensures
    _ _ _ c.king_square-king.ensures c.if-king-from.true
    c.attack_set.ensures c.minus.ensures

pub returns-then-attacked_over : goal.returns-then-attacked_over
returns-then-attacked_over c =
    let x = c.args in
    by-making x.p x.from _ _ _ _ c.occupied-occ.ensures c.goes_over.ensures
    c.own.ensures c.minus-free.ensures
    _ c.tested-then-attacked_over.type_inv c.tested-then-attacked_over.ensures

pub returns : goal.returns
returns c =
    let x = c.args in
    by-freedom x.p x.from _ _ _ _ c.occupied-occ.ensures c.goes_over.ensures
    c.own.ensures c.minus-free.ensures
    _ _ _ c.other-foe.ensures c.own-2.ensures
    (sym c.has.ensures ∙ c.if-has.false)
    c.without-rest.ensures
    _ c.king_square-king.ensures c.if-king-from.false
    (sym c.attacked_over.ensures ∙ c.if-attacked_over.false) c.minus-free.type_inv

-- `retracting::unchecking` meets its contract.
use Rattle.board.specs.Sets.{has}
use Rattle.retracting.proofs.laws.Code.{apart-there, unstruck, struck-first, struck-second, still-strikes, none-strikes}
use Rattle.retracting.proofs.places.unchecking.Goals as goal

pub returns-then-strikes : goal.returns-then-strikes
returns-then-strikes c =
    λ g s em lost st.
    let x = c.args in
    struck-first x.m x.q x.taken x.kind x.owner x.to g s x.occ x.squares st em lost _ _
    c.king_at-king.ensures c.stood_before-stood.ensures _ c.still-first.ensures _ c.strikes.ensures c.if-strikes.true _
    (c.legal_between.ensures (apart-there x.m x.q x.taken x.kind x.owner x.to g s x.occ x.squares st))

pub returns-then-strikes-2 : goal.returns-then-strikes-2
returns-then-strikes-2 c =
    λ g s em lost st.
    let x = c.args in
    struck-second x.m x.q x.taken x.kind x.owner x.to g s x.occ x.squares st em lost _ _
    c.king_at-king.ensures c.stood_before-stood.ensures _ c.still-second.ensures _ c.strikes-2.ensures c.if-strikes-2.true _
    (c.legal_between-then-strikes-2.ensures (apart-there x.m x.q x.taken x.kind x.owner x.to g s x.occ x.squares st))

pub returns : goal.returns
returns c =
    λ g s em lost st.
    let x = c.args in
    unstruck x.m x.q x.taken x.kind x.owner x.to g s x.occ x.squares st em lost _ _
    c.king_at-king.ensures c.stood_before-stood.ensures
    (none-strikes x.m x.q (has c.stood_before-stood.result) x.owner x.to c.king_at-king.result _ _
    (still-strikes (has c.stood_before-stood.result) x.owner x.to c.king_at-king.result 0 x.m.first x.q.first _ _
    c.still-first.ensures c.strikes.ensures)
    c.if-strikes.false
    (still-strikes (has c.stood_before-stood.result) x.owner x.to c.king_at-king.result x.m.colour x.m.second x.q.second _ _
    c.still-second.ensures c.strikes-2.ensures)
    c.if-strikes-2.false)
    _ _ c.targets.ensures c.minus.ensures

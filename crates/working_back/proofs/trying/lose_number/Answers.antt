-- `working_back::lose_number` meets its contract.
use Rattle.retracting.specs.Retracting.{place_before}
use Rattle.working_back.proofs.laws.Places.{tried-out, tried_other}
use Rattle.working_back.proofs.laws.Sparing.{found-spares, unsettled-none}
use Rattle.working_back.proofs.trying.lose_number.Goals as goal

pub returns-then-table-n : goal.returns-then-table-n
returns-then-table-n c =
    let x = c.args in
    let p = c.requires in (
      tried-out x.m (place_before x.q x.taken x.s x.to) x.q x.first.now x.second.now x.k _ p.2 x.n p.8 c.if-table-n.true,
      unsettled-none x.m x.first.now x.second.now x.k x.q x.taken x.to _,
    )

pub returns-then-table-n-ne1 : goal.returns-then-table-n-ne1
returns-then-table-n-ne1 c =
    let x = c.args in
    let p = c.requires in (
      tried_other x.m (place_before x.q x.taken x.s x.to) x.q x.first.now x.second.now x.k _ p.2 x.n p.8 c.if-table-n-ne1.true,
      unsettled-none x.m x.first.now x.second.now x.k x.q x.taken x.to _,
    )

pub find_saviour-found-requires : goal.find_saviour-found-requires
find_saviour-found-requires c = c.requires.6.bounded

pub returns-then-t-lt64 : goal.returns-then-t-lt64
returns-then-t-lt64 c =
    let x = c.args in
    let p = c.requires in
    found-spares x.m x.q x.taken x.kind x.to p.4 p.5 x.ground p.7 x.first.now x.second.now x.k p.0 x.table.now p.2
    x.s p.3 x.after p.6 _ _ c.targets.ensures c.minus-goals.ensures _ c.place_before-o.ensures _
    c.if-t-lt64.true (c.find_saviour-found.ensures c.if-t-lt64.true) _ c.targets-then-t-lt64.ensures

pub confirm-settled-requires : goal.confirm-settled-requires
confirm-settled-requires c =
    let p = c.requires in
    (p.1, p.2, p.3, p.8, c.if-table-n.false, c.if-table-n-ne1.false)

pub returns : goal.returns
returns c =
    let x = c.args in
    (c.confirm-settled.ensures, unsettled-none x.m x.first.now x.second.now x.k x.q x.taken x.to _)

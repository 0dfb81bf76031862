-- `working_back::win_number` meets its contract.
use Rattle.retracting.specs.Retracting.{place_before}
use Rattle.working_back.proofs.laws.Numbers.{number-inside}
use Rattle.working_back.proofs.laws.Places.{tried_other, tried-odd}
use Rattle.working_back.proofs.winning.win_number.Goals as goal

pub bounds-table-n : goal.bounds-table-n
bounds-table-n c =
    let x = c.args in
    let p = c.requires in
    number-inside x.m (place_before x.q x.taken x.s x.to) p.3.complete x.first.now x.second.now _ p.2 x.n p.4

pub returns-then-table-n-ne1 : goal.returns-then-table-n-ne1
returns-then-table-n-ne1 c =
    let x = c.args in
    let p = c.requires in
    tried_other x.m (place_before x.q x.taken x.s x.to) x.q x.first.now x.second.now x.k _ p.2 x.n p.4 c.if-table-n-ne1.true

pub bounds-table-n-2 : goal.bounds-table-n-2
bounds-table-n-2 c =
    let x = c.args in
    let p = c.requires in
    number-inside x.m (place_before x.q x.taken x.s x.to) p.3.complete x.first.now x.second.now _ p.2 x.n p.4

pub returns : goal.returns
returns c =
    let x = c.args in
    let p = c.requires in
    let o = place_before x.q x.taken x.s x.to in
    tried-odd x.m o x.q x.first.now x.second.now x.k _ p.2 x.n p.4
    (number-inside x.m o p.3.complete x.first.now x.second.now _ p.2 x.n p.4) c.if-table-n-ne1.false p.3.complete x.s x.to p.3.legally p.1

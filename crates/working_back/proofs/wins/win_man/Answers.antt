-- `working_back::win_man` meets its contract.
use Rattle.working_back.proofs.laws.Into.{man-seat, man-none, man-moved, tries-at}
use Rattle.working_back.proofs.wins.win_man.Goals as goal

pub returns-then-owner-q : goal.returns-then-owner-q
returns-then-owner-q c =
    let p = c.requires in
    let x = c.args in
    let s = man-seat x.m x.q x.taken p.3 x.latter _ _ _ c.again-kind.ensures c.again-owner.ensures c.again-to.ensures in
    man-none x.m x.q x.taken p.3 x.first.now x.second.now x.k _ p.2 _ _ _ _ s.0 c.again-to.ensures c.if-owner-q.true

pub line_of-line-requires : goal.line_of-line-requires
line_of-line-requires c =
    let p = c.requires in
    let x = c.args in
    let s = man-seat x.m x.q x.taken p.3 x.latter _ _ _ c.again-kind.ensures c.again-owner.ensures c.again-to.ensures in
    (p.3, s.1)

pub win_each-requires : goal.win_each-requires
win_each-requires c =
    let p = c.requires in
    let x = c.args in
    let s = man-seat x.m x.q x.taken p.3 x.latter _ _ _ c.again-kind.ensures c.again-owner.ensures c.again-to.ensures in
    let v = man-moved x.m x.q x.taken p.3 x.first.now x.second.now x.k _ p.2 _ _ _ s.0 c.if-owner-q.false in
    (p.0, p.1, p.2, c.steps_back-squares.ensures p.4 p.3 v, c.line_of-line.ensures.0 p.5)

pub returns : goal.returns
returns c =
    let p = c.requires in
    let x = c.args in
    tries-at x.m x.q x.taken p.3 x.first.now x.second.now x.k _ p.2 _ _ _ _ c.again-to.ensures
    c.win_each.ensures

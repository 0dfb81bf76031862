-- `working_back::lose_man` meets its contract.
use mathlib.Core.Path.{ap, ◌∙◌}
use Prim.Native.Nat.{ℕ}
use Rattle.board.specs.Sets.{members}
use Rattle.board.proofs.laws.SetLaws.{members-none}
use Rattle.successors.specs.Framing.{frame_for}
use Rattle.working_back.proofs.laws.Sources.{taken_start, taken-end}
use Rattle.working_back.proofs.laws.Into.{man-seat, man-none, man-moved, tries-at}
use Rattle.working_back.proofs.losses.lose_man.Goals as goal

pub returns-then-owner-q : goal.returns-then-owner-q
returns-then-owner-q c =
    let p = c.requires in
    let x = c.args in
    let s = man-seat x.m x.q x.taken p.3 x.latter _ _ _ c.again-kind.ensures c.again-owner.ensures c.again-to.ensures in
    man-none x.m x.q x.taken p.3 x.first.now x.second.now x.k _ p.2 _ _ _ _ s.0 c.again-to.ensures c.if-owner-q.true

pub returns-then-squares-eq0 : goal.returns-then-squares-eq0
returns-then-squares-eq0 c =
    let p = c.requires in
    let x = c.args in
    let s = man-seat x.m x.q x.taken p.3 x.latter _ _ _ c.again-kind.ensures c.again-owner.ensures c.again-to.ensures in
    let r = c.sources-squares.result in
    tries-at x.m x.q x.taken p.3 x.first.now x.second.now x.k _ p.2 _ _ _ _ c.again-to.ensures
    (taken-end x.m x.first.now x.second.now x.k x.q x.taken _ _ p.2 r _ r 0 (ap members c.if-squares-eq0.true ∙ members-none)
    (taken_start x.m x.first.now x.second.now x.k x.q x.taken _ _ p.2 r) (c.sources-squares.ensures p.3 s.0).all)

pub line_of-line-requires : goal.line_of-line-requires
line_of-line-requires c =
    let p = c.requires in
    let x = c.args in
    let s = man-seat x.m x.q x.taken p.3 x.latter _ _ _ c.again-kind.ensures c.again-owner.ensures c.again-to.ensures in
    (p.3, s.1)

pub line_of-line_after-requires : goal.line_of-line_after-requires
line_of-line_after-requires c =
    let p = c.requires in
    let x = c.args in
    let s = man-seat x.m x.q x.taken p.3 x.latter _ _ _ c.again-kind.ensures c.again-owner.ensures c.again-to.ensures in
    (p.3, s.1)

pub lose_each-requires : goal.lose_each-requires
lose_each-requires c =
    let p = c.requires in
    let x = c.args in
    let s = man-seat x.m x.q x.taken p.3 x.latter _ _ _ c.again-kind.ensures c.again-owner.ensures c.again-to.ensures in
    let v = man-moved x.m x.q x.taken p.3 x.first.now x.second.now x.k _ p.2 _ _ _ s.0 c.if-owner-q.false in
    let side = ap (λ (z : ℕ). frame_for z x.q.white x.q.black) c.other.ensures in (
      p.0,
      p.1,
      p.2,
      c.sources-squares.ensures p.3 s.0,
      p.3,
      v,
      c.line_of-line.ensures.0 (c.frame_for-before.ensures p.3.white p.3.black ∙ side),
      c.line_of-line_after.ensures.1 (c.frame_for-after.ensures p.3.white p.3.black),
    )

pub returns : goal.returns
returns c =
    let p = c.requires in
    let x = c.args in
    tries-at x.m x.q x.taken p.3 x.first.now x.second.now x.k _ p.2 _ _ _ _ c.again-to.ensures
    c.lose_each.ensures

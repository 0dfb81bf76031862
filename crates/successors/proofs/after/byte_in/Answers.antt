-- `successors::byte_in` meets its contract: the first man taken, the second taken, or all there.
use native.Mathlib.Omega.{arith}
use Rattle.successors.proofs.laws.ByteLaws.{own-seated, byte-own, byte-first, lone-facts, there-all}
use Rattle.successors.proofs.after.byte_in.Goals as goal

pub returns-then-q-ge64 : goal.returns-then-q-ge64
returns-then-q-ge64 c = λ w. c.byte_of_second.ensures w c.if-q-ge64.true _

pub returns-then-m-q : goal.returns-then-m-q
returns-then-m-q c =
    let f = lone-facts _ _ c.if-m-q.true in
    λ w. byte-first _ _ w _ _ _ c.if-q-ge64.false f.1 f.0 _ _
    (c.number_alone.ensures _ (omega arith) w.side w.white w.black c.if-q-ge64.false)
    c.read.ensures

pub returns : goal.returns
returns c =
    let x = c.args in
    λ w. let a = there-all x.m x.q c.if-q-ge64.false c.if-m-q.false in
    byte-own _ _ w _ _ _ a _ _ (c.number_at.ensures (own-seated _ _ w a)) c.read-2.ensures

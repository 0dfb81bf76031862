-- `successors::byte_of_second` meets its contract: bare kings, the table lent for both, or the second.
use Rattle.successors.proofs.laws.ByteLaws.{byte-bare, byte-like, byte-second}
use Rattle.successors.proofs.after.byte_of_second.Goals as goal

pub returns-then-q-ge64 : goal.returns-then-q-ge64
returns-then-q-ge64 c = λ w h table. byte-bare _ _ w _ _ table h c.if-q-ge64.true

pub returns-then-m : goal.returns-then-m
returns-then-m c =
    λ w h table. byte-like _ _ w _ _ table h c.if-q-ge64.false c.if-m.true _ _
    (c.number_alone-n.ensures _ w.colour w.side w.white w.black c.if-q-ge64.false) c.read.ensures

pub returns : goal.returns
returns c =
    λ w h table. byte-second _ _ w _ _ table h c.if-q-ge64.false c.if-m.false _ _
    (c.number_alone-n.ensures _ w.colour w.side w.white w.black c.if-q-ge64.false) c.read-2.ensures

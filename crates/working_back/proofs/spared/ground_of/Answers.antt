-- `working_back::ground_of` meets its contract.
use Rattle.working_back.proofs.laws.Sparing.{grounds-man, grounds-king}
use Rattle.working_back.proofs.spared.ground_of.Goals as goal

pub returns-then-kind-ne-KING : goal.returns-then-kind-ne-KING
returns-then-kind-ne-KING c =
    λ m.
    let x = c.args in
    grounds-man m x.q x.taken x.kind x.to _ _ _ (c.occupied_at.ensures m) c.stood_before-stood.ensures c.with-shut.ensures
    c.if-kind-ne-KING.true

pub returns : goal.returns
returns c =
    λ m.
    let x = c.args in
    grounds-king m x.q x.taken x.kind x.to _ _ _ (c.occupied_at.ensures m) c.stood_before-stood.ensures c.with-shut.ensures _ _
    c.king_at.ensures c.targets-near.ensures

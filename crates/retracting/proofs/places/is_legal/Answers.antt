-- `retracting::is_legal` meets its contract.
use Rattle.retracting.proofs.laws.Code.{kings-near, kings-far}
use Rattle.retracting.proofs.places.is_legal.Goals as goal

pub returns-then-attacks : goal.returns-then-attacks
returns-then-attacks c = λ a. kings-near c.args.m c.args.q _ c.attacks.ensures c.if-attacks.true

pub returns : goal.returns
returns c =
    λ a.
    kings-far c.args.m c.args.q _
    c.attacks.ensures c.if-attacks.false a _ c.other.ensures _
    c.checked.ensures

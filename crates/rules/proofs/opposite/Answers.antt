use Rattle.std.proofs.Common.{◌≡◌, refl, ℕ, zero, suc, ◌≤◌, arith}
use Rattle.rules.specs.Changed.{other}
use Rattle.rules.proofs.opposite.Goals as goal

stays : (c : ℕ) → 2 ≤ c → c ≡ other c
unfolding other
stays zero h = absurd (omega arith)
stays (suc zero) h = absurd (omega arith)
stays (suc (suc n)) h = refl

pub returns-in-0 : goal.returns-in-0
unfolding other
returns-in-0 c = rw c.in-0.is refl

pub returns-in-1 : goal.returns-in-1
unfolding other
returns-in-1 c = rw c.in-1.is refl

pub returns-in_default : goal.returns-in_default
returns-in_default c = stays c.args.colour (omega arith)

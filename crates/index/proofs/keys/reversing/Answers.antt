-- `index::keys::reversing` meets its contract.
use native.Mathlib.Omega.{arith}
use Rattle.index.proofs.laws.KeyLaws.{flip-bits}
use Rattle.index.proofs.keys.reversing.Goals as goal

pub returns : goal.returns
returns c = (λ h. flip-bits _ h, omega arith)

-- `pocket::word` meets its contract.
use native.Mathlib.Omega.{arith}
use Rattle.pocket.proofs.laws.WordLaws.{eight_bytes}
use Rattle.pocket.proofs.counter.word.Goals as goal

pub returns : goal.returns
returns c = eight_bytes c.args.pocket.now _ _ (λ k. omega (arith, c.type_inv.pocket k)) c.from_le_bytes.ensures

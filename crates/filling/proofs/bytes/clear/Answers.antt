-- `filling::clear` meets its contract.
use Rattle.std.proofs.Common.{rules}
use Rattle.finite.specs.Mapped.{mapped}
use Rattle.filling.proofs.bytes.clear.Goals as goal

pub returns : goal.returns
returns c = mapped _ _ _ c.fill.ensures.len (λ n h. search rules)

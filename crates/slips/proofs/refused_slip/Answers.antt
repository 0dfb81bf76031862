-- `slips::refused_slip` meets its contract.
use Rattle.slips.specs.Slip.{refused_slip}
use Rattle.slips.proofs.laws.Padding.{finished}
use Rattle.slips.proofs.laws.Lengths.{refused-line}
use borrow.Author.Rules.{rules}
use Rattle.slips.proofs.refused_slip.Goals as goal

pub returns : goal.returns
unfolding refused_slip
returns c =
    finished _ _ _ c.number_slip.ensures c.with_byte.ensures
    (refused-line c.args.n).most

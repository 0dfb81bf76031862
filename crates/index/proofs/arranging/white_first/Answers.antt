-- `index::arranging::white_first` meets its contract.
use Rattle.index.specs.Arranging.{white_first}
use Rattle.index.proofs.arranging.white_first.Goals as goal

pub returns : goal.returns
unfolding white_first
returns c =
    rw (
      c.either-4.ensures,
      c.either-3.ensures,
      c.either-2.ensures,
      c.other-2.ensures,
      c.either.ensures,
      c.other.ensures,
    )

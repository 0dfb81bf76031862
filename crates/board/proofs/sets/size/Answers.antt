use Rattle.board.proofs.laws.LowestLaws.{ones-members}
use Rattle.board.proofs.sets.size.Goals as goal

pub returns : goal.returns
returns c = ones-members c.args.set c.ranges.set.fits

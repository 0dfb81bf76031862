use native.Mathlib.Nat.{lt_of_le_of_lt}
use lib.Count.{trailing_le}
use lib.Dec.{lit<}
use Rattle.board.proofs.laws.LowestLaws.{trailing-lowest}
use Rattle.board.proofs.sets.lowest.Goals as goal

pub overflow_cast-result : goal.overflow_cast-result
overflow_cast-result c = record { fits = lt_of_le_of_lt (trailing_le 64 _) (lit< tt) }

pub returns : goal.returns
returns c = trailing-lowest c.args.set c.ranges.set.fits

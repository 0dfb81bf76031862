-- `fifty::is_pawnless` meets its contract.
use borrow.Author.Rules.{rules}
use Rattle.fifty.proofs.laws.Pawnless.{free-by-slots}
use Rattle.fifty.proofs.is_pawnless.Goals as goal

pub returns : goal.returns
returns c = rw (c.is_free.ensures, c.is_free-2.ensures) (free-by-slots c.args.p)

-- `fifty::at_count` meets its contract: each return by the tests that led there.
use borrow.Author.Rules.{rules}
use Rattle.fifty.proofs.laws.MarkLaws.{kept-refused, refused-19, kept-counted}
use Rattle.fifty.proofs.at_count.Goals as goal

pub returns-then-is_refused : goal.returns-then-is_refused
returns-then-is_refused c = kept-refused _ _ _ c.is_refused.ensures c.if-is_refused.true

pub returns-then-plies-gt99 : goal.returns-then-plies-gt99
returns-then-plies-gt99 c = refused-19 _ _ _ c.is_refused.ensures c.if-is_refused.false c.if-plies-gt99.true

pub returns : goal.returns
returns c = kept-counted _ _ _ c.is_refused.ensures c.if-is_refused.false c.if-plies-gt99.false

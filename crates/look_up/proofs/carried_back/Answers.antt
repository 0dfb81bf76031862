-- `look_up::carried_back` meets its contract: both squares of the move are carried back.
use borrow.Author.Rules.{rules}
use Rattle.look_up.proofs.laws.Laws.{back-on-the-board}
use Rattle.look_up.proofs.carried_back.Goals as goal

pub returns-in-Some : goal.returns-in-Some
returns-in-Some c =
    back-on-the-board _ _ _ _ _ _ c.in-Some.is
    c.back.ensures c.back-in-Some.ensures c.promotion_of.ensures

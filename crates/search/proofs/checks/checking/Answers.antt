-- `search::checking` meets its contract.
use Rattle.search.proofs.laws.CheckLaws.{all-checks, aimed-checks}
use Rattle.search.proofs.checks.checking.Goals as goal

pub returns-then-king-from : goal.returns-then-king-from
returns-then-king-from c none = all-checks _ _

pub returns-then-attacked_over : goal.returns-then-attacked_over
returns-then-attacked_over c none = all-checks _ _

pub returns : goal.returns
returns c none =
    aimed-checks _ _ _ _ _ _ _ c.other-foe.ensures c.king_square-king.ensures c.other.ensures
    c.occupied.ensures c.without-rest.ensures none c.if-king-from.false _ c.attacked_over.ensures
    c.if-attacked_over.false _ c.aimed_all.ensures

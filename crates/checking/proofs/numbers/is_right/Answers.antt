-- `checking::is_right` meets its contract: a legal position's byte by its successors, any other 0.
use Rattle.checking.proofs.laws.Laws.{legal-there, none-there, zero_right, position-right}
use Rattle.checking.proofs.numbers.is_right.Goals as goal

pub returns-in-Some : goal.returns-in-Some
returns-in-Some c =
    let x = c.requires in
    let s = legal-there _ _ _ _ _ x c.legal_in-standing.ensures
    c.in-Some.is in
    position-right _ _ _ _ _ _ _ s.2 s.0 (c.requires_byte.ensures s.1)

pub returns-in-None : goal.returns-in-None
returns-in-None c =
    let x = c.requires in
    zero_right _ _ _ _ _ (none-there _ _ _ _ x c.legal_in-standing.ensures c.in-None.is)

-- `filling::settles_on` meets its contract: king and pawn by the number, pieces by the place.
use mathlib.Core.Path.{sym, ◌∙◌}
use native.Mathlib.Omega.{arith}
use Rattle.index.proofs.laws.PlaceLaws.{used-not}
use Rattle.index.proofs.laws.CompleteLaws.{shared-complete}
use Rattle.deciding.proofs.laws.PawnLaws.{given-known}
use Rattle.deciding.proofs.laws.SettlingLaws.{unused-required, not-required, legal-required}
use Rattle.working_back.proofs.laws.Admitted.{in_size, small-number}
use Rattle.filling.proofs.laws.Code.{verdict-required}
use Rattle.filling.proofs.turns.settles_on.Goals as goal

pub overflow_cast-n : goal.overflow_cast-n
overflow_cast-n c = let p = c.requires in omega (arith, small-number _ _ _ _ p.1 _ p.0)

pub returns-then-m-eq-PAWN : goal.returns-then-m-eq-PAWN
returns-then-m-eq-PAWN c =
    let a = c.args in
    let p = c.requires in
    verdict-required a.m a.first.now a.second.now a.table.now a.k a.n p.2 _
    (c.requires_at.ensures p.1.ending p.1.colour (in_size _ _ _ _ p.1 _ p.0))

pub returns-then-shares : goal.returns-then-shares
returns-then-shares c =
    let a = c.args in
    let p = c.requires in
    let w = given-known a.m p.1.ending c.if-m-eq-PAWN.false in
    verdict-required a.m a.first.now a.second.now a.table.now a.k a.n p.2 _
    (unused-required a.m a.first.now a.second.now a.table.now a.k a.n w
    (used-not _ _ _ (p.3 w) (sym c.shares.ensures ∙ c.if-shares.true)))

pub returns-then-not-requires_on : goal.returns-then-not-requires_on
returns-then-not-requires_on c =
    let a = c.args in
    let p = c.requires in
    let w = given-known a.m p.1.ending c.if-m-eq-PAWN.false in
    let full = shared-complete _ _ _ (p.3 w) (sym c.shares.ensures ∙ c.if-shares.false) in
    verdict-required a.m a.first.now a.second.now a.table.now a.k a.n p.2 _
    (not-required a.m a.first.now a.second.now a.table.now a.k a.n w _ (p.3 w).board _
    (c.requires_on.ensures full) c.if-not-requires_on.true)

pub overflow_cast-n-2 : goal.overflow_cast-n-2
overflow_cast-n-2 c = let p = c.requires in omega (arith, small-number _ _ _ _ p.1 _ p.0)

pub returns : goal.returns
returns c =
    let a = c.args in
    let p = c.requires in
    let w = given-known a.m p.1.ending c.if-m-eq-PAWN.false in
    let full = shared-complete _ _ _ (p.3 w) (sym c.shares.ensures ∙ c.if-shares.false) in
    verdict-required a.m a.first.now a.second.now a.table.now a.k a.n p.2 _
    (legal-required a.m a.first.now a.second.now a.table.now a.k a.n w _ (p.3 w).board _
    (c.requires_on.ensures full) c.if-not-requires_on.false _
    (c.is_legal_on.ensures (p.3 w)))

-- `settling::pawn_at` meets its contract, by what stands at the number.
use Rattle.deciding.proofs.laws.StandingLaws.{told-legal, told-nothing}
use Rattle.deciding.proofs.laws.SettlingLaws.{none-required, there-required}
use Rattle.deciding.proofs.settling.pawn_at.Goals as goal

pub returns-in-Some : goal.returns-in-Some
returns-in-Some c =
    let a = c.args in
    λ g l h. let w = told-legal c.args.m c.args.n _ _ c.in-Some.is (c.legal_at-standing.ensures g l h) in
    there-required a.m a.first.now a.second.now a.table.now a.k a.n _ w.0 w.2 _ (c.requires_depth.ensures w.1)

pub returns-in-None : goal.returns-in-None
returns-in-None c =
    let a = c.args in
    λ g l h. none-required a.m a.first.now a.second.now a.table.now a.k a.n (told-nothing c.args.m c.args.n _ c.in-None.is (c.legal_at-standing.ensures g l h))

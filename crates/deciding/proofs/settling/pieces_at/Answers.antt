-- `settling::pieces_at` meets its contract.
use mathlib.Core.Path.{sym, ◌∙◌}
use Rattle.index.proofs.laws.PlaceLaws.{used-not}
use Rattle.index.proofs.laws.CompleteLaws.{shared-complete}
use Rattle.deciding.proofs.laws.SettlingLaws.{unused-required, not-required, legal-required}
use Rattle.deciding.proofs.settling.pieces_at.Goals as goal

pub returns-then-shares : goal.returns-then-shares
returns-then-shares c =
    let a = c.args in
    λ w l h. unused-required a.m a.first.now a.second.now a.table.now a.k a.n w
    (used-not _ _ _ (c.place_at-q.ensures w l h) (sym c.shares.ensures ∙ c.if-shares.true))

pub returns-then-not-requires_on : goal.returns-then-not-requires_on
returns-then-not-requires_on c =
    let a = c.args in
    λ w l h. let at = c.place_at-q.ensures w l h in
    let full = shared-complete _ _ _ at (sym c.shares.ensures ∙ c.if-shares.false) in
    not-required a.m a.first.now a.second.now a.table.now a.k a.n w _ at.board _ (c.requires_on.ensures full) c.if-not-requires_on.true

pub returns : goal.returns
returns c =
    let a = c.args in
    λ w l h. let at = c.place_at-q.ensures w l h in
    let full = shared-complete _ _ _ at (sym c.shares.ensures ∙ c.if-shares.false) in
    legal-required a.m a.first.now a.second.now a.table.now a.k a.n w _ at.board _ (c.requires_on.ensures full) c.if-not-requires_on.false _
    (c.is_legal_number.ensures w l h)

-- `numbers::is_legal_on` meets its contract: not used, in check, or legal.
use mathlib.Core.Path.{sym, ◌∙◌}
use Rattle.finite.specs.Truth.{of-true}
use Rattle.index.proofs.laws.CompleteLaws.{used-complete}
use Rattle.successors.proofs.laws.NumberLaws.{found-unused, found-illegal, found-legal, checked-other}
use Rattle.deciding.proofs.laws.StandingLaws.{not-checked}
use Rattle.deciding.proofs.numbers.is_legal_on.Goals as goal

pub returns-then-not-is_used : goal.returns-then-not-is_used
returns-then-not-is_used c =
    λ s. sym (found-unused _ _ _ s.seated.ending s.board (sym (c.is_used.ensures s) ∙ c.if-not-is_used.true))

pub returns : goal.returns
returns c =
    λ s. let u = sym (c.is_used.ensures s) ∙ c.if-not-is_used.false in
    let w = used-complete _ _ _ s (of-true u) in
    let f = c.other.ensures in
    let k = s.seated.ending in
    not-checked _ _ (λ e. found-illegal _ _ _ k s.board u w (checked-other _ _ _ _ _ f (c.checked.ensures w) e))
    (λ e. (found-legal _ _ _ k s.board u w (checked-other _ _ _ _ _ f (c.checked.ensures w) e)).0)

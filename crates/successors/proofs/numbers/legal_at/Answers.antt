-- `successors::legal_at` meets its contract: not used, in check, or legal.
use mathlib.Core.Path.{sym, ◌∙◌}
use Rattle.finite.specs.Truth.{of-true}
use Rattle.index.proofs.laws.CompleteLaws.{used-complete}
use Rattle.successors.proofs.laws.NumberLaws.{found-unused, found-illegal, found-legal, checked-other}
use Rattle.successors.proofs.numbers.legal_at.Goals as goal

pub returns-then-not-is_used : goal.returns-then-not-is_used
returns-then-not-is_used c =
    λ k l h. let s = c.place_at-q.ensures k l h in
    found-unused _ _ _ k s.board (sym (c.is_used.ensures s) ∙ c.if-not-is_used.true)

pub returns-then-checked : goal.returns-then-checked
returns-then-checked c =
    λ k l h. let s = c.place_at-q.ensures k l h in
    let u = sym (c.is_used.ensures s) ∙ c.if-not-is_used.false in
    let w = used-complete _ _ _ s (of-true u) in
    found-illegal _ _ _ k s.board u w
    (checked-other _ _ _ _ _ c.other.ensures (c.checked.ensures w) c.if-checked.true)

pub returns : goal.returns
returns c =
    λ k l h. let s = c.place_at-q.ensures k l h in
    let u = sym (c.is_used.ensures s) ∙ c.if-not-is_used.false in
    let w = used-complete _ _ _ s (of-true u) in
    found-legal _ _ _ k s.board u w
    (checked-other _ _ _ _ _ c.other.ensures (c.checked.ensures w) c.if-checked.false)

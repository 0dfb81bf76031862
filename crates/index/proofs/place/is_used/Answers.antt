-- `index::place::is_used` meets its contract.
use mathlib.Core.Path.{sym, ◌∙◌}
use Rattle.index.proofs.laws.PlaceLaws.{used-not, used-is}
use Rattle.index.proofs.place.is_used.Goals as goal

pub returns-then-shares : goal.returns-then-shares
returns-then-shares c = λ s. used-not _ _ _ s (sym c.shares.ensures ∙ c.if-shares.true)

pub returns : goal.returns
returns c =
    λ s.
    rw (c.number_at.ensures s.seated) (used-is _ _ _ s (sym c.shares.ensures ∙ c.if-shares.false))

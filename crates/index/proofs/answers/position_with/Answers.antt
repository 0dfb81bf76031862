-- `index::answers::position_with` meets its contract: each return by the tests that led there.
use mathlib.Core.Path.{sym, ◌∙◌}
use Rattle.index.proofs.laws.WithLaws.{with-unknown, with-above, with-found}
use Rattle.index.proofs.answers.position_with.Goals as goal

pub returns-then-not-is_given : goal.returns-then-not-is_given
returns-then-not-is_given c = with-unknown _ _ (sym c.is_given.ensures ∙ c.if-not-is_given.true)

pub returns-then-size_of-n : goal.returns-then-size_of-n
returns-then-size_of-n c =
    with-above _ _ (sym c.is_given.ensures ∙ c.if-not-is_given.false)
    (rw (← c.size_of.ensures) c.if-size_of-n.true)

pub returns : goal.returns
returns c =
    with-found _ _ c.men_of.result (sym c.is_given.ensures ∙ c.if-not-is_given.false) _ c.size_of.ensures
    c.if-size_of-n.false c.men_of.ensures _ c.found_at.ensures

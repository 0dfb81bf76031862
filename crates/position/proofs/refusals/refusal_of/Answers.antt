-- `position::refusal_of` meets its contract: each return by the test that led there.
use mathlib.Core.Path.{sym, ◌∙◌}
use Rattle.position.proofs.refusals.refusal_of.Goals as goal

pub returns-then-is_bad : goal.returns-then-is_bad
returns-then-is_bad c = sym (rw c.if-is_bad.true)

pub returns-then-not-is_refused : goal.returns-then-not-is_refused
returns-then-not-is_refused c = sym (rw c.if-is_bad.false (c.is_refused.ensures c.if-not-is_refused.true))

pub returns : goal.returns
returns c = c.later_refusal.ensures ∙ sym (rw c.if-is_bad.false)

-- `index::keys::key_at` meets its contract.
use mathlib.Core.Path.{sym, ◌∙◌}
use borrow.Author.Tests.{le-leb, lt-leb}
use Rattle.index.specs.Seats.{key_at}
use Rattle.index.proofs.keys.key_at.Goals as goal

pub returns-then-q-ge64 : goal.returns-then-q-ge64
unfolding key_at
returns-then-q-ge64 c = (c.packed.ensures.0 ∙ sym (rw (le-leb _ _ c.if-q-ge64.true)), c.packed.ensures.1)

pub returns : goal.returns
unfolding key_at
returns c = (c.packed-2.ensures.0 ∙ sym (rw (lt-leb _ _ c.if-q-ge64.false)), c.packed-2.ensures.1)

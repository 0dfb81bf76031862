-- `index::least::turned_key` meets its contract.
use mathlib.Core.Path.{sym, ◌∙◌}
use borrow.Author.Tests.{le-leb, lt-leb}
use Rattle.index.specs.Least.{turned_key}
use Rattle.index.proofs.least.turned_key.Goals as goal

pub returns-then-second-ge64 : goal.returns-then-second-ge64
unfolding turned_key
returns-then-second-ge64 c = c.packed.ensures.0 ∙ sym (rw (← c.flip_of-flip.ensures, le-leb _ _ c.if-second-ge64.true))

pub returns : goal.returns
unfolding turned_key
returns c =
    c.packed-2.ensures.0 ∙ sym (rw (← c.flip_of-flip.ensures, lt-leb _ _ c.if-second-ge64.false))

-- `index::least::least_of` meets its contract.
use mathlib.Core.Path.{◌∙◌}
use Rattle.index.proofs.laws.LeastLaws.{least-like, least-unlike}
use Rattle.index.proofs.least.least_of.Goals as goal

pub returns-then-like : goal.returns-then-like
returns-then-like c =
    c.lesser.ensures ∙ rw (c.rising_key.ensures, c.rising_key-then-like.ensures)
    (least-like _ _ _ c.transposed_key-t.ensures c.if-like.true)

pub returns : goal.returns
returns c = c.lesser-2.ensures ∙ least-unlike _ _ _ c.transposed_key-t.ensures c.if-like.false

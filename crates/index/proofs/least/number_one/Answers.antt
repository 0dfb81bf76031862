-- `index::least::number_one` meets its contract.
use mathlib.Core.Path.{refl, ◌∙◌}
use Rattle.index.proofs.laws.CornerLaws.{lone-found}
use Rattle.index.proofs.least.number_one.Goals as goal

pub returns : goal.returns
returns c kind w b x =
    let f = lone-found kind _ _ _ _ w b x _ refl in
    c.number_keyed.ensures _ _ _ 64
    (record { white = w; black = b; first = x; alone = refl; key = c.packed.ensures.0 }) f.0 ∙ f.1

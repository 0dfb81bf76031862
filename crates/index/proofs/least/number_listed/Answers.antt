-- `index::least::number_listed` meets its contract.
use mathlib.Core.Path.{◌∙◌}
use Rattle.pairs.proofs.laws.TableLaws.{lent-pair}
use Rattle.index.proofs.laws.CornerLaws.{number-found, by-pair}
use Rattle.index.proofs.least.number_listed.Goals as goal

pub returns : goal.returns
returns c s =
    let f = number-found _ _ s _ c.least_at-k.ensures in
    by-pair _ _ _ _ _ (c.pair_in-pair.ensures ∙ lent-pair _ _ _ c.pair_list-list.ensures)
    c.number_by.ensures
    ∙ f.1

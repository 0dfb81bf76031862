-- `pocket::number_by_rows` meets its contract: the digits are the key of the normal position.
use mathlib.Core.Path.{ap, ◌∙◌}
use Rattle.position.specs.Maps.{normal_position}
use Rattle.position.proofs.laws.MapLaws.{normal-position}
use Rattle.index.proofs.laws.AnswerLaws.{position-key}
use Rattle.pocket.proofs.rows.number_by_rows.Goals as goal

pub returns : goal.returns
returns c =
    position-key _ _ _ _
    (normal-position _ _ c.normalised-normal.ensures
    ∙ ap normal_position c.white_owned.ensures)
    c.pair_by_row.ensures c.key_of.ensures

-- `movegen::men_check` meets its contract.
use mathlib.Core.Path.{sym, ap₂, ◌∙◌}
use Rattle.board.specs.Sets.{has}
use Rattle.position.specs.Keyed.{board_of}
use Rattle.position.specs.Posed.{posed}
use Rattle.movegen.specs.Places.{men_strike}
use Rattle.movegen.proofs.laws.Struck.{check-men}
use Rattle.movegen.proofs.places.men_check.Goals as goal

pub returns : goal.returns
unfolding board_of posed
returns c =
    let x = c.args in
    λ none apart. c.men_strike.ensures
    ∙ ap₂ (men_strike x.m x.q (has c.occupied_at.result)) c.other.ensures
    c.king_at.ensures
    ∙ sym (check-men x.m x.q none apart x.side _ (c.occupied_at.ensures x.m))

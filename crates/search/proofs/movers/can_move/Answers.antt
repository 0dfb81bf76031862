-- `search::can_move` meets its contract: there is a move exactly where one of the movers has a target.
use Rattle.std.proofs.Common.{◌∙◌, ap, not, eqb, rules, tests}
use Rattle.std.proofs.lemmas.Iterator.Search.{any_from_yields_List}
use Rattle.std.proofs.lemmas.Iterator.Consumers.{YieldsList-from_first}
use Rattle.board.specs.Sets.{members, set_of}
use Rattle.rules.specs.Rules.{can_move}
use Rattle.position.specs.Keyed.{board_of}
use Rattle.search.proofs.laws.MoverLaws.{any-move}
use Rattle.search.proofs.movers.can_move.Goals as goal

pub returns : goal.returns
returns c =
    let b = board_of c.args.s in
    any_from_yields_List (λ from. not (eqb (set_of (can_move b from)) 0)) _ _ c.any.result c.any.ensures.ran
    (YieldsList-from_first (λ x. x) (λ s. members s.left) (members c.movers.result) (ap members c.squares_of.ensures)) (λ x r q k. search (rules, tests))
    ∙ any-move b _ c.movers.ensures

-- `pawn_numbers::is_pawn_used` meets its contract.
use mathlib.Core.Path.{ap, sym, ◌∙◌}
use mathlib.Core.Bool.{not, false}
use Rattle.board.specs.Sets.{has}
use Rattle.board.proofs.laws.ReachLaws.{reaches-has, king-reaches}
use Rattle.pawn_numbers.proofs.laws.PlaceLaws.{separated-is}
use Rattle.pawn_numbers.proofs.numbers.is_pawn_used.Goals as goal

pub returns-then-shared : goal.returns-then-shared
returns-then-shared c = sym (separated-is _ _ _ _ ∙ rw c.if-shared.true)

pub returns : goal.returns
returns c =
    let r = c.targets in
    let touch = c.has.ensures ∙ reaches-has _ _ _ _ r.ensures r.type_inv ∙ king-reaches (has 0) (λ s. false) _ _ in
    sym (separated-is _ _ _ _ ∙ rw c.if-shared.false (ap not (sym touch)))

-- `numbers::legal_of_pawn` meets its contract.
use mathlib.Core.Path.{sym, ◌∙◌}
use Rattle.deciding.proofs.laws.StandingLaws.{pawn-nothing, pawn-standing}
use Rattle.deciding.proofs.numbers.legal_of_pawn.Goals as goal

pub returns-then-not-is_pawn_legal : goal.returns-then-not-is_pawn_legal
returns-then-not-is_pawn_legal c =
    λ m e. pawn-nothing m _ _ e c.pawn_seat-q.ensures (sym c.is_pawn_legal.ensures ∙ c.if-not-is_pawn_legal.true)

pub returns : goal.returns
returns c =
    λ m e. pawn-standing m _ _ e c.pawn_seat-q.ensures (sym c.is_pawn_legal.ensures ∙ c.if-not-is_pawn_legal.false)

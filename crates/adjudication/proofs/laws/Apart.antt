-- A slip tells the true answer: no two legal positions with different true answers have the same slip.
use Rattle.std.specs.Prelude.{◌≡◌, refl, ◌⊎◌, ℕ, ◌≤◌, ◌<◌, T, Some, Result}
use Rattle.std.proofs.Common.{sym, subst, inl, inr, arith}
use Rattle.finite.specs.Truth.{le-or-lt}
use Rattle.finite.specs.Members.{◌∈◌}
use Rattle.theory.specs.Value.{DepthIs}
use Rattle.rules.specs.declared.Move.{Move}
use Rattle.rules.specs.Rules.{Board, legal, moves}
use Rattle.rules.specs.Chess.{chess}
use Rattle.rules.proofs.laws.ChessLaws.{of-moves, plain-move}
use Rattle.answers.specs.declared.Answer.{Answer}
use Rattle.position.specs.declared.Position.{Position}
use Rattle.position.specs.Keyed.{board_of, man_kind}
use Rattle.position.specs.Refusals.{standing_refusal}
use Rattle.position.proofs.laws.Legality.{standing-facts}
use Rattle.endings.specs.FilledTrue.{Shallow}
use Rattle.endings.specs.Truth.{TrueAnswerBy, TrueAnswer}
use Rattle.endings.proofs.laws.Checking.{keyed-lone}
use Rattle.slips.specs.Slip.{slip_of}
use Rattle.slips.specs.Fits.{AdviceFits, AnswerFits}
use Rattle.slips.proofs.laws.Apart.{slips-apart}

-- the squares of a legal move are on the board, and without a pawn it promotes nothing
move-fits : (b : Board) (m : Move) → T (legal b) → m ∈ moves b → AdviceFits (Some m)
move-fits b m l i = let on = (of-moves b m i).1 in (on.from_on, on.to-on, plain-move b m l i)

module _ (p : Position) (z : standing_refusal p ≡ 0) (s : Shallow (man_kind p)) where
  -- no depth is greater than 253
  depth-fits : (n : ℕ) → DepthIs chess n (board_of p) → n < 256
  depth-fits n d = go (le-or-lt n 253)
    where
      go : (n ≤ 253) ⊎ (253 < n) → n < 256
      go (inl h) = omega arith
      go (inr h) = let f = standing-facts p z in absurd (s n h (board_of p, f.1, keyed-lone (man_kind p) p refl z, d))

  true-fits : (a : Result Answer ℕ) → TrueAnswer (board_of p) a → AnswerFits a
  true-fits a (TrueAnswerBy.won n m w f e) =
      subst AnswerFits (sym e) (depth-fits n (DepthIs.win w), move-fits (board_of p) m (standing-facts p z).1 f.legal)
  true-fits a (TrueAnswerBy.lost n m w f e) =
      subst AnswerFits (sym e) (depth-fits n (DepthIs.loss w), move-fits (board_of p) m (standing-facts p z).1 f.legal)
  true-fits a (TrueAnswerBy.mate w o e) = subst AnswerFits (sym e) (omega arith, tt)
  true-fits a (TrueAnswerBy.drawn m w f e) = subst AnswerFits (sym e) (move-fits (board_of p) m (standing-facts p z).1 f.legal)
  true-fits a (TrueAnswerBy.stalemate w o e) = subst AnswerFits (sym e) tt

pub one-answer-a-slip : (p q : Position) (a c : Result Answer ℕ) → standing_refusal p ≡ 0 → Shallow (man_kind p)
    → TrueAnswer (board_of p) a
    → standing_refusal q ≡ 0 → Shallow (man_kind q) → TrueAnswer (board_of q) c → slip_of a ≡ slip_of c → a ≡ c
one-answer-a-slip p q a c z s t y r u e = slips-apart a c (true-fits p z s a t) (true-fits q y r c u) e

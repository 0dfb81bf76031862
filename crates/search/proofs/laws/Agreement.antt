-- The second opinion agrees with every accepted table (02, P7: "and so every accepted table, for all legal positions").
use Rattle.std.specs.Prelude.{◌≡◌, refl, ◌⊎◌, Bool, true, false, cond, List, ℕ, ◌<◌, ◌≤◌, eqb, leb, Ok, Result}
use Rattle.std.proofs.Common.{sym, ap, ◌∙◌, inl, inr, arith, le-leb, eqb-true}
use Rattle.std.proofs.lemmas.Bool.{lt-leb}
use Rattle.finite.specs.Truth.{le-or-lt}
use Rattle.theory.specs.Value.{WonIn, LostIn, DepthIs}
use Rattle.theory.proofs.laws.Depth.{one-depth}
use Rattle.rules.specs.Rules.{Board}
use Rattle.rules.specs.Chess.{chess}
use Rattle.answers.specs.declared.Answer.{Answer}
use Rattle.answers.specs.declared.Checked.{Checked}
use Rattle.position.specs.declared.Position.{Position}
use Rattle.position.specs.Keyed.{board_of, man_kind}
use Rattle.position.specs.Refusals.{standing_refusal}
use Rattle.endings.specs.Answers.{check_of, look_up_of}
use Rattle.endings.specs.Truth.{TrueAnswerBy, TrueAnswer}
use Rattle.endings.proofs.laws.LookingUp.{look-up-true}
use Rattle.search.specs.declared.Opinion.{Opinion}
use Rattle.search.specs.Opinions.{most, opinion_of}
use Rattle.search.specs.TrueOpinion.{TrueOpinion, short_of}
use Rattle.search.proofs.laws.Exactly.{win-exactly, loss-exactly, none-exactly, not-of-draw, opinion-true}

module _ (b : Board) (k : ℕ) (o : Result Opinion ℕ) (true? : TrueOpinion b k o) where
  -- deeper than k
  deep : (n : ℕ) → DepthIs chess n b → k < n → o ≡ Ok Opinion.NotWithin
  deep n d h = (none-exactly b k o true?).1 (λ m l e. omega (arith, one-depth chess n m b d e))

  short-win : (n : ℕ) → WonIn chess n b → o ≡ cond (leb n k) (Ok (Opinion.Win n)) (Ok Opinion.NotWithin)
  short-win n w = go (le-or-lt n k)
    where
      go : (n ≤ k) ⊎ (k < n) → o ≡ cond (leb n k) (Ok (Opinion.Win n)) (Ok Opinion.NotWithin)
      go (inl h) = (win-exactly b k o true? n).1 (w, h) ∙ sym (rw (le-leb n k h))
      go (inr h) = deep n (DepthIs.win w) h ∙ sym (rw (lt-leb n k h))

  short-loss : (n : ℕ) → LostIn chess n b → o ≡ cond (leb n k) (Ok (Opinion.Loss n)) (Ok Opinion.NotWithin)
  short-loss n w = go (le-or-lt n k)
    where
      go : (n ≤ k) ⊎ (k < n) → o ≡ cond (leb n k) (Ok (Opinion.Loss n)) (Ok Opinion.NotWithin)
      go (inl h) = (loss-exactly b k o true? n).1 (w, h) ∙ sym (rw (le-leb n k h))
      go (inr h) = deep n (DepthIs.loss w) h ∙ sym (rw (lt-leb n k h))

  short : (a : Result Answer ℕ) → TrueAnswer b a → o ≡ short_of k a
  short a (TrueAnswerBy.won n m w f e) = short-win n w ∙ sym (ap (short_of k) e)
  short a (TrueAnswerBy.lost n m w f e) = short-loss n w ∙ sym (ap (short_of k) e)
  short a (TrueAnswerBy.mate w f e) = short-loss 0 w ∙ sym (ap (short_of k) e)
  short a (TrueAnswerBy.drawn m w f e) = not-of-draw b k o true? w ∙ sym (ap (short_of k) e)
  short a (TrueAnswerBy.stalemate w f e) = not-of-draw b k o true? w ∙ sym (ap (short_of k) e)

-- THE THEOREM: for any table that the checker accepts, on any position of its ending, legal or refused, the second opinion is what look-up says
-- of depths up to k.
module _ (kind : ℕ) (t : List ℕ) (ok : check_of kind t ≡ Ok Checked.Accepted) (p : Position) (its : man_kind p ≡ kind)
    (k : ℕ) (few : k ≤ most) where
  agrees-legal : standing_refusal p ≡ 0 → opinion_of p k ≡ short_of k (look_up_of t p)
  agrees-legal z =
      short (board_of p) k (opinion_of p k) (opinion-true p k few z) (look_up_of t p) (look-up-true kind t ok p its z)

  agrees-refused : eqb (standing_refusal p) 0 ≡ false → opinion_of p k ≡ short_of k (look_up_of t p)
  unfolding opinion_of look_up_of
  agrees-refused f = rw f

  pub search-agrees : opinion_of p k ≡ short_of k (look_up_of t p)
  search-agrees = go (eqb (standing_refusal p) 0) refl
    where
      go : (x : Bool) → eqb (standing_refusal p) 0 ≡ x → opinion_of p k ≡ short_of k (look_up_of t p)
      go true e = agrees-legal (eqb-true (standing_refusal p) 0 e)
      go false e = agrees-refused e

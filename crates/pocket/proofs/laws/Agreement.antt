-- On the packing of a table that checking accepts, the pocket look-up gives the large one's value, and so the true one.
use Rattle.rules.specs.declared.Move.{Move}
use Rattle.std.specs.Prelude.{◌≡◌, refl, Bool, true, false, not, ◌⊎◌, List, ℕ, ◌%◌, ◌≤◌, ◌<◌, T, leb, eqb, length, get_or, Option, Ok, Result}
use Rattle.std.proofs.Common.{sym, subst, ◌∙◌, inl, inr, arith}
use Rattle.std.proofs.Math.Path.{ap}
use borrow.Author.Tests.{eq-eqb, eqb-true, leb-true}
use Rattle.finite.specs.Truth.{decided, true_of, false_of}
use Rattle.theory.specs.Value.{TrueByte}
use Rattle.rules.specs.Rules.{Board, empty}
use Rattle.rules.specs.Chess.{chess}
use Rattle.position.specs.declared.Position.{Position}
use Rattle.position.specs.Keyed.{board_of, man_kind}
use Rattle.position.specs.Refusals.{standing_refusal}
use Rattle.position.proofs.laws.Legality.{standing-facts, one-men}
use Rattle.numbering.specs.Number.{number_of}
use Rattle.answers.specs.declared.Answer.{Answer}
use Rattle.answers.specs.declared.Checked.{Checked}
use Rattle.endings.specs.Ending.{table_size, byte_of}
use Rattle.endings.proofs.laws.IndexLaws.{number-of-ending}
use Rattle.endings.specs.Truth.{TrueAnswerBy, TrueAnswer}
use Rattle.endings.specs.Answers.{check_of, answer_of, chosen, look_up_of}
use Rattle.endings.proofs.laws.Checking.{keyed-lone, accepts-true-only}
use Rattle.endings.proofs.laws.LookingUp.{look-up-answers, look-up-true}
use Rattle.pocket.specs.Pocket.{pocket_size, entry_of, entry_at, pack_of, told_in, entry_tells, pocket_look_up_of}
use Rattle.pocket.specs.TrueValue.{TrueValue}
use Rattle.pocket.proofs.laws.Unpacking.{packed-length, packed-entry}

-- the value of a byte that is not 0, by its entry and by itself
value_same : (b : ℕ) (a : Option Move) → 1 ≤ b → entry_tells (entry_of b) ≡ told_in (answer_of b a)
unfolding entry_of entry_tells answer_of
value_same b a h = go (leb b 1) refl (eqb (b % 2) 1) refl
  where
    go : (x : Bool) → leb b 1 ≡ x → (y : Bool) → eqb (b % 2) 1 ≡ y → entry_tells (entry_of b) ≡ told_in (answer_of b a)
    go true e y f = let z : b ≡ 1 = omega (arith, leb-true b 1 e) in rw z
    go false e true f = rw (e, f)
    go false e false f = rw (e, f)

module _ (kind : ℕ) (t : List ℕ) (ok : check_of kind t ≡ Ok Checked.Accepted) (pocket : List ℕ)
    (k : length pocket ≡ pocket_size) where
  -- the byte of a position that nothing refuses is not 0
  byte-some : (p : Position) → man_kind p ≡ kind → standing_refusal p ≡ 0 → 1 ≤ get_or t (number_of (board_of p)) 0
  byte-some p e z = let f = standing-facts p z in
      go (((accepts-true-only kind t).0 ok).2.legal-true (board_of p) f.1 (keyed-lone kind p e z))
    where
      go : TrueByte chess (board_of p) (get_or t (number_of (board_of p)) 0) → 1 ≤ get_or t (number_of (board_of p)) 0
      go (TrueByte.win n w z) = omega arith
      go (TrueByte.loss n w z) = omega arith
      go (TrueByte.draw w z) = omega arith

  manned : (p : Position) → standing_refusal p ≡ 0 → empty (board_of p).men ≡ false
  manned p z = ap empty (one-men p (standing-facts p z).0)

  keyed-number : (p : Position) → man_kind p ≡ kind → standing_refusal p ≡ 0 → number_of (board_of p) < table_size
  keyed-number p e z = (number-of-ending kind (board_of p) (standing-facts p z).1 (keyed-lone kind p e z)).0

  own-byte : (p : Position) → standing_refusal p ≡ 0 → byte_of t (board_of p) ≡ get_or t (number_of (board_of p)) 0
  unfolding byte_of
  own-byte p z = rw (manned p z)

  agrees-legal : (p : Position) → man_kind p ≡ kind → standing_refusal p ≡ 0
      → pocket_look_up_of (pack_of t pocket).bytes p ≡ told_in (look_up_of t p)
  unfolding pocket_look_up_of
  agrees-legal p e z =
      let long = ((accepts-true-only kind t).0 ok).1 in
      let here : pocket_look_up_of (pack_of t pocket).bytes p
      ≡ entry_tells (entry_at (pack_of t pocket).bytes (number_of (board_of p))) =
      rw (
        eq-eqb (standing_refusal p) 0 z,
        eq-eqb (length (pack_of t pocket).bytes) pocket_size (packed-length t pocket long k),
      ) in
      here
      ∙ ap entry_tells (packed-entry t pocket long k (number_of (board_of p)) (keyed-number p e z))
      ∙ value_same (get_or t (number_of (board_of p)) 0) (chosen (byte_of t) (board_of p)) (byte-some p e z)
      ∙ ap (λ (b : ℕ). told_in (answer_of b (chosen (byte_of t) (board_of p)))) (sym (own-byte p z))
      ∙ ap told_in (sym (look-up-answers kind t ok p e z))

  agrees-refused : (p : Position) → eqb (standing_refusal p) 0 ≡ false
      → pocket_look_up_of (pack_of t pocket).bytes p ≡ told_in (look_up_of t p)
  unfolding pocket_look_up_of look_up_of
  agrees-refused p s = rw (s)

  -- "On the packing of an accepted table its answer agrees with the large one": on every position of the ending, refused or not.
  pub pocket-agrees : (p : Position) → man_kind p ≡ kind
      → pocket_look_up_of (pack_of t pocket).bytes p ≡ told_in (look_up_of t p)
  pocket-agrees p e = go (decided (eqb (standing_refusal p) 0))
    where
      go : T (eqb (standing_refusal p) 0) ⊎ T (not (eqb (standing_refusal p) 0))
          → pocket_look_up_of (pack_of t pocket).bytes p ≡ told_in (look_up_of t p)
      go (inl s) = agrees-legal p e (eqb-true (standing_refusal p) 0 (true_of s))
      go (inr s) = agrees-refused p (false_of s)

-- ---- the true value

value-true : (b : Board) (a : Result Answer ℕ) → TrueAnswer b a → TrueValue b (told_in a)
value-true b a (TrueAnswerBy.won n m w f e) = TrueValue.won n w (ap told_in e)
value-true b a (TrueAnswerBy.lost n m w f e) = TrueValue.lost n w (ap told_in e)
value-true b a (TrueAnswerBy.mate w o e) = TrueValue.lost 0 w (ap told_in e)
value-true b a (TrueAnswerBy.drawn m w f e) = TrueValue.drawn w (ap told_in e)
value-true b a (TrueAnswerBy.stalemate w o e) = TrueValue.drawn w (ap told_in e)

-- On the packing of an accepted table no legal position of the ending is refused, and the answer is its true value.
pub pocket-true : (kind : ℕ) (t : List ℕ) → check_of kind t ≡ Ok Checked.Accepted → (pocket : List ℕ)
    → length pocket ≡ pocket_size → (p : Position) → man_kind p ≡ kind → standing_refusal p ≡ 0
    → TrueValue (board_of p) (pocket_look_up_of (pack_of t pocket).bytes p)
pocket-true kind t ok pocket k p e z =
    subst (TrueValue (board_of p)) (sym (pocket-agrees kind t ok pocket k p e))
    (value-true (board_of p) (look_up_of t p) (look-up-true kind t ok p e z))

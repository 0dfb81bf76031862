-- Bytes written at the end of a slip, one after the other. A full slip stays as it is.
use Rattle.std.specs.Prelude.{◌≡◌, refl, List, [], ◌∷◌, ◌++◌, ℕ, ◌+◌, ◌<◌, length, get_or, drop}
use Rattle.std.proofs.Common.{ap, sym, ◌∙◌, add-one, drop-cons}
use Rattle.std.proofs.Math.Seq.{drop-length}
use Rattle.rules.specs.declared.Piece.{Piece}
use Rattle.slips.specs.declared.Slip.{Slip}
use Rattle.slips.specs.Slip.{gapped}
use Rattle.slips.specs.Appending.{appended, pushed}

pub appended-more : (s : Slip) (xs ys : List ℕ) → appended (appended s xs) ys ≡ appended s (xs ++ ys)
unfolding appended
appended-more s [] ys = refl
appended-more s (b ∷ xs) ys = appended-more (pushed s b) xs ys

-- a part written after another, as two calls give it
pub then : (s q r : Slip) (xs ys : List ℕ) → q ≡ appended s xs → r ≡ appended q ys → r ≡ appended s (xs ++ ys)
then s q r xs ys e f = f ∙ ap (λ (p : Slip). appended p ys) e ∙ appended-more s xs ys

-- a part written on a slip that is known
pub from : (s p q : Slip) (xs : List ℕ) → p ≡ s → q ≡ appended p xs → q ≡ appended s xs
from s p q xs e f = f ∙ ap (λ (z : Slip). appended z xs) e

pub first_byte : (s p q : Slip) (b l : ℕ) → p ≡ s → b ≡ l → q ≡ pushed p b → q ≡ appended s (l ∷ [])
unfolding appended
first_byte s p q b l e f g = g ∙ rw (e, f)

-- one byte more of a text, as the loop writes it
pub appended-first : (s : Slip) (text : List ℕ) (i : ℕ) → i < length text
    → appended s (drop i text) ≡ appended (pushed s (get_or text i 0)) (drop (i + 1) text)
unfolding appended
appended-first s text i h = rw (drop-cons text i 0 h, add-one i)

pub appended-end : (s : Slip) (text : List ℕ) (i : ℕ) → length text ≡ i → appended s (drop i text) ≡ s
unfolding appended
appended-end s text i e = rw (sym e, drop-length text)

-- a space and the square of a man that another one is
pub gap_same : (s r : Slip) (m n : Piece) → m ≡ n → r ≡ appended s (gapped m.square)
    → r ≡ appended s (gapped n.square)
gap_same s r m n e f = f ∙ ap (λ (x : Piece). appended s (gapped x.square)) e

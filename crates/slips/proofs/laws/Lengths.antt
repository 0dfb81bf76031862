-- Every slip is one line of 2 to 16 bytes that ends in a newline.
use Rattle.position.specs.declared.Position.{Position}
use Rattle.rules.specs.declared.Move.{Move}
use Rattle.std.specs.Prelude.{◌≡◌, refl, Bool, true, false, cond, List, [], ◌∷◌, ◌++◌, ℕ, ◌+◌, ◌≤◌, ltb, length, Err, None, Ok, Option, Result, Some}
use Rattle.std.proofs.Common.{arith, length-append}
use Rattle.answers.specs.declared.Answer.{Answer}
use Rattle.ascii.specs.Bytes.{bytes}
use Rattle.slips.specs.Slip.{decimal, square_name, word_and_number, gapped, mark_text, advice_text, answer_text, placed_text, with_newline, slip_of, placed_slip, refused_slip}

-- a line of output: a text and its newline
pub record Line (bs : List ℕ) : Type 0 where
  pub text : List ℕ
  pub whole : bs ≡ with_newline text
  pub least : 2 ≤ length bs
  pub most : length bs ≤ 16

abbrev Between : ℕ → ℕ → List ℕ → Type 0
Between least most bs = (least ≤ length bs) × (length bs ≤ most)

decimal-length : (n : ℕ) → Between 1 3 (decimal n)
unfolding decimal
decimal-length n = go (ltb n 10) (ltb n 100) _ _ _ _ _ _
  where
    go : (a b : Bool) (u v w x y z : ℕ) → Between 1 3 (cond a (u ∷ []) (cond b (v ∷ w ∷ []) (x ∷ y ∷ z ∷ [])))
    go true b u v w x y z = omega arith
    go false true u v w x y z = omega arith
    go false false u v w x y z = omega arith

counted-length : (word : List ℕ) (n : ℕ) → Between (length word + 1) (length word + 3) (word_and_number word n)
unfolding word_and_number
counted-length word n = let d = decimal-length n in simp length-append (omega arith)

advice-length : (a : Option Move) → length (advice_text a) ≤ 6
unfolding advice_text gapped square_name mark_text
advice-length (Some m) = go m.takes
  where
    go : (x : Bool) → length (gapped m.from ++ mark_text x ++ square_name m.to) ≤ 6
    go true = omega arith
    go false = omega arith
advice-length None = omega arith

answer-length : (a : Result Answer ℕ) → Between 4 14 (answer_text a)
unfolding answer_text
answer-length (Ok (Answer.Win n a)) =
    let w = counted-length (bytes "win ") n in let d = advice-length a in simp length-append (omega arith)
answer-length (Ok (Answer.Loss n a)) =
    let w = counted-length (bytes "loss ") n in let d = advice-length a in simp length-append (omega arith)
answer-length (Ok (Answer.Draw a)) = let d = advice-length a in simp length-append (omega arith)
answer-length (Err n) = let w = counted-length (bytes "refused ") n in omega arith

placed-length : (p : Result Position ℕ) → Between 9 11 (placed_text p)
unfolding placed_text gapped square_name
placed-length (Ok p) = omega arith
placed-length (Err n) = let w = counted-length (bytes "refused ") n in omega arith

line : (least most : ℕ) (bs : List ℕ) → Between least most bs → 1 ≤ least → most ≤ 15 → Line (with_newline bs)
line least most bs h l m =
    let one : length (with_newline bs) ≡ length bs + 1 = simp length-append in
    record { text = bs; whole = refl; least = omega arith; most = omega arith }

pub answer-line : (a : Result Answer ℕ) → Line (slip_of a)
unfolding slip_of
answer-line a = line 4 14 (answer_text a) (answer-length a) (omega arith) (omega arith)

pub placed-line : (p : Result Position ℕ) → Line (placed_slip p)
unfolding placed_slip
placed-line p = line 9 11 (placed_text p) (placed-length p) (omega arith) (omega arith)

pub refused-line : (n : ℕ) → Line (refused_slip n)
unfolding refused_slip
refused-line n =
    line 9 11 (word_and_number (bytes "refused ") n) (counted-length (bytes "refused ") n) (omega arith) (omega arith)

-- The words for a lent list or slip of another length are no answer's words.
use Rattle.std.specs.Prelude.{◌≡◌, Bool, true, false, cond, List, ℕ, ◌≤◌, eqb, length, Err, Ok}
use Rattle.std.proofs.Common.{arith, eq-eqb}
use Rattle.rules.specs.Rules.{moves}
use Rattle.position.specs.declared.Position.{Position}
use Rattle.position.specs.Keyed.{board_of}
use Rattle.position.specs.Refusals.{standing_with}
use Rattle.move_list.specs.Answers.{count_answer}
use Rattle.adjudication.proofs.laws.Short.{reply-short}
use Rattle.position.proofs.laws.BothSizes.{standing-with-most}
use Rattle.sledgewren.specs.Words.{count_word, list_size, listing_of, replied, line_answer}

not_255 : (p : Position) → count_word (count_answer p) ≡ 255 → ⊥
unfolding count_answer
not_255 p = go (eqb (standing_with p) 0) (standing-with-most p)
  where
    go : (b : Bool) → standing_with p ≤ 18
        → count_word (cond b (Ok (length (moves (board_of p)))) (Err (standing_with p))) ≡ 255
        → ⊥
    go true h e = omega arith
    go false h e = omega arith

-- `sledgewren_moves` answers SLEDGEWREN_MOVES_LENGTH only for another length than 248
pub list-length-told : (p : Position) (bytes : List ℕ) → (listing_of p bytes).word ≡ 255 → length bytes ≡ list_size → ⊥
unfolding listing_of
list-length-told p bytes e h = not_255 p (rw (eq-eqb (length bytes) list_size h) at e)

-- `sledgewren_answer_line` answers SLEDGEWREN_SLIP_LENGTH only for another length than 16
pub slip-length-told : (line : List ℕ) (held : ℕ) (t s : List ℕ) → (line_answer line held t s).word ≡ 65535
    → length s ≡ 16 → ⊥
unfolding line_answer replied
slip-length-told line held t s e h =
    let r = rw (eq-eqb (length s) 16 h) at e in let k = reply-short line held t in omega arith

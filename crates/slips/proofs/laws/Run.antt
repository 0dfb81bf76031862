-- The slips of the answers of 01's run, and of the largest depth and refusal, computed from the definitions.
use Rattle.position.specs.declared.Position.{Position}
use Rattle.rules.specs.declared.Move.{Move}
use Rattle.std.specs.Prelude.{◌≡◌, refl, Bool, true, false, List, [], ◌∷◌, ◌++◌, map, ℕ, Err, None, Ok, Option, Result, Some}
use Rattle.ascii.specs.Bytes.{bytes}
use Rattle.rules.specs.Rules.{move_of}
use Rattle.position.specs.Keyed.{lone}
use Rattle.answers.specs.declared.Answer.{Answer}
use Rattle.slips.specs.Slip.{decimal, square_name, side_letter, word_and_number, gapped, mark_text, advice_text, answer_text, placed_text, slip_of, placed_slip}

abbrev pub play : ℕ → ℕ → Bool → Option Move
play from to takes = Some (move_of from to takes)

unfoldable pub answers : List (Result Answer ℕ)
answers =
    Ok (Answer.Win 1 (play 15 8 false))
    ∷ (Ok (Answer.Loss 0 None))
    ∷ (Ok (Answer.Draw None))
    ∷ (Ok (Answer.Draw (play 0 9 true)))
    ∷ (Err 6)
    ∷ (Err 1)
    ∷ (Err 12)
    ∷ (Ok (Answer.Loss 100 (play 63 55 true)))
    ∷ (Ok (Answer.Win 253 (play 0 63 false)))
    ∷ []

unfoldable pub places : List (Result Position ℕ)
places = Ok (lone 0 0 0 1 63) ∷ Ok (lone 3 1 27 56 7) ∷ Err 9 ∷ []

pub run : (map slip_of answers ++ map placed_slip places)
    ≡ map bytes ("win 1 h2a2\n" ∷ "loss 0\n" ∷ "draw\n" ∷ "draw a1xb2\n" ∷ "refused 6\n" ∷ "refused 1\n"
    ∷ "refused 12\n" ∷ "loss 100 h8xh7\n" ∷ "win 253 a1h8\n" ∷ "w a1 b1 h8\n" ∷ "b d4 a8 h1\n" ∷ "refused 9\n" ∷ [])
unfolding answers places decimal square_name side_letter word_and_number gapped mark_text advice_text answer_text placed_text slip_of placed_slip
run = refl

-- What checking, filling and looking up answer (01, "Values and the table's bytes", "When the desk says no"). Definitions only.
use Rattle.answers.specs.Advice.{BestMove}
use Rattle.std.specs.Prelude.{cond, not, List, ℕ, ◌-◌, ◌%◌, leb, eqb, ltb, length, None, Some, Err, Ok, Option, Result}
use Rattle.std.proofs.Math.Option as maybe
use Rattle.std.proofs.Math.Option.{none, some}
use Rattle.finite.specs.Lowest.{lowest}
use Rattle.theory.specs.Required.{required_at}
use Rattle.theory.specs.Play.{first_suited}
use Rattle.table_theory.specs.Tables.{Result as FillEnd, undecided, deepest, too_deep, wrong_at, filled}
use Rattle.symmetry.specs.Symmetry.{Symmetry, inverse}
use Rattle.rules.specs.declared.Move.{Move}
use Rattle.rules.specs.Rules.{Board}
use Rattle.rules.specs.Changed.{mapped_move}
use Rattle.rules.specs.Chess.{chess}
use Rattle.numbering.specs.Number.{normal_by, normalised}
use Rattle.position.specs.declared.Position.{Position}
use Rattle.position.specs.Keyed.{board_of}
use Rattle.position.specs.Refusals.{standing_refusal}
use Rattle.answers.specs.declared.Answer.{Answer}
use Rattle.answers.specs.declared.Checked.{Checked}
use Rattle.endings.specs.Ending.{table_size, byte_of, ending}

-- ---- checking: "It accepts, or names the lowest wrong number"; refusals 1 and 7

unfoldable pub check_of : ℕ → List ℕ → Result Checked ℕ
check_of kind t =
    cond (leb 4 kind) (Err 1)
    (cond (not (eqb (length t) table_size)) (Err 7)
    (let low = lowest (wrong_at chess (ending kind) t) table_size in
    cond (ltb low table_size) (Ok (Checked.Wrong low)) (Ok Checked.Accepted)))

-- ---- filling: "writes the true table and gives the greatest depth, or says that no position is decided"; refusals 1, 7, 10

abbrev pub result_of : FillEnd → Result (Option ℕ) ℕ
result_of undecided = Ok None
result_of (deepest n) = Ok (Some n)
result_of too_deep = Err 10

pub record Fill : Type 0 where
  pub answer : Result (Option ℕ) ℕ
  pub bytes : List ℕ

-- "1 and 7 leave it untouched; 10 leaves it all zero"
unfoldable pub fill_of : ℕ → List ℕ → Fill
fill_of kind t =
    cond (leb 4 kind) (record { answer = Err 1; bytes = t })
    (cond (not (eqb (length t) table_size)) (record { answer = Err 7; bytes = t })
    (let o = filled chess (ending kind) t in record { answer = result_of o.result; bytes = o.bytes }))

-- ---- looking up: "gives win, loss or draw, the depth, and inside that answer a move, or none for mate and stalemate"; refusals 1 to 7, 11

abbrev pub advice_of : maybe.Option Move → BestMove
advice_of none = None
advice_of (some m) = Some m

-- the answer of a byte that stands: 1 a draw, 2 + n depth n, odd a win, even a loss
unfoldable pub answer_of : ℕ → BestMove → Result Answer ℕ
answer_of b a = cond (leb b 1) (Ok (Answer.Draw a)) (cond (eqb (b % 2) 1) (Ok (Answer.Win (b - 2) a)) (Ok (Answer.Loss (b - 2) a)))

-- an answer with its move under a map
abbrev pub mapped_advice : Symmetry → BestMove → BestMove
mapped_advice m (Some v) = Some (mapped_move m v)
mapped_advice m None = None

abbrev pub mapped_answer : Symmetry → Result Answer ℕ → Result Answer ℕ
mapped_answer m (Ok (Answer.Win n a)) = Ok (Answer.Win n (mapped_advice m a))
mapped_answer m (Ok (Answer.Loss n a)) = Ok (Answer.Loss n (mapped_advice m a))
mapped_answer m (Ok (Answer.Draw a)) = Ok (Answer.Draw (mapped_advice m a))
mapped_answer m (Err n) = Err n

-- "break ties on the normalised board .. and carry the move back" (02, P5): the first move in list order that suits there, by the inverse of the map
-- by which the board is made normal
unfoldable pub chosen_by : (Board → Symmetry) → (Board → Board) → (Board → ℕ) → Board → BestMove
chosen_by by normal reads b = mapped_advice (inverse (by b)) (advice_of (first_suited chess reads (normal b)))

-- of pieces
abbrev pub chosen : (Board → ℕ) → Board → BestMove
chosen = chosen_by normal_by normalised

unfoldable pub look_up_of : List ℕ → Position → Result Answer ℕ
look_up_of t p =
    let b = board_of p in
    cond (not (eqb (standing_refusal p) 0)) (Err (standing_refusal p))
    (cond (not (eqb (length t) table_size)) (Err 7)
    (cond (not (eqb (byte_of t b) (required_at chess (byte_of t) b))) (Err 11)
    (answer_of (byte_of t b) (chosen (byte_of t) b))))

-- The desk's moves at any count, and what is promised of every game in which a side plays them (02, P13; demand 3).
-- Definitions only.
use Rattle.std.specs.Prelude.{◌≡◌, Bool, false, not, cond, ◌↔◌, List, [], ◌∷◌, ℕ, ◌+◌, ◌≤◌, T, length, Err, Ok, Result}
use Rattle.std.proofs.Math.Option.{Option, none, some}
use Rattle.theory.specs.Value.{DepthIs}
use Rattle.theory.specs.Play.{at_ply}
use Rattle.theory.specs.Fifty.{Clear}
use Rattle.finite.specs.Members.{all}
use Rattle.rules.specs.declared.Move.{Move}
use Rattle.rules.specs.Pawn.{pawn}
use Rattle.rules.specs.Rules.{Board, empty}
use Rattle.rules.specs.Chess.{chess}
use Rattle.answers.specs.declared.Answer.{Answer}
use Rattle.endings.specs.Truth.{TrueAnswer}
use Rattle.four_men.specs.Truth.{TrueAnswerIn}
use Rattle.position.specs.Keyed.{keyed}
use Rattle.endings.specs.GamePromise.{move_of_answer, GamePromise}
use Rattle.numbering.specs.declared.Material.{Material}
use Rattle.four_men.specs.Lending.{Lent}
use Rattle.four_men.specs.GamePromise.{table_then, GamePromiseWith}
use Rattle.fifty.specs.Marks.{Marked, look_up_at, look_up_at_with}

-- without pawns, the moves that set the count to 0 are those that take, as a legal move itself says (02, P6)
abbrev pub zeroing : Board → Move → Bool
zeroing b m = m.takes

-- what look-up answers for a board at a count: with one man; and of every ending, in the table of the one then on the
-- board
abbrev pub answer_at : List ℕ → Board → ℕ → Marked
answer_at t b c = look_up_at t c (keyed b)

abbrev pub answer_at_with : Material → Lent → List ℕ → Board → ℕ → Marked
answer_at_with m l t b c = look_up_at_with l (table_then m l t b.men) c (keyed b)

-- "the one that look-up gives for the position then on the board", at a count; "Bare kings are a draw and are not
-- looked up"
abbrev pub move_at : (Board → ℕ → Marked) → ℕ → Board → Option Move
move_at answer c b = cond (empty b.men) none (move_of_answer (answer b c).answer)

unfoldable pub counted_move : List ℕ → ℕ → Board → Option Move
counted_move t c b = move_at (answer_at t) c b

unfoldable pub counted_move_with : Material → Lent → List ℕ → ℕ → Board → Option Move
counted_move_with m l t c b = move_at (answer_at_with m l t) c b

-- The side plays the desk's moves, "whatever count from 0 to 99 each of its look-ups is given".
abbrev pub PlaysBy : (ℕ → Board → Option Move) → Bool → Board → List Move → Type 0
PlaysBy pick side b [] = Unit {0}
PlaysBy pick side b (m ∷ ms) =
    (chess.turn b ≡ side → (c : ℕ) × (c ≤ 99) × (pick c b ≡ some m)) × PlaysBy pick side (chess.play b m) ms

abbrev pub PlaysCounted : List ℕ → Bool → Board → List Move → Type 0
PlaysCounted t side b ms = PlaysBy (counted_move t) side b ms

abbrev pub PlaysCountedWith : Material → Lent → List ℕ → Bool → Board → List Move → Type 0
PlaysCountedWith m l t side b ms = PlaysBy (counted_move_with m l t) side b ms

-- What a mark promises, by what the position is called, to the winner who plays the desk's moves from the count c: he
-- mates within the depth, and before that the loser may not claim. A draw and a refusal have no mark.
abbrev pub ClearBy : Result Answer ℕ → Bool → Board → List Move → ℕ → Type 0
ClearBy (Ok (Answer.Win n a)) side b ms c = chess.turn b ≡ side → Clear chess zeroing side b ms n c
ClearBy (Ok (Answer.Loss n a)) side b ms c = chess.turn b ≡ not side → Clear chess zeroing side b ms n c
ClearBy (Ok (Answer.Draw a)) side b ms c = ⊥
ClearBy (Err k) side b ms c = ⊥

-- no man is a pawn
abbrev pub Pawnless : Board → Type 0
Pawnless b = T (all (λ a. not (pawn a)) b.men)

-- the board is decided, and the count plus the depth is at most 100
abbrev pub Timely : Board → ℕ → Type 0
Timely b c = (n : ℕ) × DepthIs chess n b × (c + n ≤ 100)

-- and it has no pawn
abbrev pub Within : Board → ℕ → Type 0
Within b c = Pawnless b × Timely b c

-- What is promised of look-up's answers at any counts, in the game ms from the board b, in which `side` plays the
-- desk's moves; `Truly` says when an answer is true of a board.
pub record CountsPromise (Truly : Board → Result Answer ℕ → Type 0) (answer : Board → ℕ → Marked) (side : Bool) (b : Board)
    (ms : List Move) : Type 0 where
  -- what the first position is called, at every count from 0 to 99, is its true value and depth
  pub called : (c : ℕ) → c ≤ 99 → Truly b (answer b c).answer
  -- so it is for each position of the game, bare kings apart
  pub answers : (i : ℕ) → i ≤ length ms → empty (at_ply chess b ms i).men ≡ false → (c : ℕ) → c ≤ 99
      → Truly (at_ply chess b ms i) (answer (at_ply chess b ms i) c).answer
  -- and a mark exactly where it has no pawn, is decided, and the sum is at most 100
  pub marked : (i : ℕ) → i ≤ length ms → empty (at_ply chess b ms i).men ≡ false → (c : ℕ) → c ≤ 99
      → T (answer (at_ply chess b ms i) c).within_fifty ↔ Within (at_ply chess b ms i) c
  -- of a pawnless ending no position has a pawn: there the mark is given exactly at those sums
  pub pawnless : Pawnless b → (i : ℕ) → i ≤ length ms → Pawnless (at_ply chess b ms i)
  -- marked at the count c, the first position is won clear of the fifty-move rule
  pub clear : (c : ℕ) → c ≤ 99 → T (answer b c).within_fifty → ClearBy (answer b c).answer side b ms c

-- by the table t, with one man: demand 3 as it stands, at any counts
pub record FiftyPromise (t : List ℕ) (side : Bool) (b : Board) (ms : List Move) : Type 0 where
  pub game : GamePromise t side b ms
  pub counts : CountsPromise TrueAnswer (answer_at t) side b ms

-- by the ending's table t and the lent ones, of every ending, through captures and promotions until bare kings
pub record FiftyPromiseWith (m : Material) (l : Lent) (t : List ℕ) (side : Bool) (b : Board) (ms : List Move) : Type 0 where
  pub game : GamePromiseWith m l t side b ms
  pub counts : CountsPromise TrueAnswerIn (answer_at_with m l t) side b ms

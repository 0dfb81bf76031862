-- The desk's moves in a game, and what is promised of every game in which a side plays them (01, "Games"; demand 3). Definitions only.
use Rattle.answers.specs.Advice.{BestMove}
use Rattle.std.specs.Prelude.{◌≡◌, Bool, false, not, cond, List, [], ℕ, ◌≤◌, length, None, Some, Err, Ok, Result}
use Rattle.std.proofs.Math.Option.{Option, none, some}
use Rattle.theory.specs.Value.{Drawn}
use Rattle.theory.specs.Play.{at_ply, Over, Mates, Unmated, Promised}
use Rattle.rules.specs.declared.Move.{Move}
use Rattle.rules.specs.Rules.{Board, empty}
use Rattle.rules.specs.Chess.{chess}
use Rattle.position.specs.Keyed.{keyed}
use Rattle.answers.specs.declared.Answer.{Answer}
use Rattle.endings.specs.Ending.{byte_of}
use Rattle.endings.specs.Truth.{TrueAnswer}
use Rattle.endings.specs.Answers.{look_up_of}

-- the move inside an answer
abbrev pub given : BestMove → Option Move
given (Some m) = some m
given None = none

abbrev pub move_of_answer : Result Answer ℕ → Option Move
move_of_answer (Ok (Answer.Win n a)) = given a
move_of_answer (Ok (Answer.Loss n a)) = given a
move_of_answer (Ok (Answer.Draw a)) = given a
move_of_answer (Err n) = none

-- "the one that look-up gives for the position then on the board"; "Bare kings are a draw and are not looked up"
unfoldable pub desk_move : List ℕ → Board → Option Move
desk_move t b = cond (empty b.men) none (move_of_answer (look_up_of t (keyed b)))

-- What is promised to the side that plays the desk's moves, by what the first position is called: won in n, the side to move mates within n plies;
-- lost in n, the other side does; whoever plays them is not mated in fewer than n plies, and from a draw never.
abbrev pub Told : Result Answer ℕ → Bool → Board → List Move → Type 0
Told (Ok (Answer.Win n a)) side b ms = (chess.turn b ≡ side → Mates chess side b ms n) × Unmated chess side b ms n
Told (Ok (Answer.Loss n a)) side b ms = (chess.turn b ≡ not side → Mates chess side b ms n) × Unmated chess side b ms n
Told (Ok (Answer.Draw a)) side b ms = (n : ℕ) → Unmated chess side b ms n
Told (Err n) side b ms = ⊥

-- What is promised of the game ms from the board b, in which `side` plays the desk's moves by the table t.
pub record GamePromise (t : List ℕ) (side : Bool) (b : Board) (ms : List Move) : Type 0 where
  -- what the first position is called is look-up's answer for it, and that is its true value and depth
  pub called : TrueAnswer b (look_up_of t (keyed b))
  -- and that it is called so is enough
  pub told : Told (look_up_of t (keyed b)) side b ms
  -- no position of the game, bare kings apart, is refused at look-up: each gets its true answer, a legal move in it wherever the game is not over
  pub answers : (i : ℕ) → i ≤ length ms → empty (at_ply chess b ms i).men ≡ false → TrueAnswer (at_ply chess b ms i) (look_up_of t (keyed (at_ply chess b ms i)))
  -- bare kings end the game, drawn
  pub bare : (i : ℕ) → i ≤ length ms → (at_ply chess b ms i).men ≡ [] → Over chess (at_ply chess b ms i) × Drawn chess (at_ply chess b ms i)
  -- won, lost, drawn, and both sides following: the theory's promise, over chess boards and the rules' moves
  pub promised : Promised chess (byte_of t) (desk_move t) side b ms

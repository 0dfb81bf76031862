-- The desk's moves in a game from one man or two, through captures until bare kings, and what is promised of every game
-- in which a side plays them (01, "Games"; 02, P10; demand 3). Definitions only.
use Rattle.std.specs.Prelude.{◌≡◌, Bool, false, cond, List, [], ◌∷◌, ℕ, ◌≤◌, length, Result}
use Rattle.std.proofs.Math.Option.{Option, none}
use Rattle.theory.specs.Value.{Drawn}
use Rattle.theory.specs.Play.{at_ply, Over, Promised}
use Rattle.table_theory.specs.Tables.{reads}
use Rattle.rules.specs.declared.Piece.{Piece}
use Rattle.rules.specs.declared.Move.{Move}
use Rattle.rules.specs.Pawn.{pawn}
use Rattle.rules.specs.Rules.{Board, empty}
use Rattle.rules.specs.Chess.{chess}
use Rattle.answers.specs.declared.Answer.{Answer}
use Rattle.four_men.specs.Truth.{TrueAnswerIn}
use Rattle.position.specs.Keyed.{keyed}
use Rattle.endings.specs.GamePromise.{move_of_answer, Told}
use Rattle.numbering.specs.declared.Material.{Material}
use Rattle.four_men.specs.Lending.{Lent, part_of}
use Rattle.four_men.specs.Reading.{lent_for, numbered}
use Rattle.four_men.specs.Answers.{look_up_with}

-- the table of the ending then on the board: "a man left alone .. is looked up in its own ending's table"
abbrev pub table_then : Material → Lent → List ℕ → List Piece → List ℕ
table_then (Material.One kind) l t men = t
table_then (Material.Two first second rivals) l t [] = t
table_then (Material.Two first second rivals) l t (a ∷ []) = lent_for first l a.kind
table_then (Material.Two first second rivals) l t (a ∷ c ∷ men) = t
table_then Material.Pawn l t [] = t
table_then Material.Pawn l t (a ∷ men) = cond (pawn a) t (part_of a.kind l.first)

-- look-up's answer for the board then on it
unfoldable pub looked_up : Material → Lent → List ℕ → Board → Result Answer ℕ
looked_up m l t b = look_up_with l (table_then m l t b.men) (keyed b)

-- "Bare kings are a draw and are not looked up"
unfoldable pub desk_move_with : Material → Lent → List ℕ → Board → Option Move
desk_move_with m l t b = cond (empty b.men) none (move_of_answer (looked_up m l t b))

-- What is promised of the game ms from the board b, in which `side` plays the desk's moves by the ending's table t and
-- the lent ones.
pub record GamePromiseWith (m : Material) (l : Lent) (t : List ℕ) (side : Bool) (b : Board) (ms : List Move) : Type 0 where
  -- what the first position is called is look-up's answer for it, and that is its true value and depth
  pub called : TrueAnswerIn b (looked_up m l t b)
  -- and that it is called so is enough
  pub told : Told (looked_up m l t b) side b ms
  -- no position of the game, bare kings apart, is refused at look-up: each gets its true answer, a legal move in it
  -- wherever the game is not over
  pub answers : (i : ℕ) → i ≤ length ms → empty (at_ply chess b ms i).men ≡ false → TrueAnswerIn (at_ply chess b ms i) (looked_up m l t (at_ply chess b ms i))
  -- bare kings end the game, drawn
  pub bare : (i : ℕ) → i ≤ length ms → (at_ply chess b ms i).men ≡ [] → Over chess (at_ply chess b ms i) × Drawn chess (at_ply chess b ms i)
  -- won, lost, drawn, and both sides following: the theory's promise, over chess boards and the rules' moves
  pub promised : Promised chess (reads chess (numbered m l) t) (desk_move_with m l t) side b ms

-- A true table and a true answer, by the rules of chess (demand 2). Definitions only.
use Rattle.std.specs.Prelude.{◌≡◌, false, List, [], ◌∷◌, ◌++◌, ℕ, ◌-◌, ◌<◌, T, get_or, None, Some, Ok, Result}
use Rattle.finite.specs.Members.{◌∈◌}
use Rattle.theory.specs.Value.{WonIn, LostIn, Drawn, TrueByte}
use Rattle.symmetry.specs.Symmetry.{Symmetry}
use Rattle.rules.specs.declared.Move.{Move}
use Rattle.rules.specs.Rules.{Board, legal, moves}
use Rattle.rules.specs.Changed.{mapped_move}
use Rattle.rules.specs.Chess.{chess, played}
use Rattle.numbering.specs.Number.{normal_by, normalised, number_of}
use Rattle.answers.specs.declared.Answer.{Answer}
use Rattle.endings.specs.Ending.{Lone, table_size, legal_number}

-- Every legal position's byte is its true value and depth, and every byte of an unused number or illegal position is 0.
pub record TrueTable (kind : ℕ) (t : List ℕ) : Type 0 where
  pub legal-true : (b : Board) → T (legal b) → Lone kind b → TrueByte chess b (get_or t (number_of b) 0)
  pub others-zero : (n : ℕ) → n < table_size → legal_number kind n ≡ false → get_or t n 0 ≡ 0

-- "The move is the first in list order": m is in the list and is what is sought, and nothing before it is
pub record First (Sought : Move → Type 0) (ms : List Move) (m : Move) : Type 0 where
  pub before : List Move
  pub rest : List Move
  pub split : ms ≡ before ++ (m ∷ rest)
  pub sought : Sought m
  pub none-earlier : (v : Move) → v ∈ before → Sought v → ⊥

-- "break ties on the normalised board" (02, P5): m is legal and leads to what is sought; and the map that makes the board normal makes it the first
-- such move there
pub record ChosenBy (by : Board → Symmetry) (normal : Board → Board) (Sought : Board → Type 0) (b : Board) (m : Move) : Type 0 where
  pub legal : m ∈ moves b
  pub leads : Sought (played b m)
  pub there : First (λ v. Sought (played (normal b) v)) (moves (normal b)) (mapped_move (by b) m)

-- of pieces
abbrev pub Chosen : (Board → Type 0) → Board → Move → Type 0
Chosen = ChosenBy normal_by normalised

-- The answer is the board's true value and depth, with the chosen move "that leads to a loss in n - 1 (from a win), a win in n - 1 (from a
-- loss), or a draw", or none for mate and stalemate. No table is spoken of.
pub data TrueAnswerBy (by : Board → Symmetry) (normal : Board → Board) (b : Board) (a : Result Answer ℕ) : Type 0 where
  won : (n : ℕ) (m : Move) → WonIn chess n b → ChosenBy by normal (LostIn chess (n - 1)) b m → a ≡ Ok (Answer.Win n (Some m)) → TrueAnswerBy by normal b a
  lost : (n : ℕ) (m : Move) → LostIn chess n b → ChosenBy by normal (WonIn chess (n - 1)) b m → a ≡ Ok (Answer.Loss n (Some m)) → TrueAnswerBy by normal b a
  mate : LostIn chess 0 b → moves b ≡ [] → a ≡ Ok (Answer.Loss 0 None) → TrueAnswerBy by normal b a
  drawn : (m : Move) → Drawn chess b → ChosenBy by normal (Drawn chess) b m → a ≡ Ok (Answer.Draw (Some m)) → TrueAnswerBy by normal b a
  stalemate : Drawn chess b → moves b ≡ [] → a ≡ Ok (Answer.Draw None) → TrueAnswerBy by normal b a

-- of pieces
abbrev pub TrueAnswer : Board → Result Answer ℕ → Type 0
TrueAnswer = TrueAnswerBy normal_by normalised

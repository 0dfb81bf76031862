-- What is true of a second opinion, by the rules of chess and by a table's look-up. Definitions only.
use Rattle.std.specs.Prelude.{◌≡◌, cond, ◌↔◌, ℕ, ◌≤◌, leb, Err, Ok, Result}
use Rattle.theory.specs.Value.{WonIn, LostIn, DepthIs}
use Rattle.rules.specs.Rules.{Board}
use Rattle.rules.specs.Chess.{chess}
use Rattle.answers.specs.declared.Answer.{Answer}
use Rattle.position.specs.declared.Position.{Position}
use Rattle.position.specs.Keyed.{board_of}
use Rattle.search.specs.declared.Opinion.{Opinion}
use Rattle.search.specs.Opinions.{opinion_of}

-- what an opinion within k plies says of a board
pub data TrueOpinion (b : Board) (k : ℕ) (o : Result Opinion ℕ) : Type 0 where
  win : (n : ℕ) → WonIn chess n b → n ≤ k → o ≡ Ok (Opinion.Win n) → TrueOpinion b k o
  loss : (n : ℕ) → LostIn chess n b → n ≤ k → o ≡ Ok (Opinion.Loss n) → TrueOpinion b k o
  neither : ((n : ℕ) → n ≤ k → DepthIs chess n b → ⊥) → o ≡ Ok Opinion.NotWithin → TrueOpinion b k o

-- Win n or Loss n exactly where that is the position's value and depth, and at most k; "not within" exactly where it has no depth up to k.
pub record Exact (p : Position) (k : ℕ) : Type 0 where
  pub win : (n : ℕ) → (opinion_of p k ≡ Ok (Opinion.Win n)) ↔ (WonIn chess n (board_of p) × (n ≤ k))
  pub loss : (n : ℕ) → (opinion_of p k ≡ Ok (Opinion.Loss n)) ↔ (LostIn chess n (board_of p) × (n ≤ k))
  pub not_within : (opinion_of p k ≡ Ok Opinion.NotWithin) ↔ ((n : ℕ) → n ≤ k → DepthIs chess n (board_of p) → ⊥)

-- what a look-up says of depths up to k
abbrev pub short_of : ℕ → Result Answer ℕ → Result Opinion ℕ
short_of k (Ok (Answer.Win n m)) = cond (leb n k) (Ok (Opinion.Win n)) (Ok Opinion.NotWithin)
short_of k (Ok (Answer.Loss n m)) = cond (leb n k) (Ok (Opinion.Loss n)) (Ok Opinion.NotWithin)
short_of k (Ok (Answer.Draw m)) = Ok Opinion.NotWithin
short_of k (Err r) = Err r

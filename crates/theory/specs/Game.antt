-- A game of two sides: positions, legal moves in list order, what a move leaves, mate, and the side to move. No chess here.
-- Definitions only.
use Rattle.std.specs.Prelude.{◌≡◌, Bool, not, List, [], map, T}
use Rattle.finite.specs.Members.{◌∈◌}

pub record Game : Type 1 where
  pub Pos : Type 0
  pub Move : Type 0
  pub moves : Pos → List Move  -- the legal moves, in list order; none where the game is over
  pub play : Pos → Move → Pos  -- the position that a move leaves
  pub mated : Pos → Bool  -- the side to move is mated
  pub turn : Pos → Bool  -- the side to move: true for White
  pub mate-ends : (p : Pos) → T (mated p) → moves p ≡ []
  pub alternates : (p : Pos) (m : Move) → m ∈ moves p → turn (play p m) ≡ not (turn p)

-- the successors: the positions that one move leaves
abbrev pub next : (G : Game) → G.Pos → List G.Pos
next G p = map (G.play p) (G.moves p)

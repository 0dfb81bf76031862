-- The fifty-move rule (FIDE Laws 9.3) over any game, and what is promised of a game that it cannot spoil (02, P13). `zeroing` tells the
-- captures and pawn moves. The promise is proved in `laws/Fifty`. Definitions only.
use Rattle.std.specs.Prelude.{◌≡◌, Bool, false, not, cond, List, [], ◌∷◌, ℕ, ◌+◌, ◌*◌, ◌≤◌, length, take}
use Rattle.std.proofs.Math.Option.{Option}
use Rattle.finite.specs.Members.{◌∈◌}
use Rattle.theory.specs.Game.{Game}
use Rattle.theory.specs.Value.{LostIn}
use Rattle.theory.specs.Play.{LegalGame, Follows, after, at_ply, Over, Mates}

-- "the last 50 moves by each player", in plies
abbrev pub fifty_each : ℕ
fifty_each = 2 * 50

module _ (G : Game) (zeroing : G.Pos → G.Move → Bool) where
  -- The plies since the last capture or pawn move, after one more move: none after such a move, else one more.
  abbrev pub count_after : ℕ → G.Pos → G.Move → ℕ
  count_after c p m = cond (zeroing p m) 0 (1 + c)

  -- The same after the moves of a game.
  unfoldable pub count_of : ℕ → G.Pos → List G.Move → ℕ
  count_of c p [] = c
  count_of c p (m ∷ ms) = count_of (count_after c p m) (G.play p m) ms

  -- No move of the game is a capture or pawn move.
  abbrev pub Quiet : G.Pos → List G.Move → Type 0
  Quiet p [] = Unit {0}
  Quiet p (m ∷ ms) = (zeroing p m ≡ false) × Quiet (G.play p m) ms

  -- The player having the move may claim a draw at p, with the count c: the last 50 moves by each player were made without a capture or pawn
  -- move (9.3.2), or a move that he writes down, any legal one, makes them so (9.3.1). Checkmate ends the game first (5.1.1): there is no claim where
  -- the game is over.
  pub data MayClaim (c : ℕ) (p : G.Pos) : Type 0 where
    completed : (Over G p → ⊥) → fifty_each ≤ c → MayClaim c p
    intended : (m : G.Move) → m ∈ G.moves p → fifty_each ≤ count_after c p m → MayClaim c p

  -- The game ms from p, with the count c there, is clear of the rule for the side that wins in n: it mates within n plies, and at no turn of the
  -- other side before that may the other side claim.
  pub record Clear (side : Bool) (p : G.Pos) (ms : List G.Move) (n c : ℕ) : Type 0 where
    pub mates : Mates G side p ms n
    pub unclaimed : (i : ℕ) → i ≤ length ms → G.turn (at_ply G p ms i) ≡ not side
        → MayClaim (count_of c p (take i ms)) (at_ply G p ms i) → ⊥

  -- A fifty-move claim may spoil the game from p with the count c, though both sides play the moves picked: a line of them comes to a turn at which
  -- the loser, two plies from mate, may claim.
  pub record Spoilt (pick : G.Pos → Option G.Move) (c : ℕ) (p : G.Pos) : Type 0 where
    pub line : List G.Move
    pub game : LegalGame G p line
    pub follows : (side : Bool) → Follows G pick side p line
    pub lost : LostIn G 2 (after G p line)
    pub claims : MayClaim (count_of c p line) (after G p line)

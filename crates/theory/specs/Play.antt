-- Games in which a side plays the moves that a table gives, and what is promised of them (01, "Games"; demand 3). The promise is proved
-- in `Games`. Definitions only.
use Rattle.std.specs.Prelude.{◌≡◌, ◌⊎◌, ◌↔◌, Bool, not, cond, List, [], ◌∷◌, ℕ, ◌+◌, ◌-◌, ◌≤◌, ◌<◌, T, leb, eqb, length, take}
use Rattle.std.proofs.Math.Option.{Option, some}
use Rattle.finite.specs.Members.{◌∈◌, first}
use Rattle.theory.specs.Game.{Game}
use Rattle.theory.specs.Value.{WonIn, LostIn, Drawn, DepthIs, TrueByte}
use Rattle.theory.specs.Required.{required_at}

-- From byte b the move sought leads to byte c: from a draw to a draw, from depth n to depth n - 1.
unfoldable pub suits : ℕ → ℕ → Bool
suits b c = cond (leb b 1) (leb c 1) (eqb (1 + c) b)

module _ (G : Game) where
  -- A game from p is a list of moves, each legal in the position that the moves before it left.
  abbrev pub LegalGame : G.Pos → List G.Move → Type 0
  LegalGame p [] = Unit {0}
  LegalGame p (m ∷ ms) = (m ∈ G.moves p) × LegalGame (G.play p m) ms

  -- the position that the moves leave
  abbrev pub after : G.Pos → List G.Move → G.Pos
  after p [] = p
  after p (m ∷ ms) = after (G.play p m) ms

  -- the position on the board after i plies of the game
  abbrev pub at_ply : G.Pos → List G.Move → ℕ → G.Pos
  at_ply p ms i = after p (take i ms)

  -- the game is over: no move follows
  abbrev pub Over : G.Pos → Type 0
  Over p = G.moves p ≡ []

  -- the side is to move and mated
  abbrev pub IsMated : Bool → G.Pos → Type 0
  IsMated side p = T (G.mated p) × (G.turn p ≡ side)

  -- the first move in list order that suits the bytes read
  unfoldable pub first_suited : (G.Pos → ℕ) → G.Pos → Option G.Move
  first_suited reads p = first (λ m. suits (reads p) (reads (G.play p m))) (G.moves p)

  -- A rule for ties: at the positions D it picks a legal move that suits, wherever there is one. `first_suited` is such a rule.
  pub record Chooses (D : G.Pos → Type 0) (reads : G.Pos → ℕ) (pick : G.Pos → Option G.Move) : Type 0 where
    pub sound : (p : G.Pos) → D p → (m : G.Move) → pick p ≡ some m → (m ∈ G.moves p) × T (suits (reads p) (reads (G.play p m)))
    pub total : (p : G.Pos) → D p → (m : G.Move) → m ∈ G.moves p → T (suits (reads p) (reads (G.play p m))) → (k : G.Move) × (pick p ≡ some k)

  -- The side follows: each of its moves in the list is the one picked for the position then on the board.
  abbrev pub Follows : (G.Pos → Option G.Move) → Bool → G.Pos → List G.Move → Type 0
  Follows pick side p [] = Unit {0}
  Follows pick side p (m ∷ ms) = (G.turn p ≡ side → pick p ≡ some m) × Follows pick side (G.play p m) ms

  -- A position is answered: its byte is its true value and depth, and what the rule requires, so look-up does not refuse it; and wherever
  -- the game is not over a legal move is given.
  pub record Answered (reads : G.Pos → ℕ) (pick : G.Pos → Option G.Move) (p : G.Pos) : Type 0 where
    pub truth : TrueByte G p (reads p)
    pub accepted : reads p ≡ required_at G reads p
    pub goes_on : Over p ⊎ ((m : G.Move) × (pick p ≡ some m) × (m ∈ G.moves p))

  -- The side wins within n plies: the game runs no further, with n plies it is over, and where it is over the other side is mated. After i
  -- plies the depth is at most n - i, and where the other side is to move the position is lost for it.
  pub record Mates (side : Bool) (p : G.Pos) (ms : List G.Move) (n : ℕ) : Type 0 where
    pub short : length ms ≤ n
    pub full-over : length ms ≡ n → Over (after p ms)
    pub over-mated : Over (after p ms) → IsMated (not side) (after p ms)
    pub falls : (i : ℕ) → i ≤ length ms → (d : ℕ) × (i + d ≤ n) × DepthIs G d (at_ply p ms i)
    pub loses : (i : ℕ) → i ≤ length ms → G.turn (at_ply p ms i) ≡ not side
        → (d : ℕ) × (d ≤ n - i) × LostIn G d (at_ply p ms i)

  -- The side is not mated in fewer than n plies.
  abbrev pub Unmated : Bool → G.Pos → List G.Move → ℕ → Type 0
  Unmated side p ms n = (i : ℕ) → i ≤ length ms → i < n → IsMated side (at_ply p ms i) → ⊥

  -- The depth falls by one with each ply from n, and the game is over exactly when it has n plies.
  pub record Exact (p : G.Pos) (ms : List G.Move) (n : ℕ) : Type 0 where
    pub falls : (i : ℕ) → i ≤ length ms → (i ≤ n) × DepthIs G (n - i) (at_ply p ms i)
    pub over-at : Over (after p ms) ↔ (length ms ≡ n)

  -- What is promised of the game ms from p in which `side` follows, whatever the other side plays.
  pub record Promised (reads : G.Pos → ℕ) (pick : G.Pos → Option G.Move) (side : Bool) (p : G.Pos) (ms : List G.Move) : Type 0 where
    -- every position of the game, the first and the last too, is answered
    pub answered : (i : ℕ) → i ≤ length ms → Answered reads pick (at_ply p ms i)
    -- won in n, and the side to move follows: it mates within n plies
    pub won : (n : ℕ) → WonIn G n p → G.turn p ≡ side → Mates side p ms n
    -- lost in n: whoever follows is not mated in fewer than n plies
    pub lost : (n : ℕ) → LostIn G n p → Unmated side p ms n
    -- a draw: whoever follows is never mated
    pub drawn : Drawn G p → (n : ℕ) → Unmated side p ms n
    -- beyond 01: lost in n, and the side not to move follows: it mates within n plies
    pub lost-other : (n : ℕ) → LostIn G n p → G.turn p ≡ not side → Mates side p ms n
    -- beyond 01: won in n: whoever follows is not mated in fewer than n plies
    pub won-other : (n : ℕ) → WonIn G n p → Unmated side p ms n
    -- beyond 01: both sides follow: a game from depth n that is over has exactly n plies
    pub both : Follows pick (not side) p ms → (n : ℕ) → DepthIs G n p → Exact p ms n

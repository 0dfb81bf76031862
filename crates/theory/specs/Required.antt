-- The table's rule: the byte required of a position, from whether it is mate and the bytes at its successors. `Rule` is 01's words;
-- `required` is what a loop computes; `required-is` of `RuleLaws` shows that they agree. Definitions only.
use Rattle.std.specs.Prelude.{◌≡◌, Bool, true, false, ◌&&◌, ◌||◌, cond, List, [], ◌∷◌, map, ℕ, ◌+◌, ◌%◌, ◌≤◌, min, max, leb, eqb}
use Rattle.finite.specs.Members.{◌∈◌}
use Rattle.theory.specs.Game.{Game, next}

-- A byte 2 + n is depth n for the side to move: a win where n is odd, a loss where n is even. 1 is a draw, and 0 counts as one.
abbrev pub Win : ℕ → Type 0
Win b = (3 ≤ b) × (b % 2 ≡ 1)

abbrev pub Loss : ℕ → Type 0
Loss b = (2 ≤ b) × (b % 2 ≡ 0)

abbrev pub Draw : ℕ → Type 0
Draw b = b ≤ 1

-- The byte r is required, of the bytes bs at the successors; the last argument tells whether it is mate.
pub data Rule (bs : List ℕ) (r : ℕ) : Bool → Type 0 where
  -- checkmate is a loss in 0
  checkmate : r ≡ 2 → Rule bs r true
  -- some move leads to a loss, the least such being n - 1: a win in n
  wins : (b : ℕ) → b ∈ bs → Loss b → ((c : ℕ) → c ∈ bs → Loss c → b ≤ c) → r ≡ 1 + b → Rule bs r false
  -- it has legal moves, all lead to wins, and the greatest is n - 1: a loss in n
  loses : (b : ℕ) → b ∈ bs → ((c : ℕ) → c ∈ bs → Win c × (c ≤ b)) → r ≡ 1 + b → Rule bs r false
  -- otherwise it is a draw ..
  draws : (b : ℕ) → b ∈ bs → Draw b → ((c : ℕ) → c ∈ bs → Loss c → ⊥) → r ≡ 1 → Rule bs r false
  -- .. stalemate too
  stalemate : bs ≡ [] → r ≡ 1 → Rule bs r false

-- the byte is a win
unfoldable pub winning : ℕ → Bool
winning b = leb 3 b && eqb (b % 2) 1

-- The byte that the mover gets by a move into a position with byte b: a draw stays one; a loss there is his win a ply later, a win there his loss.
unfoldable pub back : ℕ → ℕ
back b = cond (leb b 1) 1 (1 + b)

-- The better of two bytes for the mover: the shorter win; else the win; else a draw; else the longer loss. 0 is no move yet.
unfoldable pub better : ℕ → ℕ → ℕ
better a b = cond (winning a) (cond (winning b) (min a b) a) (cond (winning b) b (cond (eqb a 1 || eqb b 1) 1 (max a b)))

-- The best byte that the moves get, `top` being the best so far: one turn of a loop for each move.
unfoldable pub best : ℕ → List ℕ → ℕ
best top [] = top
best top (b ∷ bs) = best (better (back b) top) bs

-- The byte required. It is 256 and more, which is no byte, where a depth above 253 is required.
unfoldable pub required : Bool → List ℕ → ℕ
required true bs = 2
required false bs = max 1 (best 0 bs)

module _ (G : Game) where
  -- what the rule requires at p, where `reads` gives the byte at each position
  abbrev pub required_at : (G.Pos → ℕ) → G.Pos → ℕ
  required_at reads p = required (G.mated p) (map reads (next G p))

  -- The positions D that a table is about: with each of them, all that its moves lead to.
  abbrev pub Closed : (G.Pos → Type 0) → Type 0
  Closed D = (p q : G.Pos) → D p → q ∈ next G p → D q

  -- The table is consistent on D: each byte there is the one required.
  abbrev pub Consistent : (G.Pos → Type 0) → (G.Pos → ℕ) → Type 0
  Consistent D reads = (p : G.Pos) → D p → reads p ≡ required_at reads p

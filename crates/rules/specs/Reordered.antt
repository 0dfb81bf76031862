-- Two men listed in the other order. Definitions only.
use Rattle.std.specs.Prelude.{Bool, true, false, List, [], ◌∷◌, T}
use Rattle.rules.specs.declared.Piece.{Piece}
use Rattle.rules.specs.Rules.{Board, legal}

-- two men in the other order; any other list as it is
unfoldable pub crossed : Bool → List Piece → List Piece
crossed false l = l
crossed true [] = []
crossed true (a ∷ []) = a ∷ []
crossed true (a ∷ c ∷ []) = c ∷ a ∷ []
crossed true (a ∷ c ∷ d ∷ l) = a ∷ c ∷ d ∷ l

-- the board with its two men in the other order
abbrev pub reordered : Bool → Board → Board
reordered e b = record { side = b.side; white = b.white; black = b.black; men = crossed e b.men }

-- two men at most
abbrev pub Few : List Piece → Type 0
Few [] = Unit {0}
Few (a ∷ []) = Unit {0}
Few (a ∷ c ∷ []) = Unit {0}
Few (a ∷ c ∷ d ∷ l) = ⊥

-- legal, with two men at most
pub record LegalFew (b : Board) : Type 0 where
  pub legality : T (legal b)
  pub few : Few b.men

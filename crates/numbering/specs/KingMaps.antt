-- What the laws of the same name speak of. Definitions only.
use Rattle.std.specs.Prelude.{◌≡◌, Bool, false, ◌&&◌, ℕ, T}
use Rattle.symmetry.specs.Symmetry.{Symmetry, mapped}
use Rattle.numbering.specs.Kings.{on_diagonal}
use Rattle.numbering.specs.Normal.{turn, swaps_kings}

-- the map for two kings, where `men` says which way the men are to go with both on the diagonal
unfoldable pub king_map : ℕ → ℕ → Bool → Symmetry
king_map white black men = record { files = (turn white).files; ranks = (turn white).ranks; swap = swaps_kings (mapped (turn white) white) (mapped (turn white) black) men }

-- the exchange or nothing
abbrev pub swapping : Bool → Symmetry
swapping e = record { files = false; ranks = false; swap = e }

pub record Still (white black : ℕ) (m : Symmetry) : Type 0 where
  pub only : m ≡ swapping m.swap
  pub diagonals : T m.swap → T (on_diagonal white && on_diagonal black)

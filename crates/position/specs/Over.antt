-- What the laws of the same name speak of. Definitions only.
use Rattle.std.specs.Prelude.{Bool, not, ◌&&◌, ℕ, eqb}
use Rattle.finite.specs.Members.{any}
use Rattle.rules.specs.declared.Piece.{Piece}
use Rattle.rules.specs.Rules.{Board, pieces, attacks, goes_to}

-- the piece is of this colour and attacks t
abbrev pub strikes : (ℕ → Bool) → ℕ → ℕ → Piece → Bool
strikes occ colour t m = eqb m.colour colour && attacks occ m t

-- a piece of this colour attacks t
unfoldable pub attacked_over : (ℕ → Bool) → Board → ℕ → ℕ → Bool
attacked_over occ b colour t = any (strikes occ colour t) (pieces b)

-- a man of this colour attacks t
unfoldable pub men_over : (ℕ → Bool) → Board → ℕ → ℕ → Bool
men_over occ b colour t = any (strikes occ colour t) b.men

-- the piece is of this side, stands on `from` and may go to t
abbrev pub goes_from : (ℕ → Bool) → ℕ → ℕ → ℕ → Piece → Bool
goes_from occ side from t m = eqb m.colour side && eqb m.square from && goes_to occ m t

-- a piece of the side to move stands on `from` and may go to t
unfoldable pub goes_over : (ℕ → Bool) → Board → ℕ → ℕ → Bool
goes_over occ b from t = any (goes_from occ b.side from t) (pieces b)

-- the occupied squares without one
abbrev pub lifted : (ℕ → Bool) → ℕ → ℕ → Bool
lifted occ from u = occ u && not (eqb u from)

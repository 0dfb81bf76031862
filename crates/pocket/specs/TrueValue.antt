-- The true value of a board, by the rules of chess; no table is spoken of. Definitions only.
use Rattle.std.specs.Prelude.{◌≡◌, ℕ}
use Rattle.theory.specs.Value.{WonIn, LostIn, Drawn}
use Rattle.rules.specs.Rules.{Board}
use Rattle.rules.specs.Chess.{chess}
use Rattle.pocket.specs.Pocket.{Told, win, loss, draw}

pub data TrueValue (b : Board) (a : Told) : Type 0 where
  won : (n : ℕ) → WonIn chess n b → a ≡ win → TrueValue b a
  lost : (n : ℕ) → LostIn chess n b → a ≡ loss → TrueValue b a
  drawn : Drawn chess b → a ≡ draw → TrueValue b a

-- What a listed move says of what it takes, and what it then leaves (02, P6). Definitions only.
use Rattle.std.specs.Prelude.{◌≡◌, true, false, suc, ◌-◌, length}
use Rattle.rules.specs.declared.Move.{Move}
use Rattle.rules.specs.Rules.{Board, stands}
use Rattle.rules.specs.Chess.{played}

pub record SaysWhatItTakes (b : Board) (m : Move) : Type 0 where
  -- marked exactly when a man of the other side stands on the target
  pub mark : m.takes ≡ stands b (1 - b.side) m.to
  -- a marked move leaves one man fewer, a plain one as many
  pub fewer : m.takes ≡ true → length b.men ≡ suc (length (played b m).men)
  pub as_many : m.takes ≡ false → length b.men ≡ length (played b m).men
  -- the kings are never what is taken
  pub white-stays : b.white ≡ m.to → ⊥
  pub black-stays : b.black ≡ m.to → ⊥

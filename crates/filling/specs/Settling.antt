-- What the laws of the same name speak of. Definitions only.
use Rattle.std.specs.Prelude.{◌≡◌, cond, List, ℕ, get_or, set}
use Rattle.theory.specs.Game.{Game}
use Rattle.table_theory.specs.Tables.{Numbering, settles, pass_byte}

pub record Settle (G : Game) (N : Numbering G) (k : ℕ) (t : List ℕ) (n did : ℕ) (after : List ℕ) : Type 0 where
  pub told : did ≡ cond (settles G N k t n) 1 0
  pub bytes : after ≡ set t n (pass_byte G N k t n (get_or t n 0))

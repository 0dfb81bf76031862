-- Moves in lent bytes, from a place on. Definitions only.
use Rattle.std.specs.Prelude.{◌≡◌, ℕ, ◌+◌, ◌*◌, length}
use mathlib.Core.List.{List, flat_map}
use Rattle.std.proofs.lemmas.List.Edits.{sets}
use Rattle.rules.specs.declared.Move.{Move}
use Rattle.move_bytes.specs.MoveBytes.{move_bytes}

-- the moves stored in l from the place `at` on: r is the place after them, `out` what the bytes are then
pub record Stored (ms : List Move) (at : ℕ) (l : List ℕ) (r : ℕ) (out : List ℕ) : Type 0 where
  pub count : r ≡ at + length ms
  pub bytes : out ≡ sets l (4 * at) (flat_map move_bytes ms)

-- `reading::pawn_byte` meets its contract.
use mathlib.Core.Path.{ap, ◌∙◌}
use Prim.Native.Nat.{ℕ}
use lib.ListN.{get_or}
use Rattle.pawn_moves.proofs.reading.pawn_byte.Goals as goal

pub returns : goal.returns
returns c = c.read.ensures ∙ ap (λ (n : ℕ). get_or c.args.table.now n 0) c.pawn_number_at-n.ensures

-- What the laws of the count speak of. Definitions only.
use Rattle.rules.specs.declared.Piece.{Piece}
use Rattle.std.specs.Prelude.{Bool, false, cond, ℕ, ◌+◌, ◌*◌, length, None, Option, Some}
use Rattle.std.specs.Int.Bits.{bit_and}
use Rattle.board.specs.Sets.{members}
use Rattle.rules.specs.Pawn.{pawn}

-- the man in a slot is a pawn
abbrev pub slot_pawn : Option Piece → Bool
slot_pawn None = false
slot_pawn (Some m) = pawn m

-- ranks 1 and 8
abbrev pub outer_ranks : ℕ
outer_ranks = 18374686479671623935

-- how many moves a man's targets make
abbrev pub man_count : Option Piece → ℕ → ℕ
man_count slot targets =
    cond (slot_pawn slot) (length (members targets) + 3 * length (members (bit_and targets outer_ranks)))
    (length (members targets))

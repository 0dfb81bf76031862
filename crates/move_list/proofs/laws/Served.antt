-- How many moves a position has: at most 62 with two men, and 35 with one; with men besides the kings all its moves
-- count.
use Rattle.rules.specs.declared.Piece.{Piece}
use Rattle.std.specs.Prelude.{◌≡◌, refl, false, ◌++◌, ◌≤◌, length, None, Option, Some}
use Rattle.std.proofs.Common.{arith}
use Rattle.finite.specs.Truth.{refuted}
use Rattle.rules.specs.Rules.{empty, all_moves, moves}
use Rattle.limit.proofs.laws.Limit.{moves-most}
use Rattle.position.specs.declared.Position.{Position}
use Rattle.position.specs.Keyed.{slot_men, board_of}
use Rattle.position.specs.Refusals.{bad_men_of, standing_with}
use Rattle.position.proofs.laws.BothSizes.{standing-placed-with, placed-men-with}
use Rattle.move_list.specs.Lists.{room}

-- two slots hold at most two men
two-men : (f s : Option Piece) → length (slot_men f ++ slot_men s) ≤ 2
two-men None None = omega arith
two-men None (Some n) = omega arith
two-men (Some m) None = omega arith
two-men (Some m) (Some n) = omega arith

-- on any bytes
pub few-moves : (p : Position) → length (all_moves (board_of p)) ≤ room
unfolding board_of
few-moves p = omega (arith, moves-most (board_of p), two-men p.first p.second)

-- one slot holds at most one
one-man : (f s : Option Piece) → s ≡ None → length (slot_men f ++ slot_men s) ≤ 1
one-man None s e = rw e (omega arith)
one-man (Some m) s e = rw e (omega arith)

-- "There are at most 35" (01): where the second man is absent
pub fewer-moves : (p : Position) → p.second ≡ None → length (all_moves (board_of p)) ≤ 35
unfolding board_of
fewer-moves p e = omega (arith, moves-most (board_of p), one-man p.first p.second e)

-- there is a man
some-man : (f s : Option Piece) → bad_men_of f s ≡ false → empty (slot_men f ++ slot_men s) ≡ false
some-man None s e = absurd (refuted e tt)
some-man (Some m) s e = refl

pub served-moves : (p : Position) → standing_with p ≡ 0 → moves (board_of p) ≡ all_moves (board_of p)
unfolding moves board_of
served-moves p z = rw (some-man p.first p.second (placed-men-with p (standing-placed-with p z)))

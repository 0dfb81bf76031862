-- The move list has room: 62 for two men, 35 for one.
use Rattle.std.specs.Prelude.{◌≡◌, ◌≤◌, List, length}
use Rattle.std.proofs.Common.{ap, arith}
use Rattle.rules.specs.declared.Piece.{Piece}
use Rattle.rules.specs.Rules.{Board, all_moves}
use Rattle.limit.proofs.laws.Limit.{moves-most}
use Rattle.numbering.specs.declared.Material.{Material}
use Rattle.numbering.specs.Material.{OfMaterial}
use Rattle.four_men.specs.Lending.{room_of}
use Rattle.four_men.proofs.laws.Materials.{one-of, two-of}

-- "The move list's room rises from 35 to 62": no board of the ending, legal or not, has more moves.
pub moves-room : (m : Material) (b : Board) → OfMaterial m b → length (all_moves b) ≤ room_of m
moves-room (Material.One kind) b e =
    let w = one-of kind b.men e in
    let h = moves-most b in let n : length b.men ≡ 1 = ap (λ (l : List Piece). length l) w.1 in omega arith
moves-room Material.Pawn b e =
    let w = one-of 4 b.men e in
    let h = moves-most b in let n : length b.men ≡ 1 = ap (λ (l : List Piece). length l) w.1 in omega arith
moves-room (Material.Two j k r) b e =
    let w = two-of j k r b.men e in
    let h = moves-most b in let n : length b.men ≡ 2 = ap (λ (l : List Piece). length l) w.2 in omega arith

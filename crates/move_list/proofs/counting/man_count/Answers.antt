-- `move_list::man_count` meets its contract.
use mathlib.Core.Path.{◌≡◌, sym, ◌∙◌}
use Prim.Native.Nat.{◌+◌, ◌*◌}
use native.Mathlib.Omega.{arith}
use Rattle.move_list.specs.Counting.{man_count}
use Rattle.move_list.proofs.laws.CountLaws.{count_none, count-pawn, count-plain}
use Rattle.move_list.proofs.counting.man_count.Goals as goal

-- the moves of a pawn
pawns : (c : goal.After-size-then-is_pawn)
    → let x = c.args in
    c.size.result + 3 * c.size-then-is_pawn.result ≡ man_count x.slot x.targets
pawns c =
    let x = c.args in
    count-pawn x.slot x.targets (sym c.is_pawn.ensures ∙ c.if-is_pawn.true) _ _ c.size.ensures c.size-then-is_pawn.ensures

pub returns-then-targets-eq0 : goal.returns-then-targets-eq0
returns-then-targets-eq0 c = let x = c.args in count_none x.slot x.targets c.if-targets-eq0.true

pub overflow_mul-result : goal.overflow_mul-result
overflow_mul-result c = omega (arith, pawns c, c.requires)

pub overflow_add-result : goal.overflow_add-result
overflow_add-result c = omega (arith, pawns c, c.requires)

pub returns-then-is_pawn : goal.returns-then-is_pawn
returns-then-is_pawn c = pawns c

pub returns : goal.returns
returns c =
    let x = c.args in
    count-plain x.slot x.targets (sym c.is_pawn.ensures ∙ c.if-is_pawn.false) _ c.size-2.ensures

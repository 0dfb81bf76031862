-- `filling::mates_in_rows` meets its contract. The loop's invariant: the pass is done below n, in place, how many numbers it
-- settled there is kept, and so is the row's set.
use mathlib.Core.Path.{◌≡◌, refl, ◌∙◌}
use Prim.Native.Nat.{ℕ, ◌≤◌}
use native.Mathlib.Omega.{arith}
use Rattle.finite.specs.Mapped.{upto-none}
use Rattle.deciding.proofs.laws.RowSets.{mate-next}
use Rattle.working_back.proofs.laws.Admitted.{most, sized, in_size, admitted-kept}
use Rattle.filling.proofs.laws.Laws.{settled-none, settled-low, settle-one, pass-turn, pass-done}
use Rattle.filling.proofs.mates.mates_in_rows.Goals as goal

pub loop-n-init : goal.loop-n-init
loop-n-init c = (upto-none _ _, settled-none _ _ _ _, λ z. absurd (z refl))

pub overflow_cast-n : goal.overflow_cast-n
overflow_cast-n c =
    let p = c.requires in
    omega (arith, c.loop-n-test.true, c.loop-n.invariant.0.same_length, most _ _ _ _ p.1)

pub settle_checked-settled-requires : goal.settle_checked-settled-requires
settle_checked-settled-requires c =
    let small = c.loop-n-test.true in
    let p = c.requires in
    (omega (arith, small, c.loop-n.invariant.0.same_length), admitted-kept _ _ _ _ p.1 _ c.loop-n.invariant.0.same_length, c.checked_row_at-squares.ensures c.requires.0 c.requires.1.colour (in_size _ _ _ _ c.requires.1 _ small) c.loop-n.invariant.2)

pub overflow_add-settled : goal.overflow_add-settled
overflow_add-settled c =
    let small = c.loop-n-test.true in
    let p = c.requires in
    let count = settled-low _ _ _ _ _ _ c.loop-n.invariant.1 in
    let one = settle-one _ _ _ _ _ _ _ c.settle_checked-settled.ensures in
    omega (arith, small, count, one, most _ _ _ _ p.1)

pub loop-n-preserved : goal.loop-n-preserved
loop-n-preserved c =
    let small = c.loop-n-test.true in
    let i = c.loop-n.invariant in
    let turn = pass-turn _ _ _ _ _ _ _ _ _ i.0 small c.settle_checked-settled.ensures i.1 in
    (turn.0, turn.1, λ z. mate-next _ _ _ z (c.checked_row_at-squares.ensures c.requires.0 c.requires.1.colour (in_size _ _ _ _ c.requires.1 _ small) c.loop-n.invariant.2))

pub shape_of-table : goal.shape_of-table
shape_of-table c = c.loop-n.invariant.0.same_length

pub returns : goal.returns
returns c =
    let i = c.loop-n.invariant in
    let p = c.requires in
    let s = sized _ _ _ _ p.1 in
    pass-done _ _ _ _ _ _ _ (at-end _ _ (omega arith) c.loop-n-test.false ∙ s) s i.0 i.1
  where
    at-end : (n s : ℕ) → n ≤ s → s ≤ n → n ≡ s
    at-end n s a b = omega arith

-- `pairs::pair_by_row` meets its contract, by the rule of the rows.
use mathlib.Core.Path.{ap, ◌∙◌}
use Prim.Native.Nat.{ℕ, ◌+◌}
use native.Mathlib.Omega.{arith}
use Rattle.pairs.proofs.laws.RowLaws.{no-square, no-bit, bit-pair}
use Rattle.pairs.proofs.rows.pair_by_row.Goals as goal

pub returns-then-black-ge64 : goal.returns-then-black-ge64
returns-then-black-ge64 c = no-square _ _ c.if-black-ge64.true

pub returns-then-row-black-eq0 : goal.returns-then-row-black-eq0
returns-then-row-black-eq0 c = no-bit _ _ _ c.partners_of-row.ensures c.if-black-ge64.false c.if-row-black-eq0.true

pub count_before-requires : goal.count_before-requires
count_before-requires c = c.if-black-ge64.false

pub overflow_add-result : goal.overflow_add-result
overflow_add-result c = omega (arith, c.first_of.ensures.1, c.count_before.ensures.1)

pub overflow_cast-result : goal.overflow_cast-result
overflow_cast-result c = omega (arith, c.first_of.ensures.1, c.count_before.ensures.1)

pub returns : goal.returns
returns c =
    let row = c.partners_of-row in
    ap (λ (n : ℕ). c.first_of.result + n) c.count_before.ensures.0
    ∙ bit-pair _ _ _ row.ensures c.if-black-ge64.false _ row.type_inv c.first_of.ensures.0 c.if-row-black-eq0.false

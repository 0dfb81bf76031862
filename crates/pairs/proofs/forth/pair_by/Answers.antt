-- `pairs::pair_by` meets its contract, by the place in the list.
use mathlib.Core.Path.{◌∙◌}
use Prim.Native.Nat.{◌/◌, ◌%◌}
use native.Mathlib.Omega.{arith}
use Rattle.pairs.proofs.laws.PackedKings.{rank_lt, skipped-small, skipped-fits, packed_lt, packed-pair}
use Rattle.pairs.proofs.forth.pair_by.Goals as goal

pub overflow_mul-i : goal.overflow_mul-i
overflow_mul-i c =
    omega (arith, rank_lt c.args.kings, skipped-small (c.args.kings % 4096 / 64 / 8) (rank_lt c.args.kings))

pub overflow_mul-i-2 : goal.overflow_mul-i-2
overflow_mul-i-2 c =
    omega (arith, rank_lt c.args.kings, skipped-small (c.args.kings % 4096 / 64 / 8) (rank_lt c.args.kings))

pub overflow_sub-i : goal.overflow_sub-i
overflow_sub-i c = omega (arith, skipped-fits c.args.kings)

pub returns-then-i-ge640 : goal.returns-then-i-ge640
returns-then-i-ge640 c =
    λ h t.
    let l = packed_lt c.args.kings h t in absurd (omega (arith, l, c.if-i-ge640.true))

pub returns : goal.returns
returns c = λ h t. c.pair_at.ensures ∙ packed-pair c.args.kings h t

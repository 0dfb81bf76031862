-- `pairs::slot_of` meets its contract.
use Prim.Native.Nat.{◌/◌}
use native.Mathlib.Omega.{arith}
use Rattle.pairs.proofs.laws.TableLaws.{slot-past, slot-above, slot-place, place-small}
use Rattle.pairs.proofs.forth.slot_of.Goals.{then-file-gt3-via-then-file-gt3, then-file-gt3-via-else-file-gt3+then-file-rank}
use Rattle.pairs.proofs.forth.slot_of.Goals as goal

pub returns-then-file-gt3 : goal.returns-then-file-gt3
returns-then-file-gt3 c =
    elim c.then-file-gt3.branch [
      | then-file-gt3-via-then-file-gt3 w ↦ slot-past _ w.if-file-gt3.true
      | then-file-gt3-via-else-file-gt3+then-file-rank w ↦ slot-above _ w.if-file-gt3.false w.if-file-rank.true
    ]

pub overflow_mul-result : goal.overflow_mul-result
overflow_mul-result c =
    omega (arith, place-small (c.args.white / 8) (omega (arith, c.if-file-gt3.false, c.if-file-rank.false)))

pub overflow_add-result : goal.overflow_add-result
overflow_add-result c =
    omega (
      arith,
      c.if-file-gt3.false,
      place-small (c.args.white / 8) (omega (arith, c.if-file-gt3.false, c.if-file-rank.false)),
    )

pub returns : goal.returns
returns c = slot-place _ c.if-file-gt3.false c.if-file-rank.false

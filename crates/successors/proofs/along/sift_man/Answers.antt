-- `successors::sift_man` meets its contract: along the frame, or one by one.
use borrow.Author.Rules.{rules}
use mathlib.Core.Path.{◌≡◌, sym, ◌∙◌}
use Prim.Native.Nat.{◌+◌, ◌*◌}
use lib.Bits.{bit_xor}
use lib.ListN.{get_or}
use Rattle.position.proofs.laws.PosedLaws.{complete-spread}
use Rattle.successors.proofs.laws.FramingLaws.{frame-side}
use Rattle.successors.proofs.laws.TakingLaws.{quiet-legal}
use Rattle.successors.proofs.laws.QuietLaws.{byte-plain}
use Rattle.successors.proofs.along.sift_man.Goals as goal

pub returns-then-is_plain : goal.returns-then-is_plain
returns-then-is_plain c =
    λ w e o. c.sift.ensures _ _ _ _ e
    (λ t r h z p.
    let d : r ≡ get_or c.args.table.now (c.base_for-base.result + bit_xor t c.frame_for-f.result.flip * c.scale_for-scale.result) 0 = search rules in
    d ∙ byte-plain _ _ _ t z w _ _ _ _
    (frame-side _ _ _ _ _ c.other.ensures
    (c.frame_for-f.ensures (complete-spread w).white (complete-spread w).black))
    (sym c.is_plain.ensures ∙ c.if-is_plain.true) o _ _ c.base_for-base.ensures.0 c.scale_for-scale.ensures)

pub returns : goal.returns
returns c = λ w e o. c.sift_each.ensures w _ e (quiet-legal _ _ _)

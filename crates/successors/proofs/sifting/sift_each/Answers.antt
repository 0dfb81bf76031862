-- `successors::sift_each` meets its contract.
use borrow.Author.Rules.{rules}
use Rattle.position.proofs.laws.PosedLaws.{complete-spread}
use Rattle.successors.proofs.laws.FramingLaws.{frame-side}
use Rattle.successors.proofs.sifting.sift_each.Goals as goal

pub returns : goal.returns
returns c =
    λ w goes e g. let s = complete-spread w in
    let d = frame-side _ _ _ _ _ c.other.ensures (c.frame_for-f.ensures s.white s.black) in
    c.sift.ensures _ _ _ _ e (λ t r h z p. let u = g t z in search rules)

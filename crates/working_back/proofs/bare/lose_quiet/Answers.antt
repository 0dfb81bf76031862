-- `working_back::lose_quiet` meets its contract.
use mathlib.Core.Path.{refl, subst}
use mathlib.Core.Bool.{Bool}
use Rattle.working_back.specs.Bare.{Saves, QuietLoss}
use Rattle.working_back.proofs.bare.lose_quiet.Goals as goal

pub look-seen-requires : goal.look-seen-requires
look-seen-requires c = let p = c.requires in (p.2, p.3, p.4)

pub returns-then-saved : goal.returns-then-saved
returns-then-saved c =
    let x = c.args in
    let w = c.look-seen.ensures in
    (QuietLoss.saved (subst (λ (b : Bool). Saves x.m x.k x.white x.x x.y x.table.now x.goals b) c.if-saved.true w.0) refl, w.1)

pub returns : goal.returns
returns c =
    let x = c.args in
    let w = c.look-seen.ensures in
    (QuietLoss.lost (subst (λ (b : Bool). Saves x.m x.k x.white x.x x.y x.table.now x.goals b) c.if-saved.false w.0) refl, w.1)

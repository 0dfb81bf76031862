-- `look_up::look_up_normal` meets its contract.
use native.Mathlib.Omega.{arith}
use borrow.Author.Tests.{not-true, not-false}
use Rattle.look_up.proofs.laws.Checked.{check-stands, none-stands}
use Rattle.look_up.proofs.laws.Laws.{of-pieces, check-of, refused-standing, refused-length, told-answer, fit_of}
use Rattle.look_up.proofs.look_up_normal.Goals as goal

pub returns-then-checked : goal.returns-then-checked
returns-then-checked c =
    λ p z k w. refused-standing _ _ p 6
    (check-stands p z _ (check-of p _ z w k _ _ c.other.ensures c.checked.ensures) c.if-checked.true)
    (λ e. omega arith)

pub returns-then-not-lengths_fit : goal.returns-then-not-lengths_fit
returns-then-not-lengths_fit c =
    let men = c.args.normal.men in
    λ p z k w. refused-length _ _ p
    (none-stands p z _ (check-of p _ z w k _ _ c.other.ensures c.checked.ensures) c.if-checked.false) _
    (λ y. w) _ (fit_of _ _ men _ _ c.material_for.ensures c.lengths_fit.ensures) c.if-not-lengths_fit.true

pub returns : goal.returns
returns c =
    let men = c.args.normal.men in
    λ p z k w. told-answer _ _ p
    (none-stands p z _ (check-of p _ z w k _ _ c.other.ensures c.checked.ensures) c.if-checked.false) _
    (λ y. w) _ (fit_of _ _ men _ _ c.material_for.ensures c.lengths_fit.ensures) c.if-not-lengths_fit.false _ _
    (λ s. c.byte_at-byte.ensures (of-pieces p _ z w k s) _ _) (λ s. c.verdict_on-verdict.ensures (of-pieces p _ z w k s)) _
    c.told.ensures

-- `look_up::look_up_pawn` meets its contract.
use Rattle.std.proofs.lemmas.Result.{err_from_is_err_and}
use Rattle.desk_refusals.proofs.laws.Numbers.{handed-on, none-refused}
use mathlib.Core.Path.{refl, sym, ap, ◌∙◌}
use Prim.Native.Nat.{ℕ}
use native.Mathlib.Omega.{arith}
use borrow.Author.Tests.{not-true, not-false}
use Rattle.rules.specs.Rules.{Board, in_check}
use Rattle.index.proofs.laws.PawnLaws.{pawn-place-told}
use Rattle.successors.specs.Successors.{verdict_of}
use Rattle.deciding.proofs.laws.PawnVerdicts.{for-pawn, own-byte}
use Rattle.look_up.proofs.laws.Checked.{placing-stands, check-stands, none-stands}
use Rattle.look_up.proofs.laws.Laws.{of-pawn, refused-standing, refused-length, told-answer, fit_of}
use Rattle.look_up.proofs.look_up_pawn.Goals as goal

pub returns-in_err-placing_with : goal.returns-in_err-placing_with
returns-in_err-placing_with c =
    let p = err_from_is_err_and c.from_residual.result c.from_residual.ensures.1 in
    let x = handed-on _ _ _ _ _ c.in_err-placing_with.was c.placing_with.ensures p.1 p.2 in
    λ k. x.0 ∙ refused-standing _ _ _ _ (placing-stands _ _ refl x.2) x.2

pub returns-then-in_check : goal.returns-then-in_check
returns-then-in_check c =
    let z = sym c.placing_with.ensures ∙ (none-refused _ _ c.in_ok-placing_with.was) in
    λ k. refused-standing _ _ _ 6
    (check-stands _ z _ (c.in_check.ensures ∙ ap (in_check _) c.other.ensures) c.if-in_check.true)
    (λ e. omega arith)

pub returns-then-not-lengths_fit : goal.returns-then-not-lengths_fit
returns-then-not-lengths_fit c =
    let z = sym c.placing_with.ensures ∙ (none-refused _ _ c.in_ok-placing_with.was) in
    λ k. refused-length _ _ _
    (none-stands _ z _ (c.in_check.ensures ∙ ap (in_check _) c.other.ensures) c.if-in_check.false) _
    (λ y. pawn-place-told _ _ refl k y _ c.pawn_normal_place-normal.ensures) _
    (fit_of _ _ c.pawn_normal_place-normal.result.men _ _ c.material_for.ensures c.lengths_fit.ensures)
    c.if-not-lengths_fit.true

pub returns : goal.returns
returns c =
    let z = sym c.placing_with.ensures ∙ (none-refused _ _ c.in_ok-placing_with.was) in
    let own = c.pawn_normal_place-normal.ensures in
    λ k. told-answer _ _ _
    (none-stands _ z _ (c.in_check.ensures ∙ ap (in_check _) c.other.ensures) c.if-in_check.false) _
    (λ y. pawn-place-told _ _ refl k y _ own) _
    (fit_of _ _ c.pawn_normal_place-normal.result.men _ _ c.material_for.ensures c.lengths_fit.ensures)
    c.if-not-lengths_fit.false _ _ (λ s. own-byte _ _ _ _ _ _ (of-pawn _ _ own s) c.pawn_byte-byte.ensures)
    (λ s. for-pawn _ _ (λ (g : Board → ℕ) (x : Board). verdict_of g c.pawn_byte-byte.result x) _ _ _ _ (of-pawn _ _ own s)
    (c.pawn_verdict.ensures (of-pawn _ _ own s).on)) _
    c.told.ensures

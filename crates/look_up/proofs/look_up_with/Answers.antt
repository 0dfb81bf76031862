-- `look_up::look_up_with` meets its contract: with a pawn, refused, or of pieces.
use Rattle.std.proofs.lemmas.Result.{err_from_is_err_and}
use Rattle.desk_refusals.proofs.laws.Numbers.{handed-on, none-refused}
use mathlib.Core.Path.{refl, sym, ap, ◌∙◌}
use Rattle.rules.specs.declared.Piece.{Piece}
use Rattle.look_up.proofs.laws.Checked.{placing-stands}
use Rattle.look_up.proofs.laws.Laws.{refused-standing}
use Rattle.look_up.proofs.look_up_with.Goals as goal

pub returns-then-man-eq-PAWN : goal.returns-then-man-eq-PAWN
returns-then-man-eq-PAWN c =
    c.look_up_pawn.ensures (sym (ap (λ (x : Piece). x.kind) c.man_in-man.ensures) ∙ c.if-man-eq-PAWN.true)

pub returns-in_err-placing_with : goal.returns-in_err-placing_with
returns-in_err-placing_with c =
    let p = err_from_is_err_and c.from_residual.result c.from_residual.ensures.1 in
    let x = handed-on _ _ _ _ _ c.in_err-placing_with.was c.placing_with.ensures p.1 p.2 in
    x.0 ∙ refused-standing _ _ _ _ (placing-stands _ _ refl x.2) x.2

pub returns : goal.returns
returns c =
    let z = sym c.placing_with.ensures ∙ (none-refused _ _ c.in_ok-placing_with.was) in
    let kind = ap (λ (x : Piece). x.kind) c.man_in-man.ensures in
    c.look_up_normal.ensures _ z (λ k. c.if-man-eq-PAWN.false (kind ∙ k))
    (c.normal_place-normal.ensures z (λ k. c.if-man-eq-PAWN.false (kind ∙ k)))

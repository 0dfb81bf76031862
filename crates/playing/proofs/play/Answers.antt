-- `playing::play` meets its contract: refused, not among the targets, misnamed, or made and closed up.
use Rattle.std.proofs.lemmas.Result.{err_from_is_err_and}
use Rattle.desk_refusals.proofs.laws.Numbers.{handed-on, none-refused}
use mathlib.Core.Path.{refl, ◌∙◌}
use borrow.Author.Rules.{rules}
use borrow.Author.Tests.{not-true, not-false}
use Rattle.playing.proofs.laws.PlayLaws.{refused-play, illegal-play, unnamed-play, legal-play}
use Rattle.playing.proofs.play.Goals as goal

pub returns-in_err-standing_with : goal.returns-in_err-standing_with
returns-in_err-standing_with c =
    let p = err_from_is_err_and c.from_residual.result c.from_residual.ensures.1 in
    let x = handed-on _ _ _ _ _ c.in_err-standing_with.was c.standing_with.ensures p.1 p.2 in
    x.0 ∙ refused-play c.args.p c.args.from c.args.to c.args.becomes _ refl x.2

pub returns-then-not-has : goal.returns-then-not-has
returns-then-not-has c =
    let a = c.args in
    illegal-play a.p a.from a.to a.becomes _ c.standing_with.ensures (none-refused _ _ c.in_ok-standing_with.was) _
    c.legal_targets.ensures c.legal_targets.type_inv _ c.has.ensures c.if-not-has.true

pub returns-then-not-is_named : goal.returns-then-not-is_named
returns-then-not-is_named c =
    let a = c.args in
    unnamed-play a.p a.from a.to a.becomes _ c.standing_with.ensures (none-refused _ _ c.in_ok-standing_with.was) _
    c.legal_targets.ensures c.legal_targets.type_inv _ c.has.ensures c.if-not-has.false _
    c.promoting_set.ensures _ c.has-2.ensures _ c.is_named.ensures c.if-not-is_named.true

pub returns : goal.returns
returns c =
    let a = c.args in
    legal-play a.p a.from a.to a.becomes _ c.standing_with.ensures (none-refused _ _ c.in_ok-standing_with.was) _
    c.legal_targets.ensures c.legal_targets.type_inv _ c.has.ensures c.if-not-has.false _
    c.promoting_set.ensures _ c.has-2.ensures _ c.is_named.ensures _ _
    c.if-not-is_named.false c.make_as.ensures c.closed_up.ensures

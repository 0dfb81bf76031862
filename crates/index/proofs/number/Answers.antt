-- `index::number` meets its contract: the refusal, or the number.
use Rattle.std.specs.Prelude.{Ok}
use mathlib.Core.Path.{ap, sym, ◌∙◌}
use Rattle.std.proofs.lemmas.Result.{err_from_is_err_and}
use Rattle.desk_refusals.proofs.laws.Numbers.{handed-on, none-refused}
use Rattle.index.proofs.laws.AnswerLaws.{numbered_is, numbered-refused}
use Rattle.index.proofs.laws.AloneLaws.{placing-with, number-alone}
use Rattle.index.proofs.number.Goals as goal

pub returns-in_err-placing_refusal : goal.returns-in_err-placing_refusal
returns-in_err-placing_refusal c =
    let p = err_from_is_err_and c.from_residual.result c.from_residual.ensures.1 in
    let x = handed-on _ _ _ _ _ c.in_err-placing_refusal.was c.placing_refusal.ensures p.1 p.2 in
    x.0 ∙ sym (numbered-refused c.args.p x.2)

pub returns : goal.returns
returns c =
    let p = c.args.p in
    let z = sym c.placing_refusal.ensures ∙ none-refused _ _ c.in_ok-placing_refusal.was in
    ap Ok (c.placed_number.ensures (placing-with p z) ∙ number-alone p z) ∙ sym (numbered_is p z)

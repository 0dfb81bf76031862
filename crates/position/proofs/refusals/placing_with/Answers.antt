-- `position::placing_with` meets its contract.
use Rattle.std.proofs.Common.{◌∙◌, ap}
use Rattle.std.specs.Prelude.{cond}
use Rattle.position.specs.Refusals.{later_refusal, placing_with}
use Rattle.position.proofs.refusals.placing_with.Goals as goal

pub returns : goal.returns
unfolding placing_with
returns c = c.refusal_of.ensures ∙ ap (λ b. cond b 1 (later_refusal c.args.p)) c.bad_men_of.ensures

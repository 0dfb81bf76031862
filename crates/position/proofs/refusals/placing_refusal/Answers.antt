-- `position::placing_refusal` meets its contract.
use Rattle.std.proofs.Common.{◌∙◌, ap}
use Rattle.std.specs.Prelude.{cond}
use Rattle.position.specs.Refusals.{later_refusal, placing_refusal}
use Rattle.position.proofs.refusals.placing_refusal.Goals as goal

pub returns : goal.returns
unfolding placing_refusal
returns c = c.refusal_of.ensures ∙ ap (λ b. cond b 1 (later_refusal c.args.p)) c.bad_men.ensures

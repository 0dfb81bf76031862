-- `filling::step_at` meets its contract.
use Rattle.filling.proofs.laws.StepCode.{step-254}
use Rattle.filling.proofs.steps.step_at.Goals as goal

pub returns : goal.returns
returns c = step-254 _ _ _ _ _ _ _ c.requires.0 c.if-k-lt-DEPTHS.false c.last_step.ensures

use Rattle.board.proofs.laws.StepLaws.{step_is}
use Rattle.board.proofs.steps.step_at.Goals as goal

pub returns : goal.returns
returns c = step_is c.args.k c.requires

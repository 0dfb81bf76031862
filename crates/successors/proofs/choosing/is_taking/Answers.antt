-- `successors::is_taking` meets its contract.
use Rattle.successors.proofs.laws.PlaceLaws.{place-taking}
use Rattle.successors.proofs.choosing.is_taking.Goals as goal

pub returns : goal.returns
returns c = λ h. place-taking _ _ _ _ h c.other-foe.ensures

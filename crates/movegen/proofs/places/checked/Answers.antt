-- `movegen::checked` meets its contract.
use Rattle.position.proofs.laws.PosedLaws.{complete-spread}
use Rattle.movegen.proofs.places.checked.Goals as goal

pub returns : goal.returns
returns c = λ k. let w = complete-spread k in c.men_check.ensures w.pawnless w.kings

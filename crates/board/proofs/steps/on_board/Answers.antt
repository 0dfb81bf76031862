use Rattle.std.proofs.Common.{arith}
use Rattle.std.proofs.lemmas.Bool.Decides.{nat_tests}
use Rattle.board.specs.StepLaws.{square_at}
use Rattle.board.proofs.steps.on_board.Goals as goal

pub returns-then-x-lt2 : goal.returns-then-x-lt2
unfolding square_at
returns-then-x-lt2 c = let off = c.then-x-lt2.either in grind (arith, nat_tests)

pub returns : goal.returns
unfolding square_at
returns c = grind (arith, nat_tests)

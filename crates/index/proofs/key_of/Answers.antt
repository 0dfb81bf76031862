-- `index::key_of` meets its contract: the kings' digits, and then a digit for each man. Assumes nothing.
use native.Mathlib.Omega.{arith}
use Rattle.index.proofs.laws.AnswerLaws.{by_slots}
use Rattle.index.proofs.key_of.Goals as goal

pub with_man-requires-2 : goal.with_man-requires-2
with_man-requires-2 c = omega (arith, c.with_man.ensures.1)

pub returns : goal.returns
returns c =
    let p = c.args.p in
    by_slots _ _ _ p.first p.second c.with_man.ensures.0 c.with_man-2.ensures.0

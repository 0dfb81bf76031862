-- `working_back::pass_back` meets its contract.
use native.Mathlib.Omega.{arith}
use Rattle.working_back.proofs.laws.Admitted.{most, admitted-kept}
use Rattle.rules.specs.Chess.{chess}
use Rattle.working_back.specs.Admitted.{over}
use Rattle.working_back.proofs.laws.Few.{alive-kept}
use Rattle.working_back.proofs.laws.Found.{back-both}
use Rattle.working_back.proofs.back.pass_back.Goals as goal

pub pass_captures-a-requires : goal.pass_captures-a-requires
pass_captures-a-requires c = (c.requires.0, c.requires.1, c.requires.2, c.requires.3.1.alive)

pub pass_own-b-requires : goal.pass_own-b-requires
pass_own-b-requires c =
    (c.requires.0, c.requires.1, admitted-kept _ _ _ _ c.requires.2 _ c.pass_captures-a.ensures.0.long, c.requires.3.0, alive-kept chess (over c.args.m c.args.first.now c.args.second.now) c.args.k 22708224 _ _ _ c.pass_captures-a.ensures.0 c.requires.3.1.alive)

pub overflow_add-result : goal.overflow_add-result
overflow_add-result c =
    let all = most _ _ _ _ c.requires.2 in
    let f = c.pass_captures-a.ensures.0 in
    omega (arith, all, f.few, f.long, c.pass_own-b.ensures.0.few)

pub returns : goal.returns
returns c =
    back-both c.args.m c.args.first.now c.args.second.now _ c.requires.2 c.args.k c.requires.0 c.requires.3 _ _ _ _ c.pass_captures-a.ensures
    c.pass_own-b.ensures

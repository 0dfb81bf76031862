-- `working_back::next_before` meets its contract. The loop's invariant: no number passed holds the byte.
use Rattle.std.specs.Prelude.{◌≡◌}
use Rattle.std.proofs.Common.{subst}
use native.Mathlib.Omega.{arith}
use Rattle.working_back.specs.Back.{Passes}
use Rattle.working_back.proofs.laws.Passing.{passes_none, passes-one}
use Rattle.working_back.proofs.finding.next_before.Goals as goal

pub loop-n-init : goal.loop-n-init
loop-n-init c = let p = c.requires in passes_none _ _ _ (omega (arith, p.0, p.1))

pub bounds-table-n : goal.bounds-table-n
bounds-table-n c = omega (arith, c.loop-n-test.true, c.requires.1)

pub returns-then-table-n : goal.returns-then-table-n
returns-then-table-n c =
    record { passes = c.loop-n.invariant; upto = omega (arith, c.loop-n-test.true); here = λ h. c.if-table-n.true }

pub loop-n-preserved : goal.loop-n-preserved
loop-n-preserved c =
    let l = c.loop-n in
    passes-one c.args.table.now _ _ l.n l.invariant (omega (arith, c.loop-n-test.true, c.requires.1)) c.if-table-n.false

pub returns : goal.returns
returns c =
    let x = c.args in
    let all : c.loop-n.n ≡ x.end = omega (arith, c.loop-n-test.false) in record {
      passes = subst (Passes x.table.now x.byte x.from) all c.loop-n.invariant;
      upto = omega arith;
      here = λ h. absurd (omega (arith, h));
    }

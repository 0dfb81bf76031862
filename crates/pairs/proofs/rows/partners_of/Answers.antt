-- `pairs::partners_of` meets its contract: each arm by the square that it names.
use native.Mathlib.Omega.{arith}
use Rattle.std.proofs.lemmas.Bool.Decides.{nat_tests}
use Rattle.pairs.specs.Rows.{partners_of}
use Rattle.pairs.proofs.rows.partners_of.Goals as goal

pub returns-in-0 : goal.returns-in-0
unfolding partners_of
returns-in-0 c = rw c.in-0.is

pub returns-in-1 : goal.returns-in-1
unfolding partners_of
returns-in-1 c = rw c.in-1.is

pub returns-in-2 : goal.returns-in-2
unfolding partners_of
returns-in-2 c = rw c.in-2.is

pub returns-in-3 : goal.returns-in-3
unfolding partners_of
returns-in-3 c = rw c.in-3.is

pub returns-in-9 : goal.returns-in-9
unfolding partners_of
returns-in-9 c = rw c.in-9.is

pub returns-in-10 : goal.returns-in-10
unfolding partners_of
returns-in-10 c = rw c.in-10.is

pub returns-in-11 : goal.returns-in-11
unfolding partners_of
returns-in-11 c = rw c.in-11.is

pub returns-in-18 : goal.returns-in-18
unfolding partners_of
returns-in-18 c = rw c.in-18.is

pub returns-in-19 : goal.returns-in-19
unfolding partners_of
returns-in-19 c = rw c.in-19.is

pub returns-in-27 : goal.returns-in-27
unfolding partners_of
returns-in-27 c = rw c.in-27.is

pub returns-in_default : goal.returns-in_default
unfolding partners_of
returns-in_default c = grind (arith, nat_tests)

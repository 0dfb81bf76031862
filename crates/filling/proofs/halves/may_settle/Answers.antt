-- `filling::may_settle` meets its contract.
use mathlib.Core.Path.{refl}
use native.Mathlib.Omega.{arith}
use Rattle.finite.specs.Truth.{true-not-false}
use Rattle.deciding.proofs.laws.PawnLaws.{given-known}
use Rattle.working_back.proofs.laws.Admitted.{lent-long}
use Rattle.filling.proofs.laws.Quiet.{quiet_one, quiet-two, absent-part}
use Rattle.filling.proofs.halves.may_settle.Goals as goal

pub returns-then-m-eq-PAWN : goal.returns-then-m-eq-PAWN
returns-then-m-eq-PAWN c = λ e. absurd (true-not-false refl e)

pub returns-then-k-eq0 : goal.returns-then-k-eq0
returns-then-k-eq0 c = λ e. absurd (true-not-false refl e)

pub returns-then-m-ge4 : goal.returns-then-m-ge4
returns-then-m-ge4 c =
    let p = c.requires in
    λ e. quiet_one c.args.m _ _ _ _ _ _ _ c.if-k-eq0.false
    (absent-part _ _ _ _ p.2 _ c.contains.ensures.cases c.if-contains.false)
    (given-known c.args.m p.5.ending c.if-m-eq-PAWN.false) c.if-m-ge4.true

pub returns-else-contains-2 : goal.returns-else-contains-2
returns-else-contains-2 c =
    let p = c.requires in
    let long = lent-long _ _ _ _ p.5 c.if-m-ge4.false in
    λ e. quiet-two c.args.m _ _ _ _ _ _ _ c.if-k-eq0.false
    (absent-part _ _ _ _ p.2 _ c.contains.ensures.cases c.if-contains.false)
    (given-known c.args.m p.5.ending c.if-m-eq-PAWN.false) c.if-m-ge4.false
    (absent-part _ _ _ _ (omega (arith, long.0, p.4)) _ c.contains-2.ensures.cases c.if-contains-2.false)
    (absent-part _ _ _ _ (omega (arith, long.1, p.4)) _ c.contains-else-contains-2.ensures.cases e)

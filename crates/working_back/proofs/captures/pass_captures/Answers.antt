-- `working_back::pass_captures` meets its contract.
use mathlib.Core.Path.{refl}
use mathlib.Core.Logic.{inl, inr}
use native.Mathlib.Omega.{arith}
use Rattle.rules.specs.Chess.{chess}
use Rattle.working_back.specs.Admitted.{over}
use Rattle.working_back.proofs.laws.Admitted.{admitted-kept}
use Rattle.working_back.proofs.laws.Few.{alive-kept}
use Rattle.working_back.proofs.laws.Captures.{none-swept, all-swept, lent-second, lent-like, lent-unlike}
use Rattle.working_back.proofs.captures.pass_captures.Goals as goal

pub returns-then-m-ge4 : goal.returns-then-m-ge4
returns-then-m-ge4 c =
    none-swept c.args.m c.args.first.now c.args.second.now c.args.k _ c.requires.2 c.if-m-ge4.true

pub pass_lent-a-requires : goal.pass_lent-a-requires
pass_lent-a-requires c =
    (c.requires.0, c.requires.1, c.requires.2, c.requires.3, c.if-m-ge4.false, inr refl, lent-second c.args.m c.args.first.now c.args.second.now)

pub pass_lent-b-requires : goal.pass_lent-b-requires
pass_lent-b-requires c = (
  c.requires.0,
  c.requires.1,
  admitted-kept _ _ _ _ c.requires.2 _ c.pass_lent-a.ensures.0.long,
  alive-kept chess (over c.args.m c.args.first.now c.args.second.now) c.args.k 11354112 _ _ _ c.pass_lent-a.ensures.0 c.requires.3,
  c.if-m-ge4.false,
  inl refl,
  lent-like c.args.m c.args.first.now c.args.second.now c.if-m.true,
)

pub overflow_add-result : goal.overflow_add-result
overflow_add-result c = omega (arith, c.pass_lent-a.ensures.0.few, c.pass_lent-b.ensures.0.few)

pub returns-then-m : goal.returns-then-m
returns-then-m c =
    all-swept c.args.m c.args.first.now c.args.second.now c.args.k _ c.requires.2 c.if-m-ge4.false _ _ _ _ c.pass_lent-a.ensures
    c.pass_lent-b.ensures

pub pass_lent-b-requires-2 : goal.pass_lent-b-requires-2
pass_lent-b-requires-2 c = (
  c.requires.0,
  c.requires.1,
  admitted-kept _ _ _ _ c.requires.2 _ c.pass_lent-a.ensures.0.long,
  alive-kept chess (over c.args.m c.args.first.now c.args.second.now) c.args.k 11354112 _ _ _ c.pass_lent-a.ensures.0 c.requires.3,
  c.if-m-ge4.false,
  inl refl,
  lent-unlike c.args.m c.args.first.now c.args.second.now c.if-m.false,
)

pub overflow_add-result-2 : goal.overflow_add-result-2
overflow_add-result-2 c = omega (arith, c.pass_lent-a.ensures.0.few, c.pass_lent-b-2.ensures.0.few)

pub returns : goal.returns
returns c =
    all-swept c.args.m c.args.first.now c.args.second.now c.args.k _ c.requires.2 c.if-m-ge4.false _ _ _ _ c.pass_lent-a.ensures
    c.pass_lent-b-2.ensures

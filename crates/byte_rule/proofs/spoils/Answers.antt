-- `rule::spoils` meets its contract.
use borrow.Author.Rules.{rules}
use borrow.Author.Tests.{eq-eqb, ne_eqb}
use Rattle.theory.specs.Verdict.{spoils}
use Rattle.byte_rule.proofs.spoils.Goals as goal

pub returns-then-k-eq0 : goal.returns-then-k-eq0
unfolding spoils
returns-then-k-eq0 c = simp (eq-eqb _ _ c.if-k-eq0.true, c.is_win.ensures)

pub returns : goal.returns
unfolding spoils
returns c = simp (ne_eqb _ _ c.if-k-eq0.false)

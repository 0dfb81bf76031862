-- `rule::suits` meets its contract.
use borrow.Author.Rules.{rules}
use borrow.Author.Tests.{le-leb, lt-leb}
use Rattle.theory.specs.Play.{suits}
use Rattle.byte_rule.proofs.suits.Goals as goal

pub returns-then-b-le1 : goal.returns-then-b-le1
unfolding suits
returns-then-b-le1 c = simp (le-leb _ _ c.if-b-le1.true)

pub returns : goal.returns
unfolding suits
returns c = simp (lt-leb _ _ c.if-b-le1.false)

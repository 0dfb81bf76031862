-- `look_up::answer` meets its contract.
use borrow.Author.Rules.{rules}
use borrow.Author.Tests.{le-leb, lt-leb, eq-eqb, ne_eqb}
use Rattle.endings.specs.Answers.{answer_of}
use Rattle.look_up.proofs.answer.Goals as goal

pub returns-then-byte-le1 : goal.returns-then-byte-le1
unfolding answer_of
returns-then-byte-le1 c = simp (le-leb _ _ c.if-byte-le1.true)

pub returns-then-byte-eq1 : goal.returns-then-byte-eq1
unfolding answer_of
returns-then-byte-eq1 c = simp (lt-leb _ _ c.if-byte-le1.false, eq-eqb _ _ c.if-byte-eq1.true)

pub returns : goal.returns
unfolding answer_of
returns c = simp (lt-leb _ _ c.if-byte-le1.false, ne_eqb _ _ c.if-byte-eq1.false)

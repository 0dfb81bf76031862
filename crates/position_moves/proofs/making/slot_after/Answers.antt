use mathlib.Core.Path.{sym, ap, ◌∙◌}
use borrow.Author.Tests.{eq-eqb, ne_eqb}
use Rattle.movegen.specs.After.{slot_after}
use Rattle.position_moves.proofs.making.slot_after.Goals as goal

pub returns-then-m-to : goal.returns-then-m-to
returns-then-m-to c =
    let a = c.args in
    sym (ap (slot_after a.from a.to) c.in-Some.is
    ∙ rw (eq-eqb _ a.to c.if-m-to.true))

pub returns-else-m-to : goal.returns-else-m-to
returns-else-m-to c =
    let a = c.args in
    sym (ap (slot_after a.from a.to) c.in-Some.is
    ∙ rw (ne_eqb _ a.to c.if-m-to.false, ← c.carried.ensures))

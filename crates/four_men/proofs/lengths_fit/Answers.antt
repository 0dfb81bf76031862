-- `four_men::lengths_fit` meets its contract: by the arm.
use mathlib.Core.Path.{ap, sym}
use borrow.Author.Rules.{rules}
use Rattle.numbering.specs.declared.Material.{Material}
use Rattle.four_men.specs.Lending.{lent}
use Rattle.four_men.specs.Answers.{lengths_fit}
use Rattle.four_men.proofs.lengths_fit.Goals as goal

pub returns-in-One : goal.returns-in-One
returns-in-One c =
    let a = c.args in
    sym (ap (λ (m : Material). lengths_fit m (lent a.first.now a.second.now) a.table.now)
    c.in-One.is)

pub returns-in-Two : goal.returns-in-Two
returns-in-Two c =
    let a = c.args in
    sym (ap (λ (m : Material). lengths_fit m (lent a.first.now a.second.now) a.table.now)
    c.in-Two.is)

pub returns-in-Pawn : goal.returns-in-Pawn
returns-in-Pawn c =
    let a = c.args in
    sym (ap (λ (m : Material). lengths_fit m (lent a.first.now a.second.now) a.table.now)
    c.in-Pawn.is)

-- `index::materials::men_of` meets its contract.
use Rattle.std.specs.Prelude.{cond}
use mathlib.Core.Path.{◌≡◌, sym}
use native.Mathlib.Omega.{arith}
use Rattle.index.proofs.laws.WithLaws.{men-one, men-two}
use borrow.Author.Rules.{rules}
use Rattle.index.proofs.materials.men_of.Goals as goal

pub returns-in-One : goal.returns-in-One
returns-in-One c = λ t. men-one _ _ c.in-One.is t

pub returns-in-Two : goal.returns-in-Two
returns-in-Two c =
    let e : c.from.result ≡ cond c.in-Two.rivals 1 0 = search rules in λ t. men-two _ _ _ _ _ c.in-Two.is e t

pub returns-in-Pawn : goal.returns-in-Pawn
returns-in-Pawn c = λ t. rw c.pawn_men.ensures (sym c.in-Pawn.is, omega arith)

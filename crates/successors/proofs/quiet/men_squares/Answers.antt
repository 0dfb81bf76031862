-- `successors::men_squares` meets its contract.
use mathlib.Core.Path.{◌∙◌, ap₂}
use mathlib.Core.Bool.{◌||◌}
use Prim.Native.Nat.{ℕ}
use lib.Dec.{eqb}
use Rattle.board.proofs.laws.SetLaws.{has-or, set-has}
use Rattle.finite.specs.Truth.{eqb-sym}
use Rattle.successors.proofs.quiet.men_squares.Goals as goal

pub returns : goal.returns
returns c =
    let a = c.args.q in
    λ t h. has-or _ _ t
    ∙ ap₂ ◌||◌ (set-has (λ (u : ℕ). eqb u a.first) c.one.ensures t h ∙ eqb-sym t a.first)
    (set-has (λ (u : ℕ). eqb u a.second) c.one-2.ensures t h ∙ eqb-sym t a.second)

-- `retracting::strikes` meets its contract.
use mathlib.Core.Path.{sym}
use native.Mathlib.Omega.{arith}
use Rattle.finite.specs.Truth.{fails}
use Rattle.board.specs.Reach.{reaches}
use Rattle.board.specs.Sets.{has}
use Rattle.board.proofs.laws.ReachLaws.{reaches-squares}
use Rattle.retracting.proofs.places.strikes.Goals as goal

pub returns-then-s-ge64 : goal.returns-then-s-ge64
returns-then-s-ge64 c =
    let x = c.args in
    sym (fails (reaches (has x.occ) x.kind x.s x.t)
    (λ r. omega (arith, c.if-s-ge64.true, (reaches-squares (has x.occ) x.kind x.s x.t r).0)))

pub returns : goal.returns
returns c = c.attacks.ensures

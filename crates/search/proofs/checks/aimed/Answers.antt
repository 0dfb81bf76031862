-- `search::aimed` meets its contract.
use mathlib.Core.Path.{sym, ◌∙◌}
use Rattle.board.specs.Sets.{has}
use Rattle.board.proofs.laws.SetLaws.{has-none, set-has}
use Rattle.search.proofs.laws.TriedLaws.{aims-elsewhere, aims-here}
use Rattle.search.proofs.checks.aimed.Goals as goal

pub returns-then-m-from : goal.returns-then-m-from
returns-then-m-from c =
    let x = c.args in
    λ t h. has-none t ∙ sym (aims-elsewhere (has x.occ) x.from x.at t x.m c.if-m-from.true)

pub returns : goal.returns
returns c =
    let x = c.args in
    λ t h. set-has _ c.targets.ensures t h
    ∙ sym (aims-here (has x.occ) x.from x.at t x.m c.if-m-from.false)

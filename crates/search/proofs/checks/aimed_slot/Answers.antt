-- `search::aimed_slot` meets its contract.
use mathlib.Core.Path.{sym, ◌∙◌}
use Rattle.board.specs.Sets.{has}
use Rattle.board.proofs.laws.SetLaws.{has-none}
use Rattle.search.proofs.laws.TriedLaws.{aims-absent, aims-present}
use Rattle.search.proofs.checks.aimed_slot.Goals as goal

pub returns-in-None : goal.returns-in-None
returns-in-None c =
    let x = c.args in λ t h. has-none t
    ∙ sym (aims-absent (has x.occ) x.from x.at t _ c.in-None.is)

pub returns-in-Some : goal.returns-in-Some
returns-in-Some c =
    let x = c.args in λ t h. c.aimed.ensures t h
    ∙ sym (aims-present (has x.occ) x.from x.at t _ _ c.in-Some.is)

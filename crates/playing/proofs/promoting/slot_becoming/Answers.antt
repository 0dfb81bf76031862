-- `playing::promoting::slot_becoming` meets its contract.
use mathlib.Core.Path.{sym, ap, ◌∙◌}
use Rattle.playing.specs.Playing.{slot_becoming}
use borrow.Author.Rules.{rules}
use Rattle.playing.proofs.promoting.slot_becoming.Goals as goal

pub returns-in-Some : goal.returns-in-Some
returns-in-Some c =
    let a = c.args in
    sym (ap (slot_becoming a.side a.to a.kind) c.in-Some.is
    ∙ rw (← c.kind_after.ensures))

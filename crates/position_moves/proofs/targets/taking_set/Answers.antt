-- `moves::taking_set` meets its contract.
use mathlib.Core.Path.{ap, ◌∙◌}
use Prim.Native.Nat.{ℕ}
use Rattle.board.specs.Sets.{set_of}
use Rattle.rules.specs.Rules.{stands, taking}
use Rattle.position.specs.Keyed.{board_of}
use Rattle.position_moves.proofs.targets.taking_set.Goals as goal

pub returns : goal.returns
unfolding taking board_of
returns c =
    let p = c.args.p in
    c.own.ensures ∙ ap (λ (s : ℕ). set_of (stands (board_of p) s)) c.other.ensures

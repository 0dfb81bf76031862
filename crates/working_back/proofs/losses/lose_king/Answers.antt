-- `working_back::lose_king` meets its contract.
use mathlib.Core.Path.{ap, subst, ◌∙◌}
use mathlib.Core.Bool.{cond}
use Prim.Native.Nat.{ℕ}
use lib.Dec.{eqb}
use Rattle.retracting.specs.Retracting.{Seat}
use Rattle.working_back.proofs.laws.Into.{king-seat, tries-at}
use Rattle.working_back.proofs.losses.lose_king.Goals as goal

pub lose_each-requires : goal.lose_each-requires
lose_each-requires c =
    let p = c.requires in
    let x = c.args in
    let to = c.king_at-to.result in
    let s = king-seat x.m x.q x.taken p.3 _ _ c.other-mover.ensures c.king_at-to.ensures in (
      p.0,
      p.1,
      p.2,
      c.sources-squares.ensures p.3 s,
      p.3,
      subst (λ (o : ℕ). Seat x.m x.q 5 o to) c.other-mover.ensures s,
      (c.no_line.ensures x.m x.q x.taken to).0,
      (c.no_line-2.ensures x.m x.q x.taken to).1,
    )

pub returns : goal.returns
returns c =
    let p = c.requires in
    let x = c.args in
    tries-at x.m x.q x.taken p.3 x.first.now x.second.now x.k _ p.2 _ _ _ _
    (c.king_at-to.ensures ∙ ap (λ (s : ℕ). cond (eqb s 0) x.q.white x.q.black) c.other-mover.ensures) c.lose_each.ensures

-- `movegen::reach_of` meets its contract.
use Rattle.position.specs.Keyed.{board_of}
use Rattle.position.specs.Posed.{posed}
use Rattle.position.proofs.laws.PosedLaws.{complete-spread}
use Rattle.movegen.specs.Reach.{View}
use Rattle.movegen.proofs.laws.Alone.{first-man, second-man}
use Rattle.movegen.proofs.laws.Reach.{view_of}
use Rattle.movegen.proofs.laws.Movers.{mover-of, mover-unpinned}
use Rattle.movegen.proofs.reaching.reach_of.Goals as goal

pub returns-then-strike-own-eq0 : goal.returns-then-strike-own-eq0
unfolding board_of posed
returns-then-strike-own-eq0 c =
    let x = c.args in
    λ d.
    let w = complete-spread d in
    let v : View x.m x.q c.occupied_at-occ.result c.own_at-own.result c.strike_set-strike.result =
    view_of w (c.occupied_at-occ.ensures _) (c.own_at-own.ensures w.side) _ _ _
    c.king_set.ensures c.minus.ensures c.other.ensures c.strike_set-strike.ensures in (
      c.king_reach-king.ensures _ _ v,
      mover-unpinned v
          (mover-of v _ _ _ _ _ (first-man x.m x.q w) c.struck_by.ensures c.minus-first.ensures)
          c.if-strike-own-eq0.true c.minus-first.type_inv,
      mover-unpinned v
          (mover-of v _ _ _ _ _ (second-man x.m x.q w) c.struck_by-2.ensures c.minus-second.ensures)
          c.if-strike-own-eq0.true c.minus-second.type_inv,
    )

pub returns : goal.returns
unfolding board_of posed
returns c =
    let x = c.args in
    λ d.
    let w = complete-spread d in
    let v : View x.m x.q c.occupied_at-occ.result c.own_at-own.result c.strike_set-strike.result =
    view_of w (c.occupied_at-occ.ensures _) (c.own_at-own.ensures w.side) _ _ _
    c.king_set.ensures c.minus.ensures c.other.ensures c.strike_set-strike.ensures in (
      c.king_reach-king.ensures _ _ v,
      c.shielding.ensures _ _
          (mover-of v _ _ _ _ _ (first-man x.m x.q w) c.struck_by.ensures c.minus-first.ensures),
      c.shielding-2.ensures _ _
          (mover-of v _ _ _ _ _ (second-man x.m x.q w) c.struck_by-2.ensures c.minus-second.ensures),
    )

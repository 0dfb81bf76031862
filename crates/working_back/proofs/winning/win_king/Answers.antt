-- `working_back::win_king` meets its contract: his number is told by the others, who stand still.
use mathlib.Core.Path.{◌≡◌, ap, sym, ◌∙◌}
use mathlib.Core.Bool.{cond}
use Prim.Native.Nat.{ℕ}
use lib.Dec.{T, eqb}
use borrow.Author.Rules.{rules}
use Rattle.numbering.specs.Kings.{separate}
use Rattle.numbering.specs.Number.{number_of}
use Rattle.position.specs.declared.Place.{Place}
use Rattle.position.specs.Posed.{board_in}
use Rattle.index.specs.Seats.{Seated}
use Rattle.index.specs.Moving.{king_on, Stands}
use Rattle.retracting.specs.Retracting.{place_before}
use Rattle.retracting.proofs.laws.Sources.{free_of}
use Rattle.working_back.proofs.laws.Numbers.{number-as}
use Rattle.working_back.proofs.laws.KingBack.{king-back}
use Rattle.working_back.proofs.winning.win_king.Goals as goal

pub win_from-requires : goal.win_from-requires
win_from-requires c =
    let p = c.requires in
    let a = c.args in
    let e = c.still_king-others.ensures in
    let mover = c.other-mover.result in
    let x = c.again-x.result in
    let y = c.again-y.result in
    let king = p.5 ∙ ap (λ (c : ℕ). cond (eqb c 0) a.q.white a.q.black) (sym c.other-mover.ensures) in (
      p.0,
      p.1,
      p.2,
      p.3,
      λ s w κs r f i u v b. (w.square, e.base-fits, e.unit-fits),
      λ s n w f.
          let place = king-back a.m a.q a.taken a.to s p.4 (free_of a.m a.q s w.square w.free) x y c.again-x.ensures c.again-y.ensures mover c.other-mover.ensures king in
          let told : (at : ℕ → ℕ → Place) → Stands a.m c.still_king-others.result at → Seated a.m (at mover s) → T (separate (at mover s).white (at mover s).black)
          → n ≡ number_of (board_in a.m (at mover s)) = search rules in
          number-as a.m (place_before a.q a.taken s a.to) w.complete (king_on (eqb mover 0) a.q.white a.q.black x y mover s) place n
          (told (king_on (eqb mover 0) a.q.white a.q.black x y) e),
    )

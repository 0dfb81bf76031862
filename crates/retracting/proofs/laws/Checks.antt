-- Whether the place before a move is legal, by lines to the king of the side that did not move: of the other men of the mover, and of the piece that moved.
use Rattle.std.specs.Prelude.{◌≡◌, refl, Bool, true, false, not, ◌&&◌, ℕ, ◌-◌, ◌<◌, eqb}
use Rattle.std.proofs.Common.{sym, ◌∙◌, arith}
use Rattle.std.proofs.Math.Path.{ap}
use Rattle.finite.specs.Truth.{fails, refuted}
use Rattle.rules.specs.Rules.{occupied, touching, in_check, attacked, legal, king}
use Rattle.rules.proofs.laws.Legal.{legal-facts}
use Rattle.position.specs.declared.Men.{Men}
use Rattle.position.specs.declared.Place.{Place}
use Rattle.position.specs.Over.{attacked_over}
use Rattle.position.specs.Posed.{board_in}
use Rattle.position.proofs.laws.PosedLaws.{complete-spread}
use Rattle.movegen.specs.Places.{men_strike}
use Rattle.movegen.proofs.laws.Struck.{attacked-king}
use Rattle.successors.proofs.laws.NumberLaws.{complete-legal}
use Rattle.retracting.specs.Retracting.{CompleteApart}

-- ---- check before the move

-- a man of the mover's who does not strike the king
pub quiet-man : (colour owner : ℕ) (far hit : Bool) → ((eqb colour owner && far) && hit) ≡ false → far ≡ true → (hit' : Bool)
    → (hit ≡ false → hit' ≡ false) → (eqb colour owner && hit') ≡ false
quiet-man colour owner far hit e f hit' w = go (eqb colour owner) e
  where
    go : (b : Bool) → ((b && far) && hit) ≡ false → (b && hit') ≡ false
    go false e = refl
    go true e = w (ap (λ (x : Bool). x && hit) (sym f) ∙ e)

module _ (m : Men) (o : Place) (side : ℕ) (hs : side < 2) (es : o.side ≡ 1 - side) (k : ℕ)
    (ek : king (board_in m o) side ≡ k) (apart : CompleteApart m o) where
  struck-of : touching (board_in m o) ≡ false
      → in_check (board_in m o) (1 - o.side) ≡ men_strike m o (occupied (board_in m o)) (1 - side) k
  unfolding in_check attacked attacked_over
  struck-of f =
      let e : 1 - o.side ≡ side = omega (arith, es, hs) in
      ap (in_check (board_in m o)) e ∙ attacked-king m o (complete-spread (apart f)).pawnless f (occupied (board_in m o)) side
      ∙ ap (men_strike m o (occupied (board_in m o)) (1 - side)) ek

  -- the kings stay apart: by the men alone
  pub legal-men : touching (board_in m o) ≡ false → (hit : Bool)
      → men_strike m o (occupied (board_in m o)) (1 - side) k ≡ hit → legal (board_in m o) ≡ not hit
  legal-men f hit e = complete-legal m o (apart f) ∙ ap not (struck-of f ∙ e)

  -- no man strikes: by the kings alone
  pub legal-kings : men_strike m o (occupied (board_in m o)) (1 - side) k ≡ false → (near : Bool)
      → touching (board_in m o) ≡ near → legal (board_in m o) ≡ not near
  legal-kings e true h = fails (legal (board_in m o)) (λ l. refuted (sym h ∙ (legal-facts (board_in m o) l).kings) tt)
  legal-kings e false h = legal-men h false e

-- Attack and check on an ending's place: a king is attacked by men alone.
use Rattle.std.specs.Prelude.{◌≡◌, Bool, false, not, ◌||◌}
use Rattle.std.proofs.Math.Path.{sym, subst⁻¹}
use Rattle.std.proofs.Common.{ap, ◌∙◌}
use Prim.Native.Nat.{ℕ, zero, suc, ◌-◌, ◌<◌}
use native.Mathlib.Omega.{arith}
use borrow.Author.Tests.{ne_eqb}
use Rattle.board.specs.Reach.{reaches}
use Rattle.board.specs.Sets.{has, set_of}
use Rattle.board.proofs.laws.ReachLaws.{king-reaches}
use Rattle.board.proofs.laws.SetLaws.{set-has}
use Rattle.symmetry.proofs.laws.Opposite.{reaches-sym}
use Rattle.rules.specs.Rules.{Board, occupied, king, touching, in_check, attacked, moved}
use Rattle.position.specs.declared.Men.{Men}
use Rattle.position.specs.declared.Place.{Place}
use Rattle.position.specs.Keyed.{board_of}
use Rattle.position.specs.Over.{attacked_over}
use Rattle.position.specs.Posed.{posed, board_in}
use Rattle.position.specs.Spread.{Pawnless}
use Rattle.position.proofs.laws.Over.{attacked-same}
use Rattle.movegen.specs.Places.{men_strike, place_after}
use Rattle.movegen.proofs.laws.Places.{attacked-men, pawnless-after, place-moved}
use Rattle.movegen.specs.Reach.{Stays}

module _ (m : Men) (q : Place) (none : Pawnless m q) where
  pub attacked-split : (occ : ℕ → Bool) (colour : ℕ) → colour < 2 → (t : ℕ)
      → attacked_over occ (board_in m q) colour t
      ≡ (reaches occ 5 (king (board_in m q) colour) t || men_strike m q occ colour t)
  unfolding board_of posed
  attacked-split occ zero l t = attacked-men m q none occ zero t
  attacked-split occ (suc zero) l t = attacked-men m q none occ 1 t
  attacked-split occ (suc (suc n)) l t = absurd (omega arith)

  module _ (apart : touching (board_in m q) ≡ false) where
    kings-apart : (occ : ℕ → Bool) → reaches occ 5 q.white q.black ≡ false
    unfolding touching board_of posed
    kings-apart occ = king-reaches occ (λ s. false) q.white q.black ∙ apart

    kings-back : (occ : ℕ → Bool) → reaches occ 5 q.black q.white ≡ false
    kings-back occ = reaches-sym occ 5 q.black q.white ∙ kings-apart occ

    -- a king is attacked by men alone
    pub attacked-king : (occ : ℕ → Bool) (side : ℕ)
        → attacked_over occ (board_in m q) (1 - side) (king (board_in m q) side)
        ≡ men_strike m q occ (1 - side) (king (board_in m q) side)
    unfolding board_of posed
    attacked-king occ zero = attacked-split occ 1 (omega arith) q.white ∙ rw (kings-back occ)
    attacked-king occ (suc zero) = attacked-split occ 0 (omega arith) q.black ∙ rw (kings-apart occ)
    attacked-king occ (suc (suc n)) =
        let e : 1 - suc (suc n) ≡ 0 = omega arith in
        rw (e, ne_eqb (suc (suc n)) 0 (λ z. absurd (omega arith))) (attacked-split occ 0 (omega arith) q.black ∙ rw (kings-apart occ))

    pub check-men : (side occ : ℕ) → occ ≡ set_of (occupied (board_in m q))
        → in_check (board_in m q) side ≡ men_strike m q (has occ) (1 - side) (king (board_in m q) side)
    unfolding in_check attacked attacked_over
    check-men side occ e =
        sym (attacked-same (has occ) (occupied (board_in m q)) (set-has _ e) (board_in m q) (1 - side)
        (king (board_in m q) side))
        ∙ attacked-king (has occ) side

-- a man's move leaves the kings where they are
still-apart : (m : Men) (q : Place) (from t : ℕ) → Stays m q from → touching (board_in m (place_after q from t)) ≡ false
unfolding touching board_of posed place_after
still-apart m q from t s = rw (ne_eqb q.white from s.white, ne_eqb q.black from s.black) s.kings

-- check after a man's move, found on the place after it
pub check-placed : (m : Men) (q made : Place) (from t : ℕ) (found : Bool) → Stays m q from → t < 64
    → made ≡ place_after q from t
    → (Pawnless m made → touching (board_in m made) ≡ false → found ≡ in_check (board_in m made) q.side)
    → not (in_check (moved (board_in m q) from t) q.side) ≡ not found
check-placed m q made from t found s l e h =
    sym (ap not
    (h (subst⁻¹ (Pawnless m) e (pawnless-after from t s.square l m q s.pawnless))
    (subst⁻¹ (λ (p : Place). touching (board_in m p) ≡ false) e (still-apart m q from t s))
    ∙ ap (λ (p : Place). in_check (board_in m p) q.side) e
    ∙ ap (λ (b : Board). in_check b q.side) (place-moved from t s.square l m q)))

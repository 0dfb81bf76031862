-- The ways in which code finds a piece's legal targets, by what it has in hand.
use Rattle.std.specs.Prelude.{◌≡◌, refl, Bool, true, false, ◌&&◌, ◌||◌, ℕ, ◌-◌, ◌^◌, ◌<◌, eqb}
use Rattle.std.proofs.Math.Path.{sym, ap, ap₂}
use Rattle.std.proofs.Common.{◌∙◌, eqb-true}
use Rattle.std.proofs.Math.Bool.{not, and-false}
use Rattle.board.specs.Sets.{has, set_of}
use Rattle.board.proofs.laws.SetLaws.{set_is, set-has, set_of-same}
use Rattle.rules.specs.Rules.{Board, occupied, king, in_check, stands, goes, moved, can_move}
use Rattle.position.specs.declared.Position.{Position}
use Rattle.position.specs.Keyed.{board_of}
use Rattle.position.specs.Over.{attacked_over, goes_over, lifted}
use Rattle.position.proofs.laws.Over.{attacked-same, goes_same}
use Rattle.movegen.specs.After.{after}
use Rattle.movegen.proofs.laws.Making.{after-moved}
use Rattle.movegen.proofs.laws.Lifted.{king-moves, free-moves}

-- ---- one turn of the loop that tests targets: the lowest, t, is taken out of the rest, and kept where it passes

module _ (ok : ℕ → Bool) (i t : ℕ) (kept rest rest' : Bool) (e : rest ≡ (eqb i t || rest')) where
  pub turn_in : ok t ≡ true → ((kept || eqb i t) || (rest' && ok i)) ≡ (kept || (rest && ok i))
  turn_in o = rw e (go kept (eqb i t) refl)
    where
      go : (k x : Bool) → eqb i t ≡ x → ((k || x) || (rest' && ok i)) ≡ (k || ((x || rest') && ok i))
      go true x q = refl
      go false true q = sym (ap ok (eqb-true i t q) ∙ o)
      go false false q = refl

  pub turn-out : ok t ≡ false → (kept || (rest' && ok i)) ≡ (kept || (rest && ok i))
  turn-out o = rw e (go (eqb i t) refl)
    where
      go : (x : Bool) → eqb i t ≡ x → (kept || (rest' && ok i)) ≡ (kept || ((x || rest') && ok i))
      go true q = let z : ok i ≡ false = ap ok (eqb-true i t q) ∙ o in rw (z, and-false rest')
      go false q = refl

-- check after a move, found on the position after it
pub check-made : (p made : Position) (from t : ℕ) (checked : Bool) → made ≡ after p from t
    → checked ≡ in_check (board_of made) p.side
    → not (in_check (moved (board_of p) from t) p.side) ≡ not checked
check-made p made from t checked em ec =
    sym (ap not
    (ec ∙ ap (λ (z : Position). in_check (board_of z) p.side) em
    ∙ ap (λ (b : Board). in_check b p.side) (after-moved from t p)))

-- ---- the targets free of the mover's own side, and the three ways on

module _ (p : Position) (from occ reach mine free : ℕ) (eo : occ ≡ set_of (occupied (board_of p)))
    (eg : (t : ℕ) → t < 64 → has reach t ≡ goes_over (has occ) (board_of p) from t)
    (em : mine ≡ set_of (stands (board_of p) p.side))
    (ef : free ≡ set_of (λ (u : ℕ). has reach u && not (has mine u))) where
  pub free-has : (t : ℕ) → t < 64 → has free t ≡ (goes (board_of p) from t && not (stands (board_of p) p.side t))
  unfolding goes goes_over
  free-has t h =
      set-has _ ef t h
      ∙ ap₂ (λ (x y : Bool). x && not y)
      (eg t h ∙ goes_same (has occ) (occupied (board_of p)) (set-has _ eo) (board_of p) from t) (set-has _ em t h)

  -- each target tested by making the move
  pub by-making : (r : ℕ) → r < 2 ^ 64
      → ((t : ℕ) → t < 64 → has r t ≡ (has free t && not (in_check (moved (board_of p) from t) p.side)))
      → r ≡ set_of (can_move (board_of p) from)
  unfolding can_move board_of
  by-making r l e =
      set_is (can_move (board_of p) from) r l
      (λ t h. e t h ∙ ap (λ (x : Bool). x && not (in_check (moved (board_of p) from t) p.side)) (free-has t h))

  module _ (foe theirs rest : ℕ) (es : foe ≡ 1 - p.side) (et : theirs ≡ set_of (stands (board_of p) foe))
      (alone : has theirs from ≡ false)
      (er : rest ≡ set_of (λ (u : ℕ). has occ u && not (eqb u from))) where
    alone-stands : from < 64 → stands (board_of p) (1 - p.side) from ≡ false
    alone-stands h = ap (λ (c : ℕ). stands (board_of p) c from) (sym es) ∙ sym (set-has _ et from h) ∙ alone

    over-rest : (t : ℕ)
        → attacked_over (has rest) (board_of p) foe t
        ≡ attacked_over (lifted (occupied (board_of p)) from) (board_of p) (1 - p.side) t
    over-rest t =
        attacked-same (has rest) (lifted (occupied (board_of p)) from)
        (λ u h. set-has _ er u h ∙ ap (λ (x : Bool). x && not (eqb u from)) (set-has _ eo u h)) (board_of p) foe t
        ∙ ap (λ (c : ℕ). attacked_over (lifted (occupied (board_of p)) from) (board_of p) c t) es

    -- the king
    pub by-attacked : (at struck r : ℕ) → at ≡ king (board_of p) p.side → at ≡ from
        → ((t : ℕ) → t < 64 → has struck t ≡ attacked_over (has rest) (board_of p) foe t)
        → r ≡ set_of (λ (u : ℕ). has free u && not (has struck u)) → r ≡ set_of (can_move (board_of p) from)
    unfolding board_of
    by-attacked at struck r ek e ea e' =
        e' ∙ set_of-same _ _
        (λ t h. ap₂ (λ (x y : Bool). x && not y) (free-has t h) (ea t h ∙ over-rest t)
        ∙ sym (king-moves (board_of p) from alone-stands (sym ek ∙ e) t))

    -- another piece
    pub by-freedom : (at : ℕ) → at ≡ king (board_of p) p.side → (at ≡ from → ⊥)
        → attacked_over (has rest) (board_of p) foe at ≡ false → free < 2 ^ 64
        → free ≡ set_of (can_move (board_of p) from)
    unfolding board_of
    by-freedom at ek n safe l =
        set_is (can_move (board_of p) from) free l
        (λ t h. free-has t h
        ∙ sym (free-moves (board_of p) from alone-stands (λ q. n (ek ∙ q))
        (ap (attacked_over (lifted (occupied (board_of p)) from) (board_of p) (1 - p.side)) (sym ek)
        ∙ sym (over-rest at) ∙ safe) t))

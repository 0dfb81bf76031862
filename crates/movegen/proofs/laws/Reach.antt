-- The legal targets of an ending's pieces on a place: the ways in which code finds them.
use Rattle.std.specs.Prelude.{◌≡◌, Bool, true, false, cond, not, ◌&&◌, ℕ, ◌-◌, ◌^◌, ◌<◌, eqb}
use Rattle.std.proofs.Math.Path.{refl, sym, ap₂}
use Rattle.std.proofs.Common.{ap, ◌∙◌, arith, eq-eqb}
use Rattle.std.proofs.Math.Bool.{◌||◌}
use Rattle.std.specs.Int.Bits.{bit_or}
use Rattle.board.specs.Reach.{reaches}
use Rattle.board.specs.Sets.{has, set_of}
use Rattle.board.proofs.laws.ReachLaws.{king-reaches}
use Rattle.board.proofs.laws.SetLaws.{set-has, has-set_of, has-or}
use Rattle.rules.specs.Rules.{occupied, king, in_check, stands, moved, can_move}
use Rattle.position.specs.declared.Men.{Men}
use Rattle.position.specs.declared.Place.{Place}
use Rattle.position.specs.Keyed.{board_of}
use Rattle.position.specs.Over.{attacked_over, goes_over, lifted}
use Rattle.position.specs.Posed.{posed, board_in}
use Rattle.position.specs.Spread.{Spread}
use Rattle.movegen.specs.Places.{men_strike}
use Rattle.movegen.proofs.laws.Targets.{by-making, by-attacked, by-freedom}
use Rattle.movegen.proofs.laws.Opening.{strike-same}
use Rattle.movegen.specs.Reach.{Alone, View}
use Rattle.movegen.proofs.laws.Alone.{king-alone}
use Rattle.movegen.proofs.laws.Struck.{attacked-split, attacked-king}

module _ (m : Men) (q : Place) (w : Spread m q) (occ own : ℕ) (eo : occ ≡ set_of (occupied (board_in m q)))
    (em : own ≡ set_of (stands (board_in m q) q.side)) where
  module _ (kind owner square : ℕ) (a : Alone m q kind owner square) (reach free : ℕ)
      (er : (t : ℕ) → t < 64 → has reach t ≡ (eqb owner q.side && reaches (has occ) kind square t))
      (ef : free ≡ set_of (λ (u : ℕ). has reach u && not (has own u))) where
    pub goes-reach : (t : ℕ) → t < 64 → has reach t ≡ goes_over (has occ) (board_in m q) square t
    goes-reach t l = er t l ∙ sym (a.goes (has occ) t)

    -- each move made
    pub man-tested : (r : ℕ) → r < 2 ^ 64
        → ((t : ℕ) → t < 64 → has r t ≡ (has free t && not (in_check (moved (board_in m q) square t) q.side)))
        → r ≡ set_of (can_move (board_in m q) square)
    unfolding posed
    man-tested = by-making (posed m q) square occ reach own free eo goes-reach em ef

    module _ (e : owner ≡ q.side) (l : square < 64) (foe rest : ℕ) (es : foe ≡ 1 - q.side)
        (el : rest ≡ set_of (λ (u : ℕ). has occ u && not (eqb u square))) where
      no-foe : has (set_of (stands (board_in m q) foe)) square ≡ false
      no-foe = has-set_of (stands (board_in m q) foe) square l
          ∙ ap (λ (c : ℕ). stands (board_in m q) c square) es
          ∙ a.foes e l

      -- no move need be made: the king is not attacked with the man lifted
      pub man-free : (at : ℕ) → at ≡ king (board_in m q) q.side → (at ≡ square → ⊥)
          → men_strike m q (has rest) foe at ≡ false → free < 2 ^ 64
          → free ≡ set_of (can_move (board_in m q) square)
      unfolding posed
      man-free at ek n z fl =
          by-freedom (posed m q) square occ reach own free eo goes-reach em ef foe (set_of (stands (board_in m q) foe))
          rest es refl no-foe el at ek n
          (ap₂ (attacked_over (has rest) (board_in m q)) es ek
          ∙ attacked-king m q w.pawnless w.kings (has rest) q.side
          ∙ sym (ap₂ (men_strike m q (has rest)) es ek) ∙ z)
          fl

      -- the king: by one set of attacked squares
      pub king-free : square ≡ king (board_in m q) q.side → (near strike r : ℕ)
          → ((t : ℕ) → t < 64 → has near t ≡ reaches (has rest) 5 (king (board_in m q) foe) t)
          → ((t : ℕ) → t < 64 → has strike t ≡ men_strike m q (has rest) foe t)
          → r ≡ set_of (λ (u : ℕ). has free u && not (has (bit_or near strike) u))
          → r ≡ set_of (can_move (board_in m q) square)
      unfolding posed
      king-free ek near strike r en et er' =
          by-attacked (posed m q) square occ reach own free eo goes-reach em ef foe
          (set_of (stands (board_in m q) foe)) rest es refl no-foe el square (bit_or near strike) r ek refl
          (λ t h. has-or near strike t ∙ ap₂ ◌||◌ (en t h) (et t h)
          ∙ sym (attacked-split m q w.pawnless (has rest) foe (omega (arith, w.side)) t))
          er'

-- the king's square
pub king-on : (m : Men) (q : Place) → Spread m q → king (board_in m q) q.side < 64
unfolding board_of posed
king-on m q w = go (eqb q.side 0)
  where
    go : (x : Bool) → cond x q.white q.black < 64
    go true = w.white
    go false = w.black

-- ---- by what code has in hand

module _ {m : Men} {q : Place} {occ own strike : ℕ} where
  pub view_of : Spread m q → occ ≡ set_of (occupied (board_in m q)) → own ≡ set_of (stands (board_in m q) q.side)
      → (mine rest foe : ℕ) → mine ≡ set_of (λ (u : ℕ). eqb u (king (board_in m q) q.side))
      → rest ≡ set_of (λ (u : ℕ). has occ u && not (has mine u)) → foe ≡ 1 - q.side
      → ((t : ℕ) → t < 64 → has strike t ≡ men_strike m q (has rest) foe t)
      → View m q occ own strike
  view_of w eo em mine rest foe ek er es et =
      record {
        spread = w;
        occ-is = eo;
        own_is = em;
        strike-is = λ t h. et t h
            ∙ ap (λ (c : ℕ). men_strike m q (has rest) c t) es
            ∙ strike-same m q (1 - q.side) (has rest) (lifted (has occ) (king (board_in m q) q.side))
            (λ u l. set-has _ er u l ∙ ap (λ (x : Bool). has occ u && not x) (set-has _ ek u l)) t;
      }

  pub king-view : View m q occ own strike → (at foe other reach free near r : ℕ)
      → at ≡ king (board_in m q) q.side → foe ≡ 1 - q.side → other ≡ king (board_in m q) foe
      → reach ≡ set_of (reaches (has 0) 5 at) → free ≡ set_of (λ (u : ℕ). has reach u && not (has own u))
      → near ≡ set_of (reaches (has 0) 5 other)
      → r ≡ set_of (λ (u : ℕ). has free u && not (has (bit_or near strike) u))
      → r ≡ set_of (can_move (board_in m q) (king (board_in m q) q.side))
  king-view v at foe other reach free near r ek es ep er ef en e =
      let b = board_in m q in
      let k = king b q.side in
      let rest = set_of (λ (u : ℕ). has occ u && not (eqb u k)) in
      king-free m q v.spread occ own v.occ-is v.own_is 5 q.side k (king-alone m q v.spread) reach free
      (λ t h. set-has _ er t h ∙ ap (λ (s : ℕ). reaches (has 0) 5 s t) ek ∙ king-reaches (has 0) (has occ) k t
      ∙ sym (rw (eq-eqb q.side q.side refl))) ef refl
      (king-on m q v.spread) (1 - q.side) rest refl refl refl near strike r
      (λ t h. set-has _ en t h
      ∙ ap (λ (s : ℕ). reaches (has 0) 5 s t) (ep ∙ ap (king b) es)
      ∙ king-reaches (has 0) (has rest) (king b (1 - q.side)) t)
      (λ t h. v.strike-is t h
      ∙ strike-same m q (1 - q.side) (lifted (has occ) k) (has rest) (λ u l. sym (has-set_of _ u l)) t)
      e

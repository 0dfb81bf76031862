-- A man by the targets that his own side leaves free: none, all of them legal, or those of one who may shield his king.
use Rattle.std.specs.Prelude.{◌≡◌, refl, Bool, true, false, cond, not, ◌&&◌, ◌||◌, ℕ, ◌-◌, ◌^◌, ◌<◌, eqb}
use Rattle.std.proofs.Common.{sym, ap, ◌∙◌, subst, inl, ⊎_elim, arith, eqb→eq, eq-eqb, ne_eqb}
use Rattle.std.proofs.Math.Path.{subst⁻¹}
use Rattle.std.proofs.Math.Bool.{and-true, and-false}
use Rattle.std.proofs.Math.Dec.{T}
use Rattle.std.specs.Int.Bits.{bit_and, bit_or}
use Rattle.finite.specs.Truth.{by-test, and_left, of-true, true_of, fails, le-or-lt}
use Rattle.board.specs.Sets.{has, set_of}
use Rattle.board.proofs.laws.ReachLaws.{reaches-off}
use Rattle.board.proofs.laws.SetLaws.{set_is, set-has, has-set_of, has-none, has-or, has-and}
use Rattle.rules.specs.Rules.{piece_of, occupied, king, in_check, stands, goes, moved, can_move}
use Rattle.position.specs.declared.Men.{Men}
use Rattle.position.specs.declared.Place.{Place}
use Rattle.position.specs.Keyed.{board_of}
use Rattle.position.specs.Over.{lifted}
use Rattle.position.specs.Posed.{posed, board_in}
use Rattle.movegen.specs.Places.{piece_strikes, men_strike}
use Rattle.movegen.proofs.laws.Targets.{free-has}
use Rattle.movegen.proofs.laws.Carried.{goer}
use Rattle.movegen.proofs.laws.Lifted.{check-after}
use Rattle.movegen.proofs.laws.Opening.{neither, strike-same, men-unpinned, unparried}
use Rattle.movegen.specs.Reach.{Man, Stays, View, Mover}
use Rattle.movegen.proofs.laws.Alone.{king-alone}
use Rattle.movegen.proofs.laws.Reach.{goes-reach, man-tested, man-free, king-on}

-- a man stands on no king's square
no-king : (m : Men) (q : Place) {kind owner square : ℕ} → Man m q kind owner square
    → king (board_in m q) q.side ≡ square → ⊥
unfolding board_of posed
no-king m q {kind} {owner} {square} a = go (eqb q.side 0)
  where
    go : (x : Bool) → cond x q.white q.black ≡ square → ⊥
    go true p = a.white p
    go false p = a.black p

module _ {m : Men} {q : Place} {occ kind owner square free : ℕ} (v : Mover m q occ kind owner square free) where
  made : (r : ℕ) → r < 2 ^ 64
      → ((t : ℕ) → t < 64 → has r t ≡ (has free t && not (in_check (moved (board_in m q) square t) q.side)))
      → r ≡ set_of (can_move (board_in m q) square)
  made = man-tested m q v.spread occ v.own v.occ-is v.own_is kind owner square v.man.alone v.reach free
      v.reach-is v.free-is

  -- no target is free
  pub mover-none : free ≡ 0 → 0 ≡ set_of (can_move (board_in m q) square)
  mover-none e = made 0 (omega arith) (λ t l. has-none t ∙ sym (rw (e, has-none t)))

  -- who attacks nothing has no free target
  unmoved : ((t : ℕ) → piece_strikes (has occ) q.side t (piece_of kind owner square) ≡ false) → free ≡ 0
  unmoved none = v.free-is ∙ sym (set_is _ 0 (omega arith) (λ t l. has-none t ∙ sym (rw (v.reach-is t l ∙ none t))))

  free-goes : (t : ℕ) → t < 64 → T (has free t) → T (goes (board_in m q) square t)
  unfolding posed
  free-goes t l h =
      let b = board_in m q in
      and_left (goes b square t) (not (stands b q.side t))
      (subst T (free-has (posed m q) square occ v.reach v.own free v.occ-is
      (goes-reach m q v.spread occ v.own v.occ-is v.own_is kind owner square v.man.alone
      v.reach free v.reach-is v.free-is) v.own_is v.free-is t l) h)

  lift-same : (rest : ℕ) → rest ≡ set_of (λ (u : ℕ). has occ u && not (eqb u square)) → (u : ℕ) → u < 64
      → has rest u ≡ lifted (occupied (board_in m q)) square u
  lift-same rest e u l = set-has _ e u l ∙ ap (λ (x : Bool). x && not (eqb u square)) (set-has _ v.occ-is u l)

  -- who has a free target is of the side to move and on the board
  module _ (some : free ≡ 0 → ⊥) where
    of-mover : owner ≡ q.side
    of-mover = by-test (eqb owner q.side) (eqb→eq owner q.side)
        (λ n. absurd (some (unmoved (λ t. rw (fails (eqb owner q.side) n)))))

    on : square < 64
    on = ⊎_elim
        (λ l. absurd (some (unmoved (λ t. rw (reaches-off (has occ) kind square t (inl l)) (and-false (eqb owner q.side))))))
        (λ l. l) (le-or-lt 64 square)

    pub mover-stays : Stays m q square
    mover-stays =
        record { square = on; white = v.man.white; black = v.man.black; kings = v.spread.kings; pawnless = v.spread.pawnless }

    module _ (foe rest opened : ℕ) (es : foe ≡ 1 - q.side)
        (er : rest ≡ set_of (λ (u : ℕ). has occ u && not (eqb u square)))
        (eo : (t : ℕ) → t < 64 → has opened t ≡ men_strike m q (has rest) foe t)
        (at : ℕ) (ek : at ≡ king (board_in m q) q.side) where
      at_on : at < 64
      at_on = subst⁻¹ (λ (s : ℕ). s < 64) ek (king-on m q v.spread)

      -- no foe attacks the king with the man lifted
      pub mover-free : has opened at ≡ false → free < 2 ^ 64 → free ≡ set_of (can_move (board_in m q) square)
      mover-free z l =
          man-free m q v.spread occ v.own v.occ-is v.own_is kind owner square v.man.alone
          v.reach free v.reach-is v.free-is of-mover on foe rest es er at ek
          (λ p. no-king m q v.man (sym ek ∙ p)) (sym (eo at at_on) ∙ z) l

      module _ (theirs : ℕ) (et : theirs ≡ set_of (stands (board_in m q) foe)) (h : has opened at ≡ true) where
        -- a target that parries nothing
        checks : (t : ℕ) → t < 64 → T (has free t) → (has opened t || has theirs t) ≡ false
            → in_check (moved (board_in m q) square t) q.side ≡ true
        checks t l f z =
            let b = board_in m q in
            let up = lifted (occupied b) square in
            let n = neither (has opened t) (has theirs t) z in
            let same = strike-same m q foe (has rest) up (lift-same rest er) in
            let hit = unparried m q v.spread.pawnless square t foe at (goer b square t (free-goes t l f)) l (sym (set-has _ et t l) ∙ n.1)
            (ap (λ (c : ℕ). stands b c square) es ∙ v.man.alone.foes of-mover on)
            (sym (same t) ∙ sym (eo t l) ∙ n.0)
            (of-true (sym (same at) ∙ sym (eo at at_on) ∙ h)) in
            check-after b square t q.side
            ∙ rw (ne_eqb (king b q.side) square (no-king m q v.man), ← ek, ← es) (true_of hit)

        -- only a target that may parry need be tried
        pub mover-parried : (r : ℕ) → r < 2 ^ 64
            → ((t : ℕ) → t < 64 → has r t ≡ (has (bit_and free (bit_or opened theirs)) t && not
            (in_check (moved (board_in m q) square t) q.side)))
            → r ≡ set_of (can_move (board_in m q) square)
        mover-parried r l e =
            made r l
            (λ t k. e t k
            ∙ ap (λ (x : Bool). x && not (in_check (moved (board_in m q) square t) q.side))
            (has-and free (bit_or opened theirs) t ∙ ap (λ (x : Bool). has free t && x) (has-or opened theirs t))
            ∙ needless (has free t) (has opened t || has theirs t)
            (in_check (moved (board_in m q) square t) q.side) (checks t k))
          where
            needless : (f o c : Bool) → (T f → o ≡ false → c ≡ true) → ((f && o) && not c) ≡ (f && not c)
            needless false o c n = refl
            needless true true c n = refl
            needless true false c n = rw (n tt refl)

-- where two sets do not meet, a square of one is not in the other
missed : (set other u : ℕ) → bit_and set other ≡ 0 → has other u ≡ true → has set u ≡ false
missed set other u z e = (rw (has-and set other u, e, and-true (has set u)) at (ap (λ (x : ℕ). has x u) z)) ∙ has-none u

-- no foe attacks a square of the mover's side, his king lifted: a man is free to go
pub mover-unpinned : {m : Men} {q : Place} {occ own strike kind owner square free : ℕ} → View m q occ own strike
    → Mover m q occ kind owner square free → bit_and strike own ≡ 0 → free < 2 ^ 64
    → free ≡ set_of (can_move (board_in m q) square)
mover-unpinned {m} {q} {occ} {own} {strike} {kind} {owner} {square} {free} w v z l =
    by-test (eqb free 0) (λ h. let e = eqb→eq free 0 h in e ∙ mover-none v e)
    (λ n. goes_on (λ e. n (of-true (eq-eqb free 0 e))))
  where
    clear : (s : ℕ) → s < 64 → stands (board_in m q) q.side s ≡ true
        → men_strike m q (lifted (has occ) (king (board_in m q) q.side)) (1 - q.side) s ≡ false
    clear s h e = sym (w.strike-is s h) ∙ missed strike own s z (set-has _ w.own_is s h ∙ e)

    goes_on : (free ≡ 0 → ⊥) → free ≡ set_of (can_move (board_in m q) square)
    goes_on some =
        let la = king-on m q w.spread in
        let ls = on v some in
        let rest = set_of (λ (u : ℕ). has occ u && not (eqb u square)) in
        let opened = set_of (men_strike m q (has rest) (1 - q.side)) in
        let k = king (board_in m q) q.side in
        mover-free v some (1 - q.side) rest opened refl refl (λ t h. has-set_of _ t h) k refl
        (has-set_of _ k la
        ∙ strike-same m q (1 - q.side) (has rest) (lifted (has occ) square) (λ u h. has-set_of _ u h) k
        ∙ men-unpinned m q (1 - q.side) (has occ) k square (clear k la ((king-alone m q w.spread).own refl la))
        (clear square ls (v.man.alone.own (of-mover v some) ls)))
        l

-- ---- by what code has in hand

module _ {m : Men} {q : Place} {occ own strike : ℕ} where
  pub mover-of : View m q occ own strike → (kind owner square reach free : ℕ) → Man m q kind owner square
      → reach ≡ set_of (λ (t : ℕ). piece_strikes (has occ) q.side t (piece_of kind owner square))
      → free ≡ set_of (λ (u : ℕ). has reach u && not (has own u))
      → Mover m q occ kind owner square free
  mover-of v kind owner square reach free a er ef =
      record {
        own = own;
        reach = reach;
        spread = v.spread;
        man = a;
        occ-is = v.occ-is;
        own_is = v.own_is;
        reach-is = set-has _ er;
        free-is = ef;
      }

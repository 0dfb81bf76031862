-- The legal targets where there is one man, White's, as code finds them: nobody attacks a piece of White's but the king, and Black has his king alone.
use Rattle.std.specs.Prelude.{◌≡◌, Bool, ◌&&◌, ◌||◌, ℕ, ◌-◌, ◌^◌, ◌≤◌, ◌<◌}
use Rattle.std.proofs.Math.Path.{refl, sym, ap}
use Rattle.std.proofs.Common.{ap₂, subst, ◌∙◌, inl, arith}
use Rattle.std.proofs.Math.Bool.{true, false, cond, not, or-false, and-false}
use Rattle.std.specs.Int.Bits.{bit_or, and_le_l}
use Rattle.std.proofs.lemmas.Nat.{or_lt}
use Rattle.std.proofs.Math.Dec.{T, eqb}
use borrow.Author.Tests.{ne_eqb, eqb-true}
use Rattle.finite.specs.Truth.{eqb-sym, fails, refuted, and_both}
use Rattle.board.specs.Reach.{reaches}
use Rattle.board.specs.Sets.{has, set_of}
use Rattle.board.proofs.laws.ReachLaws.{reaches-off}
use Rattle.board.proofs.laws.SetLaws.{has-none, has-or, set_of-same, set_is, set-has}
use Rattle.rules.specs.Rules.{king, occupied, stands, can_move}
use Rattle.rules.proofs.laws.CanMove.{can-facts, can-on, mover-stands}
use Rattle.position.specs.declared.Men.{Men}
use Rattle.position.specs.declared.Place.{Place}
use Rattle.position.specs.Keyed.{board_of}
use Rattle.position.specs.Over.{lifted}
use Rattle.position.specs.Posed.{posed, board_in, Complete}
use Rattle.position.specs.Spread.{Spread}
use Rattle.position.proofs.laws.PosedLaws.{complete-spread}
use Rattle.movegen.specs.Places.{men_strike}
use Rattle.movegen.specs.Reach.{View}
use Rattle.movegen.proofs.laws.Places.{occupied-men, stands-men}
use Rattle.movegen.proofs.laws.Alone.{first-man}
use Rattle.movegen.proofs.laws.Reach.{view_of, king-view}
use Rattle.movegen.proofs.laws.Movers.{mover-of, mover-unpinned}
use Rattle.successors.specs.Successors.{Reaches}
use Rattle.successors.specs.Quiet.{of_man, quiet_to}
use Rattle.successors.proofs.laws.PlaceLaws.{whole}

nothing-more : (set u : ℕ) → has (bit_or set 0) u ≡ has set u
nothing-more set u = has-or set 0 u ∙ ap (λ (x : Bool). has set u || x) (has-none u) ∙ or-false (has set u)

module _ (m : Men) (q : Place) (w : Complete m q) (one : 4 ≤ m.second) where
  apart : Spread m q
  apart = complete-spread w

  pub gone : 64 ≤ q.second
  gone = (whole m q w).alone one

  absent : (t : ℕ) → t < 64 → eqb q.second t ≡ false
  absent t l = ne_eqb q.second t (λ e. omega (arith, gone))

  -- the man's square
  pub man-has : (man : ℕ) → man ≡ set_of (λ (u : ℕ). eqb u q.first) → (t : ℕ) → t < 64 → has man t ≡ of_man q t
  man-has man e t l =
      set-has (λ (u : ℕ). eqb u q.first) e t l ∙ eqb-sym t q.first ∙ sym (or-false (eqb q.first t))
      ∙ ap (λ (x : Bool). eqb q.first t || x) (sym (absent t l))

  -- he who is not there has no move
  pub second_none : 0 ≡ set_of (can_move (board_in m q) q.second)
  second_none =
      set_is (can_move (board_in m q) q.second) 0 (omega arith)
      (λ t l. has-none t ∙ sym (fails (can_move (board_in m q) q.second t)
      (λ c. let h = (can-on (board_in m q) q.second t c).0 in omega (arith, gone, h))))

  -- ---- White to move

  white-stands : (t : ℕ) → t < 64 → stands (board_in m q) 0 t ≡ (eqb t q.white || eqb t q.first)
  white-stands t l =
      stands-men m q 0 t l
      ∙ rw (absent t l, and-false (eqb m.colour 0), or-false (eqb q.first t), eqb-sym q.white t, eqb-sym q.first t)

  module _ (s : q.side ≡ 0) where
    -- his king's moves and his man's take nobody
    pub white-quiet : (from t : ℕ) → T (can_move (board_in m q) from t) → T (quiet_to m q from t)
    unfolding board_of posed
    white-quiet from t c =
        let l = (can-on (board_in m q) from t c).1 in
        let f : stands (board_in m q) q.side t ≡ false = (can-facts (board_in m q) from t c).free in
        and_both (can_move (board_in m q) from t) (not (of_man q t)) c
        (nobody (eqb t q.white) (eqb q.first t) (eqb q.second t) (absent t l)
        (ap (λ (x : Bool). eqb t q.white || x) (eqb-sym q.first t) ∙ sym (white-stands t l)
        ∙ ap (λ (n : ℕ). stands (board_in m q) n t) (sym s) ∙ f))
      where
        nobody : (k a b : Bool) → b ≡ false → (k || a) ≡ false → T (not (a || b))
        nobody true a b e f = absurd (refuted f tt)
        nobody false true b e f = absurd (refuted f tt)
        nobody false false b e f = rw e tt

    module _ (a x d own occ : ℕ) (ea : a ≡ set_of (λ (u : ℕ). eqb u q.white)) (ex : x ≡ set_of (λ (u : ℕ). eqb u q.first))
        (ed : d ≡ set_of (λ (u : ℕ). eqb u q.black)) (fa : a < 2 ^ 64) (fx : x < 2 ^ 64) (fd : d < 2 ^ 64)
        (eo : own ≡ bit_or a x) (ec : occ ≡ bit_or own d) where
      own-has : (t : ℕ) → t < 64 → has own t ≡ (eqb t q.white || eqb t q.first)
      own-has t l = ap (λ (n : ℕ). has n t) eo ∙ has-or a x t ∙ ap₂ ◌||◌ (set-has _ ea t l) (set-has _ ex t l)

      own-lt : own < 2 ^ 64
      own-lt = subst (λ (n : ℕ). n < 2 ^ 64) (sym eo) (or_lt 64 a x fa fx)

      occ-has : (t : ℕ) → t < 64 → has occ t ≡ occupied (board_in m q) t
      occ-has t l =
          ap (λ (n : ℕ). has n t) ec ∙ has-or own d t ∙ ap₂ ◌||◌ (own-has t l) (set-has _ ed t l)
          ∙ sorted (eqb t q.white) (eqb t q.first) (eqb t q.black) (eqb t q.second) (eqb-sym t q.second ∙ absent t l)
          ∙ sym (occupied-men m q t l)
        where
          sorted : (p f b n : Bool) → n ≡ false → ((p || f) || b) ≡ (p || (b || (f || n)))
          sorted true f b n e = refl
          sorted false true true n e = refl
          sorted false true false n e = refl
          sorted false false true n e = refl
          sorted false false false n e = sym e

      view : View m q occ own 0
      view = record {
        spread = apart;
        occ-is = set_is _ occ (subst (λ (n : ℕ). n < 2 ^ 64) (sym ec) (or_lt 64 own d own-lt fd)) occ-has;
        own_is = set_is _ own own-lt (λ t l. own-has t l ∙ sym (white-stands t l) ∙ ap (λ (n : ℕ). stands (board_in m q) n t) (sym s));
        strike-is = λ t l. has-none t ∙ sym (unstruck (lifted (has occ) (king (board_in m q) q.side)) t);
      }
        where
          nobody : (f : ℕ → Bool) (t : ℕ) → men_strike m q f 1 t ≡ false
          nobody f t = rw (reaches-off f m.second q.second t (inl gone)) (and-false (eqb m.colour 1))

          unstruck : (f : ℕ → Bool) (t : ℕ) → men_strike m q f (1 - q.side) t ≡ false
          unstruck f t = ap (λ (n : ℕ). men_strike m q f (1 - n) t) s ∙ nobody f t

      pub white-reaches : (steps free near to-king reach to-man : ℕ) → steps ≡ set_of (reaches (has 0) 5 q.white)
          → free ≡ set_of (λ (u : ℕ). has steps u && not (has own u)) → near ≡ set_of (reaches (has 0) 5 q.black)
          → to-king ≡ set_of (λ (u : ℕ). has free u && not (has near u)) → reach ≡ set_of (reaches (has occ) m.first q.first)
          → to-man ≡ set_of (λ (u : ℕ). has reach u && not (has own u)) → to-man < 2 ^ 64
          → Reaches m q (record { king = to-king; first = to-man; second = 0 })
      unfolding board_of posed
      white-reaches steps free near to-king reach to-man es ef en ek er em fm = record {
        king = king-view view q.white 1 q.black steps free near to-king
            (ap (λ (n : ℕ). cond (eqb n 0) q.white q.black) (sym s)) (sym (ap (λ (n : ℕ). 1 - n) s)) refl es ef en
            (ek ∙ set_of-same _ _ (λ u l. ap (λ (z : Bool). has free u && not z) (sym (nothing-more near u))));
        first = mover-unpinned view
            (mover-of view m.first 0 q.first reach to-man (first-man m q apart)
            (er ∙ set_of-same _ _ (λ t l. ap (λ (n : ℕ). eqb 0 n && reaches (has occ) m.first q.first t) (sym s))) em)
            (omega (arith, and_le_l 0 own)) fm;
        second = second_none;
      }

  -- ---- Black to move

  black-stands : (t : ℕ) → t < 64 → stands (board_in m q) 1 t ≡ eqb t q.black
  black-stands t l =
      stands-men m q 1 t l
      ∙ rw (absent t l, and-false (eqb m.colour 1), or-false (eqb q.black t)) (eqb-sym q.black t)

  module _ (s : q.side ≡ 1) where
    -- the man is not his
    pub first-none : 0 ≡ set_of (can_move (board_in m q) q.first)
    unfolding board_of posed
    first-none =
        set_is (can_move (board_in m q) q.first) 0 (omega arith)
        (λ t l. has-none t ∙ sym (mover-stands (board_in m q) q.first t
        (ap (λ (n : ℕ). stands (board_in m q) n q.first) s ∙ black-stands q.first apart.first
        ∙ ne_eqb q.first q.black (λ e. apart.black-first (sym e)))))

    module _ (a x rest d : ℕ) (ea : a ≡ set_of (λ (u : ℕ). eqb u q.white)) (ex : x ≡ set_of (λ (u : ℕ). eqb u q.first))
        (ed : d ≡ set_of (λ (u : ℕ). eqb u q.black)) (fa : a < 2 ^ 64) (fx : x < 2 ^ 64) (er : rest ≡ bit_or a x)
        (strike : ℕ) (et : strike ≡ set_of (reaches (has rest) m.first q.first)) where
      rest_has : (t : ℕ) → t < 64 → has rest t ≡ (eqb t q.white || eqb t q.first)
      rest_has t l = ap (λ (n : ℕ). has n t) er ∙ has-or a x t ∙ ap₂ ◌||◌ (set-has _ ea t l) (set-has _ ex t l)

      -- Black's king lifted
      without-king : (t : ℕ) → t < 64
          → has rest t ≡ (has (set_of (occupied (board_in m q))) t && not (has d t))
      without-king t l =
          rest_has t l
          ∙ sorted (eqb t q.white) (eqb t q.first) (eqb t q.black) (eqb t q.second) (eqb-sym t q.second ∙ absent t l)
          (λ e. ne_eqb t q.black (λ z. apart.white-black (sym (eqb-true t q.white e) ∙ z)))
          (λ e. ne_eqb t q.black (λ z. apart.black-first (sym z ∙ eqb-true t q.first e)))
          ∙ ap₂ (λ (o b : Bool). o && not b) (sym (set-has _ refl t l ∙ occupied-men m q t l)) (sym (set-has _ ed t l))
        where
          sorted : (p f b n : Bool) → n ≡ false → (p ≡ true → b ≡ false) → (f ≡ true → b ≡ false)
              → (p || f) ≡ ((p || (b || (f || n))) && not b)
          sorted true f b n e h k = sym (rw (h refl))
          sorted false true b n e h k = sym (rw (k refl))
          sorted false false true n e h k = refl
          sorted false false false n e h k = sym (rw e)

      view-black : View m q (set_of (occupied (board_in m q))) d strike
      unfolding board_of posed
      view-black =
          view_of apart refl
          (ed ∙ set_of-same _ _ (λ t l. sym (ap (λ (n : ℕ). stands (board_in m q) n t) s ∙ black-stands t l)))
          d rest 0 (ed ∙ ap (λ (n : ℕ). set_of (λ (u : ℕ). eqb u (cond (eqb n 0) q.white q.black))) (sym s))
          (set_is _ rest (subst (λ (n : ℕ). n < 2 ^ 64) (sym er) (or_lt 64 a x fa fx)) without-king) (sym (ap (λ (n : ℕ). 1 - n) s))
          (λ t l. set-has _ et t l
          ∙ sym (rw (reaches-off (has rest) m.second q.second t (inl gone), and-false (eqb m.colour 0))
          (or-false (reaches (has rest) m.first q.first t))))

      pub black-reaches : (steps free near to-king : ℕ) → steps ≡ set_of (reaches (has 0) 5 q.black)
          → free ≡ set_of (λ (u : ℕ). has steps u && not (has d u)) → near ≡ set_of (reaches (has 0) 5 q.white)
          → to-king ≡ set_of (λ (u : ℕ). has free u && not (has (bit_or near strike) u))
          → Reaches m q (record { king = to-king; first = 0; second = 0 })
      unfolding board_of posed
      black-reaches steps free near to-king es ef en ek = record {
        king = king-view view-black q.black 0 q.white steps free near to-king
            (ap (λ (n : ℕ). cond (eqb n 0) q.white q.black) (sym s)) (sym (ap (λ (n : ℕ). 1 - n) s)) refl es ef en ek;
        first = first-none;
        second = second_none;
      }

-- The bytes of the successors where there is one man, White's: each at a number that code comes to by a way of its own, and of bare kings a draw.
use Rattle.std.specs.Prelude.{◌≡◌, Bool, true, cond, not, ◌&&◌, ◌||◌, List, ℕ, ◌+◌, ◌*◌, ◌-◌, ◌/◌, ◌%◌, ◌≤◌, ◌<◌, T, get_or}
use Rattle.std.proofs.Math.Path.{refl}
use Rattle.std.proofs.Common.{sym, ap, subst, ◌∙◌, arith}
use Rattle.std.proofs.Math.Bool.{false, and-false}
use Rattle.std.proofs.Math.Logic.{⊎_elim}
use Rattle.std.specs.Int.Bits.{bit_xor, xor_zero_r}
use Rattle.std.specs.Int.Count.{ones}
use Rattle.std.proofs.Math.Dec.{eqb, ltb, ltb→lt, eqb→eq}
use borrow.Author.Tests.{le-leb, le-ltb, eq-eqb, ne_eqb}
use Rattle.finite.specs.Truth.{and_left, and_right, or_cases, true_of, of-true, refuted, implies, implied, false_of}
use Rattle.finite.specs.Below.{all_below, below}
use Rattle.board.specs.SetLaws.{bit}
use Rattle.rules.specs.Rules.{moved, can_move}
use Rattle.rules.proofs.laws.CanMove.{can-on}
use Rattle.numbering.specs.Kings.{separate, pair_of}
use Rattle.numbering.specs.Number.{number_of}
use Rattle.numbering.proofs.laws.NormalLaws.{stays-diagonal}
use Rattle.pairs.specs.Rows.{partners_of, first_of}
use Rattle.position.specs.declared.Men.{Men}
use Rattle.position.specs.declared.Place.{Place}
use Rattle.position.specs.Keyed.{board_of, one_man}
use Rattle.position.specs.Posed.{board_in, Complete}
use Rattle.position.proofs.laws.PosedLaws.{complete-spread}
use Rattle.index.specs.declared.Still.{Still}
use Rattle.index.specs.Least.{flip_of, exchange_of, packed, rising_key}
use Rattle.index.specs.Seats.{Seated, alike, number_by}
use Rattle.index.specs.Moving.{at_home, king_on, Stands}
use Rattle.index.proofs.laws.SeatLaws.{known-one}
use Rattle.index.proofs.laws.MovingLaws.{row-stands}
use Rattle.movegen.specs.Places.{place_after}
use Rattle.successors.specs.declared.Frame.{Frame}
use Rattle.successors.specs.Framing.{frame_for}
use Rattle.successors.specs.Lone.{settled}
use Rattle.successors.specs.Successors.{bytes_in, king_at}
use Rattle.successors.specs.Quiet.{of_man, quiet_to, taking_to}
use Rattle.successors.proofs.laws.PlaceLaws.{first-there}
use Rattle.successors.proofs.laws.ByteLaws.{byte-bare, byte-moved}
use Rattle.successors.proofs.laws.QuietLaws.{of-first, byte-plain}
use Rattle.successors.proofs.laws.KingKeys.{byte-there}
use Rattle.successors.proofs.laws.LoneReach.{gone, white-quiet}

-- ---- kings who have nothing turned or exchanged

module _ (white black : ℕ) (e : T (settled white black)) where
  file : white % 8 < 4
  file = ltb→lt (white % 8) 4 (and_left (ltb (white % 8) 4) (ltb (white / 8) (white % 8) || (eqb (white / 8) (white % 8) && ltb (black / 8) (black % 8))) e)

  below_or : T (ltb (white / 8) (white % 8) || (eqb (white / 8) (white % 8) && ltb (black / 8) (black % 8)))
  below_or = and_right (ltb (white % 8) 4) (ltb (white / 8) (white % 8) || (eqb (white / 8) (white % 8) && ltb (black / 8) (black % 8))) e

  rank : white / 8 ≤ white % 8
  rank =
      ⊎_elim (λ t. let h = ltb→lt (white / 8) (white % 8) t in omega (arith, h))
      (λ t. let h = eqb→eq (white / 8) (white % 8) (and_left (eqb (white / 8) (white % 8)) (ltb (black / 8) (black % 8)) t) in omega (arith, h))
      (or_cases (ltb (white / 8) (white % 8)) (eqb (white / 8) (white % 8) && ltb (black / 8) (black % 8)) below_or)

  unflipped : flip_of white ≡ 0
  unfolding flip_of
  unflipped = rw (le-ltb 3 (white % 8) (omega (arith, file)), le-ltb 3 (white / 8) (omega (arith, file, rank)))

  unexchanged : exchange_of white black ≡ 0
  unfolding exchange_of
  unexchanged =
      ⊎_elim
      (λ t. let h = ltb→lt (white / 8) (white % 8) t in
      rw (le-ltb (white % 8) (white / 8) rank, ne_eqb (white % 8) (white / 8) (λ z. absurd (omega (arith, z, h)))))
      (λ t. let h = ltb→lt (black / 8) (black % 8) (and_right (eqb (white / 8) (white % 8)) (ltb (black / 8) (black % 8)) t) in
      let k = eqb→eq (white / 8) (white % 8) (and_left (eqb (white / 8) (white % 8)) (ltb (black / 8) (black % 8)) t) in
      rw (
        le-ltb (white % 8) (white / 8) rank,
        eq-eqb (white % 8) (white / 8) (sym k),
        le-ltb (black % 8) (black / 8) (omega (arith, h)),
        ne_eqb (black % 8) (black / 8) (λ z. absurd (omega (arith, z, h))),
      ))
      (or_cases (ltb (white / 8) (white % 8)) (eqb (white / 8) (white % 8) && ltb (black / 8) (black % 8)) below_or)

  settled-frame : (side : ℕ) → frame_for side white black ≡ record { kings = side * 462 + pair_of white black; flip = 0; exchange = 0 }
  unfolding frame_for
  settled-frame side =
      rw (
        unflipped,
        xor_zero_r white,
        xor_zero_r black,
        unexchanged,
        stays-diagonal false white (λ t. absurd t),
        stays-diagonal false black (λ t. absurd t),
      )

-- ---- a row of pairs

-- the white king at home has one
home-row : (white : ℕ) → white < 64 → T (at_home white) → partners_of white ≡ 0 → ⊥
unfolding all_below partners_of
home-row white h t e =
    refuted (false_of {b = eqb (partners_of white) 0} (implied (at_home white) (not (eqb (partners_of white) 0))
    (below (λ (k : ℕ). implies (at_home k) (not (eqb (partners_of k) 0))) 64 tt white h) t)) (of-true (eq-eqb (partners_of white) 0 e))

plain-key : (k : ℕ) → rising_key false k ≡ k
unfolding rising_key
plain-key k = rw (and-false (ltb (k % 64) (k / 64 % 64)))

row-start : (w x first : ℕ) → x < 64 → first * 64 + x ≡ number_by true 0 first (packed w 0 x 0)
unfolding packed
row-start w x first h = omega arith

-- ---- the bytes after each piece's moves

module _ (m : Men) (q : Place) (w : Complete m q) (one : 4 ≤ m.second) (first second table : List ℕ) where
  unlike : alike m ≡ false
  unlike = (known-one m w.ending (le-leb 4 m.second one)).1

  -- the number of a king's square
  there : (x : Bool) (side to : ℕ)
      → number_of (board_of (one_man m.first 0 side (cond x to q.white) q.first (cond x q.black to)))
      ≡ number_of (board_in m (king_on x q.white q.black q.first q.second side to))
  there x side to =
      sym (ap number_of (first-there m (king_on x q.white q.black q.first q.second side to) (complete-spread w).first
      (gone m q w one)))

  module _ (s : q.side ≡ 0) where
    pub white-step : (t : ℕ) → T (can_move (board_in m q) (king_at q) t)
        → get_or table (number_of (board_of (one_man m.first 0 1 t q.first q.black))) 0
        ≡ bytes_in m first second table (moved (board_in m q) (king_at q) t)
    white-step t c =
        byte-there m q w t (white-quiet m q w one s (king_at q) t c) first second table 1
        (number_of (board_of (one_man m.first 0 1 t q.first q.black))) _ (sym (ap (λ (n : ℕ). 1 - n) s))
        (λ i h. ap (λ (n : ℕ). number_of (board_of (one_man m.first 0 1 (cond (eqb n 0) t q.white) q.first
        (cond (eqb n 0) q.black t)))) (sym s)
        ∙ there (eqb q.side 0) 1 t) refl

    pub man-step : (base : ℕ) → T (settled q.white q.black) → base ≡ (462 + pair_of q.white q.black) * 64 → (t : ℕ)
        → T (can_move (board_in m q) q.first t) → get_or table (base + t) 0 ≡ bytes_in m first second table (moved (board_in m q) q.first t)
    man-step base e hb t c =
        let f : Frame = record { kings = 1 * 462 + pair_of q.white q.black; flip = 0; exchange = 0 } in
        ap (λ (n : ℕ). get_or table (base + n) 0) (sym (straight t))
        ∙ byte-plain m q q.first t (white-quiet m q w one s q.first t c) w first second table f
        (sym (ap (λ (n : ℕ). frame_for (1 - n) q.white q.black) s ∙ settled-frame q.white q.black e 1))
        (rw unlike) (of-first q) base 1 (hb ∙ sym (rw (le-leb 4 m.second one))) (sym (rw (le-leb 4 m.second one)))
      where
        straight : (n : ℕ) → bit_xor n 0 * 1 ≡ n
        straight n = rw (xor_zero_r n) (omega arith)

  module _ (s : q.side ≡ 1) where
    pub black-step : (t : ℕ) → T (quiet_to m q (king_at q) t)
        → get_or table (number_of (board_of (one_man m.first 0 0 q.white q.first t))) 0
        ≡ bytes_in m first second table (moved (board_in m q) (king_at q) t)
    black-step t c =
        byte-there m q w t c first second table 0
        (number_of (board_of (one_man m.first 0 0 q.white q.first t))) _ (sym (ap (λ (n : ℕ). 1 - n) s))
        (λ i h. ap (λ (n : ℕ). number_of (board_of (one_man m.first 0 0 (cond (eqb n 0) t q.white) q.first
        (cond (eqb n 0) q.black t)))) (sym s)
        ∙ there (eqb q.side 0) 0 t) refl

    module _ (row start base : ℕ) (home : T (at_home q.white)) (er : row ≡ partners_of q.white) (fits : row < 18446744073709551616)
        (es : start ≡ first_of q.white) (small : start ≤ 432) (eb : base ≡ start * 64 + q.first) where
      abbrev still : Still
      still = record { single = true; like = false; row = row; base = base; unit = 64 }

      stands : Stands m still (king_on false q.white 0 q.first q.second)
      stands =
          row-stands m q.white q.first q.second still (sym unlike) (sym (le-leb 64 q.second (gone m q w one)))
          (er ∙ sym (ap (λ (x : Bool). cond x (partners_of q.white) 0) (true_of {b = at_home q.white} home))) fits refl
          (eb ∙ ap (λ (n : ℕ). n * 64 + q.first) es ∙ row-start q.white q.first (first_of q.white) (complete-spread w).first
          ∙ sym (rw (le-leb 64 q.second (gone m q w one), plain-key (packed q.white 0 q.first 0))))
          (λ z. home-row q.white (complete-spread w).white home (sym er ∙ z)) (subst (λ (n : ℕ). n ≤ 432) es small)

      pub row_step : (t : ℕ) → T (quiet_to m q (king_at q) t)
          → get_or table (base + ones (row % bit t) * 64) 0 ≡ bytes_in m first second table (moved (board_in m q) (king_at q) t)
      row_step t c =
          byte-there m q w t c first second table 0 (base + ones (row % bit t) * 64) _ (sym (ap (λ (n : ℕ). 1 - n) s))
          (subst (λ (x : Bool). Seated m (king_on x q.white q.black q.first q.second 0 t)
          → T (separate (cond x t q.white) (cond x q.black t))
          → base + ones (row % bit t) * 64 ≡ number_of (board_in m (king_on x q.white q.black q.first q.second 0 t)))
          (sym (ap (λ (n : ℕ). eqb n 0) s))
          (λ i h. turned base (ones (row % bit t))
          ∙ stands.row_is (λ z. home-row q.white (complete-spread w).white home (sym er ∙ z)) 0 t on i h)) refl
        where
          on : t < 64
          on = (can-on (board_in m q) (king_at q) t (and_left (can_move (board_in m q) (king_at q) t) (not (of_man q t)) c)).1

          turned : (b o : ℕ) → b + o * 64 ≡ (0 * 462 + o) * 64 + b
          turned b o = omega arith

  -- the man taken
  pub bare_step : (from t : ℕ) → T (taking_to m q from t) → 1 ≡ bytes_in m first second table (moved (board_in m q) from t)
  unfolding place_after
  bare_step from t z =
      let c = and_left (can_move (board_in m q) from t) (of_man q t) z in
      let o = can-on (board_in m q) from t c in
      byte-moved m q w first second table from t 1 (place_after q from t) c refl
      (λ i. byte-bare m (place_after q from t) i first second table
      (taken (met (eqb q.first t) (eqb q.second t) (and_right (can_move (board_in m q) from t) (of_man q t) z) (off t o.1)))
      (stays (off t o.1) (off from o.0)))
    where
      off : (s : ℕ) → s < 64 → eqb q.second s ≡ false
      off s l = ne_eqb q.second s (λ e. let h = gone m q w one in omega (arith, h))

      met : (a b : Bool) → T (a || b) → b ≡ false → a ≡ true
      met true b t e = refl
      met false b t e = absurd (refuted e t)

      taken : eqb q.first t ≡ true → 64 ≤ (place_after q from t).first
      taken e = rw e (omega arith)

      stays : eqb q.second t ≡ false → eqb q.second from ≡ false → 64 ≤ (place_after q from t).second
      stays e f = rw (e, f) (gone m q w one)

-- What lifting a piece opens: a line past its square. So a man whose square no foe attacks is not pinned, and a check
-- is parried only on a square that the checking man attacks, or by taking him.
use Rattle.std.specs.Prelude.{◌≡◌, refl, ◌⊎◌, Bool, true, false, ◌&&◌, ◌||◌, eqb, get_or}
use Rattle.std.proofs.Common.{sym, ap₂, ◌∙◌, subst, eqb→eq, T_not}
use Rattle.std.proofs.Math.Path.{subst⁻¹}
use Rattle.std.proofs.Math.Logic.{inl, inr, ⊎_elim}
use Rattle.std.proofs.Math.Bool.{not}
use Prim.Native.Nat.{ℕ, zero, suc, ◌<◌}
use Rattle.std.proofs.Math.Dec.{T, ltb, eqb_refl, not_T}
use Rattle.finite.specs.Truth.{and_left, and_right, and_both, or_left, or_right, or_cases, by-test, fails, refuted}
use Rattle.finite.specs.Members.{any-in, any_out}
use Rattle.board.specs.Square.{shift}
use Rattle.board.specs.Reach.{line, step_xs, step_ys, step_ranges, steps_of, line_of, reaches}
use Rattle.board.proofs.laws.Blocking.{reaches-fewer}
use Rattle.board.proofs.laws.ReachLaws.{reaches_same}
use Rattle.rules.specs.declared.Piece.{Piece}
use Rattle.rules.specs.Rules.{Board, piece_of, occupied, attacked, stands, moved}
use Rattle.position.specs.declared.Men.{Men}
use Rattle.position.specs.declared.Place.{Place}
use Rattle.position.specs.Over.{attacked_over, lifted}
use Rattle.position.specs.Spread.{Pawnless}
use Rattle.position.specs.Posed.{board_in}
use Rattle.position.specs.Pieces.{own_on}
use Rattle.movegen.specs.Places.{first_of, second_of, piece_strikes, men_strike, square_after, place_after}
use Rattle.movegen.proofs.laws.Places.{stands-men, attacked-men, pawnless-after, place-moved}
use Rattle.movegen.proofs.laws.Carried.{Goer, still-occupied, was-occupied}

-- ---- one line

-- what stands in the way in occ, the square s apart, does so in occ'
module _ (occ occ' : ℕ → Bool) (s t : ℕ) (others : (u : ℕ) → (u ≡ s → ⊥) → T (occ u) → T (occ' u)) where
  -- a line open in occ' is open in occ, or arrives at s there
  line-opened : (n from dx dy : ℕ) → T (line occ' n from dx dy t)
      → T (line occ n from dx dy t) ⊎ T (line occ n from dx dy s)
  unfolding line
  line-opened zero from dx dy h = absurd h
  line-opened (suc n) from dx dy h =
      let u = shift from dx dy in
      let on = ltb u 64 in
      let past = not (occ' u) && line occ' n u dx dy t in
      ⊎_elim (λ e. inl (arrives t e))
      (λ r. by-test (occ u)
      (λ o. by-test (eqb u s) (λ e. inr (arrives s e))
      (λ d. absurd (T_not (occ' u) (and_left (not (occ' u)) (line occ' n u dx dy t) r)
      (others u (λ q. d (subst (λ (z : ℕ). T (eqb z s)) (sym q) (eqb_refl s))) o))))
      (λ o. ⊎_elim (λ a. inl (goes_on t o a)) (λ b. inr (goes_on s o b))
      (line-opened n u dx dy (and_right (not (occ' u)) (line occ' n u dx dy t) r))))
      (or_cases (eqb u t) past (and_right on (eqb u t || past) h))
    where
      here : T (ltb (shift from dx dy) 64)
      here = let u = shift from dx dy in
          and_left (ltb u 64) (eqb u t || not (occ' u) && line occ' n u dx dy t) h

      arrives : (x : ℕ) → T (eqb (shift from dx dy) x) → T (line occ (suc n) from dx dy x)
      arrives x e =
          let u = shift from dx dy in
          let more = not (occ u) && line occ n u dx dy x in
          and_both (ltb u 64) (eqb u x || more) here (or_left (eqb u x) more e)

      goes_on : (x : ℕ) → (T (occ (shift from dx dy)) → ⊥) → T (line occ n (shift from dx dy) dx dy x)
          → T (line occ (suc n) from dx dy x)
      goes_on x o r =
          let u = shift from dx dy in
          let more = not (occ u) && line occ n u dx dy x in
          and_both (ltb u 64) (eqb u x || more) here
          (or_right (eqb u x) more (and_both (not (occ u)) (line occ n u dx dy x) (not_T (occ u) o) r))

  pub reaches-opened : (kind from : ℕ) → T (reaches occ' kind from t)
      → T (reaches occ kind from t) ⊎ T (reaches occ kind from s)
  unfolding reaches
  reaches-opened kind from h =
      let w = any_out (line_of occ' kind from t) (steps_of kind) h in
      ⊎_elim (λ a. inl (any-in (line_of occ kind from t) w.1 a)) (λ b. inr (any-in (line_of occ kind from s) w.1 b))
      (line-opened (get_or step_ranges kind 0) from (get_or step_xs w.0 0) (get_or step_ys w.0 0) w.2)

-- ---- pins

module _ (occ : ℕ → Bool) (foe at square : ℕ) where
  -- a foe who attacks `at` with the piece on `square` lifted attacks one of the two with it there
  strikes-opened : (x : Piece) → T (piece_strikes (lifted occ square) foe at x)
      → T (piece_strikes (lifted occ at) foe at x) ⊎ T (piece_strikes (lifted occ at) foe square x)
  strikes-opened x h =
      let own = eqb x.colour foe in
      let hit = reaches (lifted occ square) x.kind x.square at in
      let back : (t : ℕ) → T (reaches occ x.kind x.square t) → T (piece_strikes (lifted occ at) foe t x) =
      λ t r. and_both own (reaches (lifted occ at) x.kind x.square t) (and_left own hit h)
      (reaches-fewer occ (lifted occ at) t (λ u n o. and_left (occ u) (not (eqb u at)) o) x.kind x.square r) in
      ⊎_elim (λ a. inl (back at a)) (λ b. inr (back square b))
      (reaches-opened occ (lifted occ square) square at
      (λ u n o. and_both (occ u) (not (eqb u square)) o (not_T (eqb u square) (λ e. n (eqb→eq u square e))))
      x.kind x.square (and_right own hit h))

  pub unpinned : (x : Piece) → piece_strikes (lifted occ at) foe at x ≡ false → piece_strikes (lifted occ at) foe square x ≡ false
      → piece_strikes (lifted occ square) foe at x ≡ false
  unpinned x e f =
      fails (piece_strikes (lifted occ square) foe at x) (λ h. ⊎_elim (λ a. refuted e a) (λ b. refuted f b) (strikes-opened x h))

pub neither : (a b : Bool) → (a || b) ≡ false → (a ≡ false) × (b ≡ false)
neither true b e = absurd (refuted e tt)
neither false b e = (refl, e)

module _ (m : Men) (q : Place) (foe : ℕ) where
  -- only what stands on the board counts
  pub strike-same : (occ occ' : ℕ → Bool) → ((u : ℕ) → u < 64 → occ u ≡ occ' u) → (t : ℕ)
      → men_strike m q occ foe t ≡ men_strike m q occ' foe t
  strike-same occ occ' same t =
      rw (
        reaches_same occ occ' same m.first q.first t,
        reaches_same occ occ' same m.second q.second t,
      )

  pub men-unpinned : (occ : ℕ → Bool) (at square : ℕ) → men_strike m q (lifted occ at) foe at ≡ false
      → men_strike m q (lifted occ at) foe square ≡ false
      → men_strike m q (lifted occ square) foe at ≡ false
  men-unpinned occ at square e f =
      let first = first_of m q in
      let second = second_of m q in
      let a = neither (piece_strikes (lifted occ at) foe at first) (piece_strikes (lifted occ at) foe at second) e in
      let b = neither (piece_strikes (lifted occ at) foe square first) (piece_strikes (lifted occ at) foe square second) f in
      ap₂ ◌||◌ (unpinned occ foe at square first a.0 b.0) (unpinned occ foe at square second a.1 b.1)

-- ---- checks: b is a board, `from` a square that no foe shares, and the piece there may go to t

module _ (b : Board) (from t : ℕ) (g : Goer b from t) (foe at : ℕ) where
  -- a foe who attacks `at` with the mover lifted, and does not attack the target, attacks `at` after the move
  strikes-on : (kind owner s : ℕ) → own_on foe t (piece_of kind owner s) ≡ false
      → own_on foe from (piece_of kind owner s) ≡ false
      → piece_strikes (lifted (occupied b) from) foe t (piece_of kind owner s) ≡ false
      → T (piece_strikes (lifted (occupied b) from) foe at (piece_of kind owner s))
      → T (piece_strikes (occupied (moved b from t)) foe at (piece_of kind owner (square_after from t s)))
  strikes-on kind owner s et ef miss h =
      let own = eqb owner foe in
      let o = and_left own (reaches (lifted (occupied b) from) kind s at) h in
      let r = and_right own (reaches (lifted (occupied b) from) kind s at) h in
      let now = occupied (moved b from t) in
      rw (off own (eqb s t) et o, off own (eqb s from) ef o)
      (and_both own (reaches now kind s at) o
      (⊎_elim (λ a. a)
      (λ p. absurd (refuted miss (and_both own (reaches (lifted (occupied b) from) kind s t) o
      (reaches-fewer now (lifted (occupied b) from) t (λ u n l. still-occupied b from t g u l) kind s p))))
      (reaches-opened now (lifted (occupied b) from) t at (λ u n l. was-occupied b from t g u n l) kind s r)))
    where
      off : (x y : Bool) → (x && y) ≡ false → T x → y ≡ false
      off true y e h = e
      off false y e h = absurd h

-- whoever of the men gives check with the mover lifted gives check after the move, unless he attacks the target or
-- stands there
pub unparried : (m : Men) (q : Place) → Pawnless m q → (from t foe at : ℕ) → Goer (board_in m q) from t → t < 64
    → stands (board_in m q) foe t ≡ false → stands (board_in m q) foe from ≡ false
    → men_strike m q (lifted (occupied (board_in m q)) from) foe t ≡ false
    → T (men_strike m q (lifted (occupied (board_in m q)) from) foe at)
    → T (attacked (moved (board_in m q) from t) foe at)
unfolding attacked attacked_over place_after
unparried m q none from t foe at g l et ef miss h =
    let b = board_in m q in
    let now = occupied (moved b from t) in
    let up = lifted (occupied b) from in
    let q' = place_after q from t in
    let on = last (own_on foe t (piece_of 5 0 q.white)) (own_on foe t (piece_of 5 1 q.black))
    (own_on foe t (first_of m q)) (own_on foe t (second_of m q)) (sym (stands-men m q foe t l) ∙ et) in
    let off = last (own_on foe from (piece_of 5 0 q.white)) (own_on foe from (piece_of 5 1 q.black))
    (own_on foe from (first_of m q)) (own_on foe from (second_of m q)) (sym (stands-men m q foe from g.on) ∙ ef) in
    let out = neither (piece_strikes up foe t (first_of m q)) (piece_strikes up foe t (second_of m q)) miss in
    let a = piece_strikes now foe at (first_of m q') in
    let c = piece_strikes now foe at (second_of m q') in
    subst (λ (x : Board). T (attacked_over now x foe at)) (place-moved from t g.on l m q)
    (subst⁻¹ T (attacked-men m q' (pawnless-after from t g.on l m q none) now foe at)
    (or_right (piece_strikes now foe at (piece_of 5 0 q'.white)) (piece_strikes now foe at (piece_of 5 1 q'.black) || (a || c))
    (or_right (piece_strikes now foe at (piece_of 5 1 q'.black)) (a || c)
    (⊎_elim
    (λ x. or_left a c (strikes-on b from t g foe at m.first 0 q.first on.0 off.0 out.0 x))
    (λ x. or_right a c (strikes-on b from t g foe at m.second m.colour q.second on.1 off.1 out.1 x))
    (or_cases (piece_strikes up foe at (first_of m q)) (piece_strikes up foe at (second_of m q)) h)))))
  where
    last : (w k x y : Bool) → (w || (k || (x || y))) ≡ false → (x ≡ false) × (y ≡ false)
    last w k x y e = neither x y (neither k (x || y) (neither w (k || (x || y)) e).1).1

-- The numbers of a king's squares while all other pieces stand still: his square put into the key of the others; and for Black's, the white king in the
-- triangle and off its diagonal, the pairs of a row one after the other.
use Rattle.std.specs.Prelude.{◌≡◌, Bool, ◌&&◌, ℕ, ◌+◌, ◌*◌, ◌/◌, ◌%◌, ◌^◌, ◌<◌, ◌≤◌, T, ltb}
use Rattle.std.proofs.Math.Path.{refl, ap, ap₂, subst⁻¹}
use Rattle.std.proofs.Common.{sym, ◌∙◌, ltb→lt}
use Rattle.std.proofs.Math.Bool.{true, false, cond}
use native.Mathlib.Omega.{arith}
use Rattle.std.specs.Int.Bits.{xor_zero_r}
use Rattle.std.specs.Int.Count.{ones}
use Rattle.std.proofs.Math.Dec.{leb}
use borrow.Author.Tests.{lt-ltb, le-ltb, leb-false, ne_eqb}
use Rattle.finite.specs.Truth.{and_left, and_right}
use Rattle.board.specs.SetLaws.{bit}
use Rattle.numbering.specs.Kings.{cornered, separate, king_rule, pair_of}
use Rattle.numbering.specs.Normal.{swaps_kings}
use Rattle.numbering.specs.Number.{number_of}
use Rattle.numbering.proofs.laws.Numberable.{separate-white}
use Rattle.numbering.proofs.laws.PairLaws.{pair_lt}
use Rattle.pairs.specs.Rows.{partners_of, first_of}
use Rattle.pairs.proofs.laws.RowLaws.{no-bit, bit-pair}
use Rattle.position.specs.declared.Men.{Men}
use Rattle.position.specs.declared.Place.{Place}
use Rattle.position.specs.Posed.{board_in}
use Rattle.index.specs.declared.Still.{Still}
use Rattle.index.specs.Least.{flip_of, packed, turned_key, rising_key, least_of}
use Rattle.index.specs.Seats.{Seated, alike, alone, key_at, least_at, number_by, number_from}
use Rattle.index.specs.Moving.{at_home, row_beside, king_on, Keyed, Stands}
use Rattle.index.proofs.laws.LeastLaws.{rising-packed, transposed-less}
use Rattle.index.proofs.laws.SeatLaws.{number-place}

-- ---- by the key

module _ (w b x y s : ℕ) where
  white-put : packed 0 b x y + s * 262144 ≡ packed s b x y
  unfolding packed
  white-put = omega arith

  black-put : packed w 0 x y + s * 4096 ≡ packed w s x y
  unfolding packed
  black-put = omega arith

pub white-keyed : (white black x y : ℕ) → Keyed (king_on true white black x y 0 0) 262144 (king_on true white black x y)
white-keyed white black x y = record {
  alone-is = λ side s h. refl;
  side-is = λ side s. refl;
  key-is = λ side s h. unfold key_at in white-put 0 black x (cond (leb 64 y) 0 y) s;
}

pub black-keyed : (white black x y : ℕ) → Keyed (king_on false white black x y 0 0) 4096 (king_on false white black x y)
black-keyed white black x y = record {
  alone-is = λ side s h. refl;
  side-is = λ side s. refl;
  key-is = λ side s h. unfold key_at in black-put white 0 x (cond (leb 64 y) 0 y) s;
}

pub keyed-stands : (m : Men) (q : Place) (place : ℕ → ℕ → Place) (l : Still) → Keyed q l.unit place → l.single ≡ alone q → l.like ≡ alike m
    → l.base ≡ key_at q → l.base < 2 ^ 27 → l.unit ≤ 262144 → l.row ≡ 0 → Stands m l place
keyed-stands m q place l k hs hl hb fb fu hr = record {
  base-fits = fb;
  unit-fits = fu;
  like_is = hl;
  alone-is = λ side s h. hs ∙ k.alone-is side s h;
  side-is = k.side-is;
  key-is = λ e side s h. ap (λ (n : ℕ). n + s * l.unit) hb ∙ k.key-is side s h;
  row_is = λ n side s h i k. absurd (n hr);
}

-- ---- at a row of pairs

-- the white king at home: nothing is turned or exchanged
module _ (w : ℕ) (home : T (at_home w)) where
  file : w % 8 < 4
  file = ltb→lt (w % 8) 4 (and_right (ltb (w / 8) (w % 8)) (ltb (w % 8) 4) home)

  rank : w / 8 < w % 8
  rank = ltb→lt (w / 8) (w % 8) (and_left (ltb (w / 8) (w % 8)) (ltb (w % 8) 4) home)

  unturned : flip_of w ≡ 0
  unfolding flip_of
  unturned = rw (le-ltb 3 (w % 8) (omega (arith, file)), le-ltb 3 (w / 8) (omega (arith, file, rank)))

  pub home-key : (b x y : ℕ) → turned_key w b x y ≡ packed w b x (cond (leb 64 y) 0 y)
  unfolding turned_key
  home-key b x y = rw (unturned, xor_zero_r w, xor_zero_r b, xor_zero_r x, xor_zero_r y)

  unexchanged : (b : ℕ) (p : Bool) → swaps_kings w b p ≡ false
  unfolding swaps_kings
  unexchanged b p = rw (le-ltb (w % 8) (w / 8) (omega (arith, rank)), ne_eqb (w % 8) (w / 8) (λ e. absurd (omega (arith, rank, e))))

  pub home-least : (like : Bool) (b x y : ℕ) → w < 64 → b < 64 → x < 64 → y < 64 → least_of like (packed w b x y) ≡ rising_key like (packed w b x y)
  unfolding least_of
  home-least like b x y hw hb hx hy = rw (transposed-less like w b x y hw hb hx hy, unexchanged b _)

-- the men's part of a key in their order, whichever square the black king stands on
module _ (single : Bool) (w b x y : ℕ) (hw : w < 64) (hb : b < 64) (hx : x < 64) (hy : y < 64) where
  row-packed : (side first below : ℕ)
      → (side * 462 + below) * cond single 64 4096 + number_by single 0 first (packed w 0 x y)
      ≡ number_by single side (first + below) (packed w b x y)
  unfolding packed
  row-packed side first below = go single
    where
      go : (e : Bool)
          → (side * 462 + below) * cond e 64 4096 + number_by e 0 first (((w * 64 + 0) * 64 + x) * 64 + y)
          ≡ number_by e side (first + below) (((w * 64 + b) * 64 + x) * 64 + y)
      go true = omega arith
      go false = omega arith

  kings-in : packed w b x y / 4096 % 4096 ≡ w * 64 + b
  unfolding packed
  kings-in = omega arith

  white-in : (w * 64 + b) / 64 ≡ w
  white-in = omega arith

  black-in : (w * 64 + b) % 64 ≡ b
  black-in = omega arith

  packed-number : (side : ℕ) → number_from single side (packed w b x y) ≡ number_by single side (pair_of w b) (packed w b x y)
  unfolding number_from
  packed-number side = rw (kings-in, white-in, black-in)

  from_row : (side first below : ℕ) → first + below ≡ pair_of w b
      → (side * 462 + below) * cond single 64 4096 + number_by single 0 first (packed w 0 x y) ≡ number_from single side (packed w b x y)
  from_row side first below e =
      row-packed side first below ∙ ap (λ (p : ℕ). number_by single side p (packed w b x y)) e ∙ sym (packed-number side)

rising-row : (single like : Bool) (w b x y : ℕ) → w < 64 → b < 64 → x < 64 → y < 64 → (side first below : ℕ) → first + below ≡ pair_of w b
    → (side * 462 + below) * cond single 64 4096 + number_by single 0 first (rising_key like (packed w 0 x y))
    ≡ number_from single side (rising_key like (packed w b x y))
rising-row single like w b x y hw hb hx hy side first below e =
    ap (λ (k : ℕ). (side * 462 + below) * cond single 64 4096 + number_by single 0 first k) (rising-packed like w 0 x y hw (omega arith) hx hy)
    ∙ go (ltb y x && like)
    ∙ sym (ap (number_from single side) (rising-packed like w b x y hw hb hx hy))
  where
    go : (c : Bool)
        → (side * 462 + below) * cond single 64 4096 + number_by single 0 first (cond c (packed w 0 y x) (packed w 0 x y))
        ≡ number_from single side (cond c (packed w b y x) (packed w b x y))
    go true = from_row single w b y x hw hb hy hx side first below e
    go false = from_row single w b x y hw hb hx hy side first below e

-- there is a row only with the white king at home
home_of : (w : ℕ) → (row_beside w ≡ 0 → ⊥) → T (at_home w) × (row_beside w ≡ partners_of w)
home_of w = go (at_home w)
  where
    go : (h : Bool) → (cond h (partners_of w) 0 ≡ 0 → ⊥) → T h × (cond h (partners_of w) 0 ≡ partners_of w)
    go true n = (tt, refl)
    go false n = absurd (n refl)

-- and then it has every square that does not touch his
module _ (w s : ℕ) (home : T (at_home w)) (apart : T (separate w s)) where
  ruled : T (king_rule w s)
  unfolding king_rule cornered
  ruled = rw (
    lt-ltb (w % 8) 4 (file w home),
    le-ltb (w % 8) (w / 8) (omega (arith, rank w home)),
    ne_eqb (w % 8) (w / 8) (λ e. absurd (omega (arith, rank w home, e))),
  ) apart

  on_row : (row : ℕ) → row ≡ partners_of w → s < 64 → row / 2 ^ s % 2 ≡ 0 → ⊥
  on_row row e h z = let l = pair_lt w s (separate-white w s apart) h ruled in omega (arith, l, no-bit w s row e h z)

module _ (m : Men) (w x y : ℕ) (l : Still) (hl : l.like ≡ alike m) (hs : l.single ≡ leb 64 y) (hr : l.row ≡ row_beside w) (fits : l.row < 18446744073709551616)
    (hu : l.unit ≡ cond l.single 64 4096) (hb : l.base ≡ number_by l.single 0 (first_of w) (rising_key l.like (packed w 0 x (cond (leb 64 y) 0 y)))) where
  row_number : (l.row ≡ 0 → ⊥) → (side s : ℕ) → s < 64 → Seated m (king_on false w 0 x y side s) → T (separate w s)
      → (side * 462 + ones (l.row % bit s)) * l.unit + l.base ≡ number_of (board_in m (king_on false w 0 x y side s))
  unfolding least_at
  row_number n side s h i apart =
      let home = home_of w (λ e. n (hr ∙ e)) in
      let z = cond (leb 64 y) 0 y in
      let row = hr ∙ home.1 in
      let pair = bit-pair w s l.row row h (first_of w) fits refl (on_row w s home.0 apart l.row row h) in
      ap₂ (λ (c b : ℕ). (side * 462 + ones (l.row % bit s)) * c + b) hu hb
      ∙ rising-row l.single l.like w s x z i.white h i.first (last (leb 64 y) refl) side (first_of w) (ones (l.row % bit s)) pair
      ∙ ap₂ (λ (t k : Bool). number_from t side (rising_key k (packed w s x z))) hs hl
      ∙ ap (number_from (leb 64 y) side)
      (sym (ap (least_of (alike m)) (home-key w home.0 s x y) ∙ home-least w home.0 (alike m) s x z i.white h i.first (last (leb 64 y) refl)))
      ∙ number-place m (king_on false w 0 x y side s) i
    where
      last : (e : Bool) → leb 64 y ≡ e → cond e 0 y < 64
      last true e = omega arith
      last false e = leb-false 64 y e

  pub row-stands : (l.row ≡ 0 → ⊥) → first_of w ≤ 432 → Stands m l (king_on false w 0 x y)
  row-stands n small = record {
    base-fits = subst⁻¹ (λ (b : ℕ). b < 2 ^ 27) hb (base-lt l.single (first_of w) _ small);
    unit-fits = subst⁻¹ (λ (u : ℕ). u ≤ 262144) hu (unit-le l.single);
    like_is = hl;
    alone-is = λ side s h. hs;
    side-is = λ side s. refl;
    key-is = λ e side s h. absurd (n e);
    row_is = row_number;
  }
    where
      base-lt : (single : Bool) (first n : ℕ) → first ≤ 432 → number_by single 0 first n < 2 ^ 27
      base-lt true first n h = omega arith
      base-lt false first n h = omega arith

      unit-le : (single : Bool) → cond single 64 4096 ≤ 262144
      unit-le true = omega arith
      unit-le false = omega arith

-- ---- as code makes them

-- a key with Black's king on a1
pub lifted-key : (q : Place) → q.black ≡ 0 → (k : ℕ) → k ≡ key_at q → k ≡ packed q.white 0 q.first (cond (leb 64 q.second) 0 q.second)
unfolding key_at
lifted-key q e k h = h ∙ ap (λ (b : ℕ). packed q.white b q.first (cond (leb 64 q.second) 0 q.second)) e

pub row-base : (single like : Bool) (w x z first others rising base : ℕ) → first ≡ first_of w → others ≡ packed w 0 x z → rising ≡ rising_key like others
    → base ≡ number_by single 0 first rising → base ≡ number_by single 0 (first_of w) (rising_key like (packed w 0 x z))
row-base single like w x z first others rising base hf ho hr hb =
    hb ∙ ap₂ (λ (f r : ℕ). number_by single 0 f r) hf (hr ∙ ap (rising_key like) ho)

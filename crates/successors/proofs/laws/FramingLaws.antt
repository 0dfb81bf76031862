-- A frame gives the number: the exchange that the men call for leaves kings on the diagonal where they are.
use Rattle.std.specs.Prelude.{◌≡◌, Bool, ◌&&◌, ◌||◌, ℕ, ◌+◌, ◌*◌, ◌/◌, ◌%◌, ◌<◌, ◌≤◌, T, leb, ltb, eqb}
use Rattle.std.proofs.Math.Path.{refl, sym, ap, ap₂, subst⁻¹}
use Rattle.std.proofs.Common.{◌∙◌, lt-ltb, le-ltb, leb-false, eq-eqb, ne_eqb}
use Rattle.std.proofs.Math.Bool.{true, false, cond}
use native.Mathlib.Omega.{arith}
use Rattle.std.specs.Int.Bits.{bit_xor}
use Rattle.symmetry.specs.Symmetry.{mapped, exchange}
use Rattle.symmetry.proofs.laws.SymmetryLaws.{mapped-on}
use Rattle.numbering.specs.Kings.{above, in_triangle, on_diagonal, pair_of}
use Rattle.numbering.specs.Normal.{turn, swaps_kings}
use Rattle.numbering.specs.KingMaps.{swapping}
use Rattle.numbering.specs.Number.{number_of}
use Rattle.numbering.proofs.laws.NormalLaws.{stays-diagonal}
use Rattle.position.specs.declared.Men.{Men}
use Rattle.position.specs.declared.Place.{Place}
use Rattle.position.specs.Posed.{board_in}
use Rattle.index.specs.Least.{flip_of, flipped, exchange_of, packed, turned_key, least_of}
use Rattle.index.specs.Seats.{Seated, alike, alone, least_at, number_from}
use Rattle.index.proofs.laws.LeastLaws.{flip-turns, packed-first, in_order, swaps_four, least-packed}
use Rattle.index.specs.Least.{men_digits}
use Rattle.index.proofs.laws.SeatLaws.{number-place}
use Rattle.index.proofs.laws.CornerLaws.{lone-found}
use Rattle.successors.specs.declared.Frame.{Frame}
use Rattle.successors.specs.Framing.{frame_for, chosen_digits, number_on}

-- ---- the exchange, by four tests of the kings' squares and one of the men's

exchange_by : Bool → Bool → Bool → Bool → ℕ
exchange_by aw dw ab db = cond aw 1 (cond dw (cond ab 1 (cond db 2 0)) 0)

module _ (w b : ℕ) (p : Bool) where
  king-stays : (aw dw ab db : Bool) (s : ℕ) → (T dw → T db → T (on_diagonal s))
      → mapped (swapping (aw || (dw && (ab || (db && p))))) s ≡ mapped (swapping (eqb (exchange_by aw dw ab db) 1)) s
  unfolding exchange_by
  king-stays true dw ab db s d = refl
  king-stays false false ab db s d = refl
  king-stays false true true db s d = refl
  king-stays false true false false s d = refl
  king-stays false true false true s d =
      stays-diagonal p s (λ t. d tt tt) ∙ sym (stays-diagonal false s (λ t. d tt tt))

  white-stays : mapped (swapping (swaps_kings w b p)) w ≡ mapped (swapping (eqb (exchange_of w b) 1)) w
  unfolding swaps_kings exchange_of exchange_by
  white-stays = king-stays (above w) (on_diagonal w) (above b) (on_diagonal b) w (λ d e. d)

  black-stays : mapped (swapping (swaps_kings w b p)) b ≡ mapped (swapping (eqb (exchange_of w b) 1)) b
  unfolding swaps_kings exchange_of exchange_by
  black-stays = king-stays (above w) (on_diagonal w) (above b) (on_diagonal b) b (λ d e. e)

  -- what is chosen by the exchange
  choice : (aw dw ab db : Bool) (s t : ℕ)
      → cond (aw || (dw && (ab || (db && p)))) t s
      ≡ cond (eqb (exchange_by aw dw ab db) 0) s (cond (eqb (exchange_by aw dw ab db) 1) t (cond p t s))
  unfolding exchange_by
  choice true dw ab db s t = refl
  choice false false ab db s t = refl
  choice false true true db s t = refl
  choice false true false false s t = refl
  choice false true false true s t = refl

  chosen-by : (s t : ℕ)
      → cond (swaps_kings w b p) t s
      ≡ cond (eqb (exchange_of w b) 0) s (cond (eqb (exchange_of w b) 1) t (cond p t s))
  unfolding swaps_kings exchange_of exchange_by
  chosen-by s t = choice (above w) (on_diagonal w) (above b) (on_diagonal b) s t

-- the men's digits under the exchange or none
digits-under : (like e : Bool) (x y : ℕ)
    → men_digits like (mapped (swapping e) x) (mapped (swapping e) y)
    ≡ cond e (men_digits like (mapped exchange x) (mapped exchange y)) (men_digits like x y)
digits-under like true x y = refl
digits-under like false x y =
    ap₂ (men_digits like) (stays-diagonal false x (λ t. absurd t)) (stays-diagonal false y (λ t. absurd t))

-- ---- the number of four squares

module _ (single : Bool) (side : ℕ) (w b x y : ℕ) (hw : w < 64) (hb : b < 64) (hx : x < 64) (hy : y < 64) where
  kings-of : packed w b x y / 4096 % 4096 ≡ w * 64 + b
  unfolding packed
  kings-of = omega arith

  white-of : (w * 64 + b) / 64 ≡ w
  white-of = omega arith

  black-of : (w * 64 + b) % 64 ≡ b
  black-of = omega arith

  low : packed w b x y % 4096 ≡ x * 64 + y
  unfolding packed
  low = omega arith

  high : (x * 64 + y) / 64 ≡ x
  high = omega arith

  from-packed : number_from single side (packed w b x y)
      ≡ cond single ((side * 462 + pair_of w b) * 64 + (x * 64 + y) / 64)
      ((side * 462 + pair_of w b) * 4096 + (x * 64 + y))
  unfolding number_from
  from-packed =
      rw (
        kings-of,
        white-of,
        black-of,
        packed-first w b x y hw hb hx hy,
        low,
        high,
      )

module _ (single like : Bool) (side : ℕ) (w b x y : ℕ) (hw : w < 64) (hb : b < 64) (hx : x < 64) (hy : y < 64) where
  from-ordered : number_from single side (in_order like w b x y)
      ≡ cond single ((side * 462 + pair_of w b) * 64 + men_digits like x y / 64)
      ((side * 462 + pair_of w b) * 4096 + men_digits like x y)
  from-ordered = go (ltb y x && like)
    where
      go : (e : Bool) → number_from single side (cond e (packed w b y x) (packed w b x y))
          ≡ cond single ((side * 462 + pair_of w b) * 64 + cond e (y * 64 + x) (x * 64 + y) / 64)
          ((side * 462 + pair_of w b) * 4096 + cond e (y * 64 + x) (x * 64 + y))
      go true = from-packed single side w b y x hw hb hy hx
      go false = from-packed single side w b x y hw hb hx hy

on-board : (e : Bool) (s : ℕ) → s < 64 → mapped (swapping e) s < 64
on-board e s h = mapped-on (swapping e) s h

module _ (single like : Bool) (side : ℕ) (w b x y : ℕ) (hw : w < 64) (hb : b < 64) (hx : x < 64) (hy : y < 64) where
  abbrev e : Bool
  e = swaps_four like w b x y

  framed : number_from single side (least_of like (packed w b x y))
      ≡ (let k = side * 462 + pair_of (mapped (swapping (eqb (exchange_of w b) 1)) w)
      (mapped (swapping (eqb (exchange_of w b) 1)) b) in
      cond single (k * 64 + chosen_digits (exchange_of w b) like x y / 64)
      (k * 4096 + chosen_digits (exchange_of w b) like x y))
  unfolding chosen_digits
  framed =
      ap (number_from single side) (least-packed like w b x y hw hb hx hy)
      ∙ from-ordered single like side (mapped (swapping e) w) (mapped (swapping e) b) (mapped (swapping e) x)
      (mapped (swapping e) y) (on-board e w hw) (on-board e b hb) (on-board e x hx) (on-board e y hy)
      ∙ ap₂ (λ (k d : ℕ). cond single ((side * 462 + k) * 64 + d / 64) ((side * 462 + k) * 4096 + d))
      (ap₂ pair_of (white-stays w b _) (black-stays w b _))
      (digits-under like e x y ∙ chosen-by w b _ (men_digits like x y)
      (men_digits like (mapped exchange x) (mapped exchange y)))

-- ---- of a place

flip-on : (white s : ℕ) → s < 64 → bit_xor s (flip_of white) < 64
unfolding flipped
flip-on white s h =
    subst⁻¹ (λ (n : ℕ). n < 64)
    (sym (ap (λ (e : Bool). cond e (bit_xor s (flip_of white)) s) (lt-ltb s 64 h)) ∙ flip-turns white s)
    (mapped-on (turn white) s h)

by_size : (single like : Bool) (k e x z : ℕ)
    → cond single (k * 64 + chosen_digits e like x (cond single 0 z) / 64)
    (k * 4096 + chosen_digits e like x (cond single 0 z))
    ≡ cond single (k * 64 + chosen_digits e like x 0 / 64) (k * 4096 + chosen_digits e like x z)
by_size true like k e x z = refl
by_size false like k e x z = refl

pub number-framed : (m : Men) (q : Place) → Seated m q
    → number_on (frame_for q.side q.white q.black) (leb 4 m.second) (alike m) q.first q.second
    ≡ number_of (board_in m q)
unfolding number_on frame_for least_at turned_key
number-framed m q s =
    ap (λ (x : Bool). number_on (frame_for q.side q.white q.black) x (alike m) q.first q.second)
    (sym s.second)
    ∙ sym (by_size (alone q) (alike m) _ _ _ _)
    ∙ sym (framed (alone q) (alike m) q.side (bit_xor q.white f) (bit_xor q.black f) (bit_xor q.first f)
    (cond (leb 64 q.second) 0 (bit_xor q.second f)) (flip-on q.white q.white s.white)
    (flip-on q.white q.black s.black) (flip-on q.white q.first s.first)
    (last (leb 64 q.second) refl))
    ∙ number-place m q s
  where
    f : ℕ
    f = flip_of q.white

    last : (x : Bool) → leb 64 q.second ≡ x → cond x 0 (bit_xor q.second (flip_of q.white)) < 64
    last true e = omega arith
    last false e = flip-on q.white q.second (leb-false 64 q.second e)

-- ---- as code makes it

men-lt : (like : Bool) (x y : ℕ) → x < 64 → y < 64 → men_digits like x y < 4096
men-lt like x y hx hy = go (ltb y x && like)
  where
    go : (e : Bool) → cond e (y * 64 + x) (x * 64 + y) < 4096
    go true = omega arith
    go false = omega arith

chosen-lt : (e : ℕ) (like : Bool) (x y : ℕ) → x < 64 → y < 64 → chosen_digits e like x y < 4096
unfolding chosen_digits
chosen-lt e like x y hx hy =
    go (eqb e 0) (eqb e 1) (ltb t s) (men-lt like x y hx hy)
    (men-lt like (mapped exchange x) (mapped exchange y) (mapped-on exchange x hx) (mapped-on exchange y hy))
  where
    s : ℕ
    s = men_digits like x y

    t : ℕ
    t = men_digits like (mapped exchange x) (mapped exchange y)

    go : (a b c : Bool) → s < 4096 → t < 4096 → cond a s (cond b t (cond c t s)) < 4096
    go true b c h k = h
    go false true c h k = k
    go false false true h k = k
    go false false false h k = h

-- the kings' part of the number of a man with them
kings-part : (side white black n : ℕ) → white < 64 → black < 64
    → n ≡ number_from true side (least_of false (turned_key white black 0 64))
    → n / 64 ≡ (frame_for side white black).kings
unfolding frame_for turned_key
kings-part side white black n hw hb e =
    part n _ (chosen_digits (exchange_of w b) false x 0)
    (e ∙ framed true false side w b x 0 (flip-on white white hw) (flip-on white black hb) hx (omega arith))
    (chosen-lt (exchange_of w b) false x 0 hx (omega arith))
  where
    w : ℕ
    w = bit_xor white (flip_of white)

    b : ℕ
    b = bit_xor black (flip_of white)

    x : ℕ
    x = bit_xor 0 (flip_of white)

    hx : x < 64
    hx = flip-on white 0 (omega arith)

    part : (n k d : ℕ) → n ≡ k * 64 + d / 64 → d < 4096 → n / 64 ≡ k
    part n k d h l = omega arith

pub frame_is : (side white black flip e n : ℕ) → white < 64 → black < 64 → flip ≡ flip_of white
    → e ≡ exchange_of (bit_xor white flip) (bit_xor black flip)
    → (T (in_triangle (least_of false (turned_key white black 0 64) / 4096 % 4096 / 64))
    → n ≡ number_from true side (least_of false (turned_key white black 0 64)))
    → ◌≡◌ {A = Frame} (record { kings = n / 64; flip = flip; exchange = e }) (frame_for side white black)
frame_is side white black flip e n hw hb hf he hn =
    rw (
      kings-part side white black n hw hb (hn (lone-found 0 side white black 0 hw hb (omega arith) _ refl).0),
      he,
      hf,
    )
    (unfold frame_for in refl)

pub cond_yes : (x : Bool) (u v : ℕ) → x ≡ true → u ≡ cond x u v
cond_yes x u v e = sym (rw e)

pub cond_no : (x : Bool) (u v : ℕ) → x ≡ false → v ≡ cond x u v
cond_no x u v e = sym (rw e)

module _ (e : ℕ) (like : Bool) (x y : ℕ) where
  pub chosen_plain : (r : ℕ) → e ≡ 0 → r ≡ men_digits like x y → r ≡ chosen_digits e like x y
  unfolding chosen_digits
  chosen_plain r z h = h ∙ cond_yes (eqb e 0) _ _ (eq-eqb e 0 z)

  module _ (u v t : ℕ) (hu : u ≡ mapped exchange x) (hv : v ≡ mapped exchange y) (ht : t ≡ men_digits like u v)
      (n : e ≡ 0 → ⊥) where
    turned-is : t ≡ men_digits like (mapped exchange x) (mapped exchange y)
    turned-is = ht ∙ ap₂ (men_digits like) hu hv

    pub chosen-turned : e ≡ 1 → t ≡ chosen_digits e like x y
    unfolding chosen_digits
    chosen-turned z = turned-is ∙ cond_yes (eqb e 1) _ _ (eq-eqb e 1 z) ∙ cond_no (eqb e 0) _ _ (ne_eqb e 0 n)

    module _ (s : ℕ) (k : e ≡ 1 → ⊥) (hs : s ≡ men_digits like x y) where
      later : cond (ltb t s) t s ≡ chosen_digits e like x y
      unfolding chosen_digits
      later = ap₂ (λ (a d : ℕ). cond (ltb a d) a d) turned-is hs ∙ cond_no (eqb e 1) _ _ (ne_eqb e 1 k)
          ∙ cond_no (eqb e 0) _ _ (ne_eqb e 0 n)

      pub chosen_less : t < s → t ≡ chosen_digits e like x y
      chosen_less h = cond_yes (ltb t s) t s (lt-ltb t s h) ∙ later

      pub chosen_more : s ≤ t → s ≡ chosen_digits e like x y
      chosen_more h = cond_no (ltb t s) t s (le-ltb t s h) ∙ later

module _ (f : Frame) (single like : Bool) (first second men : ℕ) where
  pub number-single : single ≡ true → men ≡ chosen_digits f.exchange like (bit_xor first f.flip) 0
      → f.kings * 64 + men / 64 ≡ number_on f single like first second
  unfolding number_on
  number-single e h = ap (λ (d : ℕ). f.kings * 64 + d / 64) h ∙ cond_yes single _ _ e

  pub number-double : single ≡ false
      → men ≡ chosen_digits f.exchange like (bit_xor first f.flip) (bit_xor second f.flip)
      → f.kings * 4096 + men ≡ number_on f single like first second
  unfolding number_on
  number-double e h = ap (λ (d : ℕ). f.kings * 4096 + d) h ∙ cond_no single _ _ e

pub frame-side : (f : Frame) (s t white black : ℕ) → s ≡ t → f ≡ frame_for s white black → f ≡ frame_for t white black
frame-side f s t white black e h = h ∙ ap (λ (n : ℕ). frame_for n white black) e

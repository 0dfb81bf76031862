-- A man's squares by the frame of the kings, who stand still: where nothing is exchanged their numbers lie at equal steps.
use Rattle.std.specs.Prelude.{◌≡◌, refl, Bool, true, false, ◌&&◌, ◌||◌, not, ◌⊎◌, ℕ, ◌+◌, ◌-◌, ◌*◌, ◌/◌, ◌^◌, ◌<◌, ◌≤◌, T, leb, ltb, eqb}
use Rattle.std.proofs.Math.Path.{sym, ap, subst⁻¹}
use Rattle.std.proofs.Common.{subst, ◌∙◌, inl, inr, leb→le, le-leb, eqb-true}
use Rattle.std.proofs.Math.Bool.{cond}
use native.Mathlib.Omega.{arith}
use Rattle.std.specs.Int.Bits.{bit_xor}
use Rattle.std.proofs.lemmas.Bool.{lt-leb, eqb-false}
use Rattle.finite.specs.Truth.{decided, le-or-lt, true_of, false_of, true-not-false}
use Rattle.board.proofs.laws.ReachLaws.{reaches-squares}
use Rattle.rules.specs.Rules.{occupied, legal}
use Rattle.numbering.specs.Number.{number_of}
use Rattle.position.specs.declared.Men.{Men}
use Rattle.position.specs.declared.Place.{Place}
use Rattle.position.specs.Posed.{board_in}
use Rattle.position.specs.Spread.{Spread}
use Rattle.position.proofs.laws.PosedLaws.{complete-spread}
use Rattle.index.specs.Seats.{Seated, alike}
use Rattle.index.proofs.laws.CompleteLaws.{complete-seated}
use Rattle.index.specs.Least.{men_digits}
use Rattle.movegen.specs.Places.{square_after, place_after}
use Rattle.successors.specs.declared.Frame.{Frame}
use Rattle.successors.specs.Framing.{frame_for, chosen_digits, number_on}
use Rattle.successors.proofs.laws.FramingLaws.{number-framed, number-single, number-double, chosen_plain}
use Rattle.retracting.specs.Retracting.{GoesBack, LegalLeft, Missing, Seat, put_again, place_before}
use Rattle.retracting.proofs.laws.Back.{Free, king-stays, man-stays, man-goes}
use Rattle.retracting.proofs.laws.Sources.{free_of}
use Rattle.retracting.proofs.laws.Stepping.{leads_goes}
use Rattle.working_back.specs.declared.lines.Line.{Line}
use Rattle.working_back.specs.Lines.{base_of, scale_of, LinedBefore, LinedAfter}
use Rattle.working_back.specs.Spared.{Quietly}
use Rattle.working_back.proofs.laws.Spared.{whole}

plain-digits : (x y : ℕ) → x * 64 + y ≡ men_digits false x y
plain-digits x y = go (ltb y x)
  where
    go : (b : Bool) → x * 64 + y ≡ cond (b && false) (y * 64 + x) (x * 64 + y)
    go true = refl
    go false = refl

-- the number of a frame, where nothing is exchanged
module _ (f : Frame) (single like : Bool) (x y : ℕ) (e : f.exchange ≡ 0) (l : like ≡ false) where
  digits : (u v : ℕ) → u * 64 + v ≡ chosen_digits f.exchange like u v
  digits u v = chosen_plain f.exchange like u v (u * 64 + v) e (plain-digits u v ∙ ap (λ (b : Bool). men_digits b u v) (sym l))

  pub number-one : single ≡ true → f.kings * 64 + bit_xor x f.flip ≡ number_on f single like x y
  number-one s =
      ap (λ (d : ℕ). f.kings * 64 + d) (high (bit_xor x f.flip))
      ∙ number-single f single like x y (bit_xor x f.flip * 64 + 0) s (digits (bit_xor x f.flip) 0)
    where
      high : (u : ℕ) → u ≡ (u * 64 + 0) / 64
      high u = omega arith

  pub number-two : single ≡ false → f.kings * 4096 + (bit_xor x f.flip * 64 + bit_xor y f.flip) ≡ number_on f single like x y
  number-two s =
      number-double f single like x y (bit_xor x f.flip * 64 + bit_xor y f.flip) s
      (digits (bit_xor x f.flip) (bit_xor y f.flip))

-- what code asks: nothing is exchanged, and the men are not alike
pub unexchanged : (e : ℕ) (like : Bool) → (not (eqb e 0) || like) ≡ false → (e ≡ 0) × (like ≡ false)
unexchanged e like h = go (eqb e 0) refl like h
  where
    go : (b : Bool) → eqb e 0 ≡ b → (l : Bool) → (not b || l) ≡ false → (e ≡ 0) × (l ≡ false)
    go true z true h = absurd (subst T h tt)
    go true z false h = (eqb-true e 0 z, refl)
    go false z l h = absurd (subst⁻¹ T (sym h) tt)

-- the kings of q, and the men on these squares
pub record Beside (q p : Place) (x y : ℕ) : Type 0 where
  pub white : p.white ≡ q.white
  pub black : p.black ≡ q.black
  pub first : p.first ≡ x
  pub second : p.second ≡ y

-- a place with the kings of q, the man of q on `to` put on s
module _ (m : Men) (q : Place) (taken to s : ℕ) (g : LegalLeft m q taken) (on : to < 64) (p : Place) (seated : Seated m p)
    (as_first : to ≡ q.first → Beside q p s (cond (eqb taken 2) to q.second))
    (as-second : to ≡ q.second → Beside q p (cond (eqb taken 1) to q.first) s) where
  module _ (f : Frame) (hf : f ≡ frame_for p.side q.white q.black) (e : f.exchange ≡ 0) (n : alike m ≡ false) where
    of-place : (x y : ℕ) → Beside q p x y → number_on f (leb 4 m.second) (alike m) x y ≡ number_of (board_in m p)
    of-place x y b =
        ap (λ (g : Frame). number_on g (leb 4 m.second) (alike m) x y) hf
        ∙ same p.side q.white q.black x y p.white p.black p.first p.second (sym b.white) (sym b.black)
        (sym b.first) (sym b.second)
        ∙ number-framed m p seated
      where
        same : (z w b x y w' b' x' y' : ℕ) → w ≡ w' → b ≡ b' → x ≡ x' → y ≡ y'
            → number_on (frame_for z w b) (leb 4 m.second) (alike m) x y ≡ number_on (frame_for z w' b') (leb 4 m.second) (alike m) x' y'
        same z w b x y w' b' x' y' p q r s = rw (p, q, r, s)

    -- as code has them
    line-one : 4 ≤ m.second → (to ≡ q.first) ⊎ (to ≡ q.second) → (base : ℕ) → base ≡ f.kings * 64
        → base + bit_xor s f.flip * 1 ≡ number_of (board_in m p)
    line-one h (inl z) base b =
        one base (f.kings * 64) (bit_xor s f.flip) b
        ∙ number-one f (leb 4 m.second) (alike m) s (cond (eqb taken 2) to q.second) e n (le-leb 4 m.second h) ∙ of-place s (cond (eqb taken 2) to q.second) (as_first z)
      where
        one : (base k u : ℕ) → base ≡ k → base + u * 1 ≡ k + u
        one base k u b = omega arith
    line-one h (inr z) base b = absurd (none g.missing)
      where
        none : {i : ℕ} → Missing m q i → ⊥
        none (Missing.nobody a c) = let y : 64 ≤ q.second = leb→le 64 q.second (subst⁻¹ T (c ∙ le-leb 4 m.second h) tt) in omega (arith, y, z, on)
        none (Missing.first a c d) = omega (arith, h, d)
        none (Missing.second a c d) = omega (arith, h, d)

    line_first : m.second < 4 → q.first ≡ to → (base y : ℕ) → y ≡ cond (eqb taken 2) to q.second
        → base ≡ f.kings * 4096 + bit_xor y f.flip → base + bit_xor s f.flip * 64 ≡ number_of (board_in m p)
    line_first h z base y hy b =
        first base (f.kings * 4096) (bit_xor s f.flip) (bit_xor y f.flip) b
        ∙ number-two f (leb 4 m.second) (alike m) s y e n (lt-leb 4 m.second h)
        ∙ ap (number_on f (leb 4 m.second) (alike m) s) hy ∙ of-place s (cond (eqb taken 2) to q.second) (as_first (sym z))
      where
        first : (base k u v : ℕ) → base ≡ k + v → base + u * 64 ≡ k + (u * 64 + v)
        first base k u v b = omega arith

    line_second : m.second < 4 → (q.first ≡ to → ⊥) → (to ≡ q.first) ⊎ (to ≡ q.second) → (base x : ℕ)
        → x ≡ cond (eqb taken 1) to q.first → base ≡ f.kings * 4096 + bit_xor x f.flip * 64
        → base + bit_xor s f.flip * 1 ≡ number_of (board_in m p)
    line_second h z (inl w) base x hx b = absurd (z (sym w))
    line_second h z (inr w) base x hx b =
        second base (f.kings * 4096) (bit_xor x f.flip) (bit_xor s f.flip) b
        ∙ number-two f (leb 4 m.second) (alike m) x s e n (lt-leb 4 m.second h)
        ∙ ap (λ (y : ℕ). number_on f (leb 4 m.second) (alike m) y s) hx ∙ of-place (cond (eqb taken 1) to q.first) s (as-second w)
      where
        second : (base k u v : ℕ) → base ≡ k + u * 64 → base + v * 1 ≡ k + (u * 64 + v)
        second base k u v b = omega arith

    -- whichever man it is
    pub line_of : (to ≡ q.first) ⊎ (to ≡ q.second) → (base scale : ℕ) → base ≡ base_of m q taken to f → scale ≡ scale_of m q to
        → base + bit_xor s f.flip * scale ≡ number_of (board_in m p)
    line_of w base scale hb hs = go (le-or-lt 4 m.second)
      where
        at : (r : ℕ) → scale ≡ r → base + bit_xor s f.flip * r ≡ number_of (board_in m p) → base + bit_xor s f.flip * scale ≡ number_of (board_in m p)
        at r e z = ap (λ (c : ℕ). base + bit_xor s f.flip * c) e ∙ z

        two : m.second < 4 → T (eqb q.first to) ⊎ T (not (eqb q.first to)) → base + bit_xor s f.flip * scale ≡ number_of (board_in m p)
        two h (inl e) =
            let z = true_of e in
            let y = lt-leb 4 m.second h in
            at 64 (hs ∙ rw (y, z)) (line_first h (eqb-true q.first to z) base (cond (eqb taken 2) to q.second) refl (hb ∙ rw (y, z)))
        two h (inr e) =
            let z : eqb q.first to ≡ false = false_of e in
            let y = lt-leb 4 m.second h in
            at 1 (hs ∙ rw (y, z)) (line_second h (eqb-false q.first to z) w base (cond (eqb taken 1) to q.first) refl (hb ∙ rw (y, z)))

        go : (4 ≤ m.second) ⊎ (m.second < 4) → base + bit_xor s f.flip * scale ≡ number_of (board_in m p)
        go (inl h) = let y = le-leb 4 m.second h in at 1 (hs ∙ rw y) (line-one h w base (hb ∙ rw y))
        go (inr h) = two h (decided (eqb q.first to))

module _ (m : Men) (q : Place) (taken to s : ℕ) (g : LegalLeft m q taken) (v : GoesBack m q taken s to) where
  abbrev o : Place
  o = place_before q taken s to

  was : Free q s
  was = free_of m q s v.square v.free

  -- who is missing does not stand on the target
  missed : (i : ℕ) → Missing m q i → (to ≡ q.first → eqb i 1 ≡ false) × (to ≡ q.second → eqb i 2 ≡ false)
  missed i (Missing.nobody a b) = (λ e. refl, λ e. refl)
  missed i (Missing.first a b c) = (λ e. absurd (omega (arith, a, e, v.target)), λ e. refl)
  missed i (Missing.second a b c) = (λ e. refl, λ e. absurd (omega (arith, b, e, v.target)))

  -- before the move
  before-first : to ≡ q.first → Beside q o s (cond (eqb taken 2) to q.second)
  unfolding place_after put_again
  before-first z = record {
    white = king-stays to s q.white (λ y. g.white-first (y ∙ z));
    black = king-stays to s q.black (λ y. g.black-first (y ∙ z));
    first = ap (λ (b : Bool). cond b to (square_after to s q.first)) ((missed taken g.missing).0 z) ∙ man-goes to s q.first was.first (sym z);
    second = ap (cond (eqb taken 2) to) (man-stays to s q.second was.second (λ y. g.first-second (sym z ∙ sym y)));
  }

  before-second : to ≡ q.second → Beside q o (cond (eqb taken 1) to q.first) s
  unfolding place_after put_again
  before-second z = record {
    white = king-stays to s q.white (λ y. g.white-second (y ∙ z));
    black = king-stays to s q.black (λ y. g.black-second (y ∙ z));
    first = ap (cond (eqb taken 1) to) (man-stays to s q.first was.first (λ y. g.first-second (y ∙ z)));
    second = ap (λ (b : Bool). cond b to (square_after to s q.second)) ((missed taken g.missing).1 z) ∙ man-goes to s q.second was.second (sym z);
  }

  pub line_before : (f : Frame) → f ≡ frame_for (1 - q.side) q.white q.black → f.exchange ≡ 0 → alike m ≡ false
      → (to ≡ q.first) ⊎ (to ≡ q.second) → (base scale : ℕ) → base ≡ base_of m q taken to f → scale ≡ scale_of m q to
      → base + bit_xor s f.flip * scale ≡ number_of (board_in m o)
  unfolding place_after put_again
  line_before = line_of m q taken to s g v.target o (complete-seated m o v.complete) before-first before-second

  -- after another move
  module _ (legality : T (legal (board_in m o))) (kind t : ℕ) (seat : Seat m o kind o.side s) (w : Quietly m o kind s t) where
    free : Free o t
    free = free_of m o t (reaches-squares (occupied (board_in m o)) kind s t w.reached).1 w.free

    apart : Spread m o
    apart = complete-spread v.complete

    after_first : to ≡ q.first → Beside q (place_after o s t) t (cond (eqb taken 2) to q.second)
    unfolding place_after
    after_first z =
        let b = before-first z in
        record {
          white = king-stays s t o.white (λ y. apart.white-first (y ∙ sym b.first)) ∙ b.white;
          black = king-stays s t o.black (λ y. apart.black-first (y ∙ sym b.first)) ∙ b.black;
          first = man-goes s t o.first free.first b.first;
          second = man-stays s t o.second free.second (λ y. apart.first-second (b.first ∙ sym y)) ∙ b.second;
        }

    after-second : to ≡ q.second → Beside q (place_after o s t) (cond (eqb taken 1) to q.first) t
    unfolding place_after
    after-second z =
        let b = before-second z in
        record {
          white = king-stays s t o.white (λ y. apart.white-second (y ∙ sym b.second)) ∙ b.white;
          black = king-stays s t o.black (λ y. apart.black-second (y ∙ sym b.second)) ∙ b.black;
          first = man-stays s t o.first free.first (λ y. apart.first-second (y ∙ sym b.second)) ∙ b.first;
          second = man-goes s t o.second free.second b.second;
        }

    side-again : (place_after o s t).side ≡ q.side
    unfolding place_after put_again
    side-again = let h = g.side in omega arith

    pub line_after : (f : Frame) → f ≡ frame_for q.side q.white q.black → f.exchange ≡ 0 → alike m ≡ false
        → (to ≡ q.first) ⊎ (to ≡ q.second) → (base scale : ℕ) → base ≡ base_of m q taken to f → scale ≡ scale_of m q to
        → base + bit_xor t f.flip * scale ≡ number_of (board_in m (place_after o s t))
    line_after f hf =
        line_of m q taken to t g v.target (place_after o s t) (complete-seated m (place_after o s t) (whole m o kind s t v.complete legality seat w))
        after_first after-second f (hf ∙ ap (λ (z : ℕ). frame_for z q.white q.black) (sym side-again))

-- ---- as code has it

-- each number is made
pub none-lined : (m : Men) (q : Place) (taken to : ℕ) (line : Line) → line.plain ≡ false → line.base < 2 ^ 48
    → LinedBefore m q taken to line × LinedAfter m q taken to line
none-lined m q taken to line e h = (
  record { bounded = h; serves = λ s l t. absurd (true-not-false t e) },
  record { bounded = h; serves = λ kind s t l seat w r. absurd (true-not-false r e) },
)

pub plain-lined : (m : Men) (q : Place) (taken to : ℕ) → LegalLeft m q taken → (to ≡ q.first) ⊎ (to ≡ q.second) → (f : Frame)
    → f.exchange ≡ 0 → alike m ≡ false → (base scale : ℕ) → base ≡ base_of m q taken to f
    → base < 2 ^ 48 → scale ≡ scale_of m q to → (line : Line) → line ≡ record { plain = true; base = base; flip = f.flip; scale = scale }
    → (f ≡ frame_for (1 - q.side) q.white q.black → LinedBefore m q taken to line)
    × (f ≡ frame_for q.side q.white q.black → LinedAfter m q taken to line)
plain-lined m q taken to g w f e n base scale hb bound hs line z = (
  λ hf. subst⁻¹ (LinedBefore m q taken to) z (record {
    bounded = bound;
    serves = λ s v t. line_before m q taken to s g v f hf e n w base scale hb hs;
  }),
  λ hf. subst⁻¹ (LinedAfter m q taken to) z (record {
    bounded = bound;
    serves = λ kind s t l seat v r. line_after m q taken to s g (leads_goes m q taken s to g l) l.legality kind t seat v f hf e n w base scale hb hs;
  }),
)

-- The byte after a move that takes no man: of a man at equal steps from a base, of a king at the number.
use Rattle.std.specs.Prelude.{◌≡◌, refl, Bool, true, false, cond, not, ◌&&◌, ◌||◌, ◌⊎◌, List, ℕ, ◌+◌, ◌*◌, ◌-◌, ◌/◌, ◌≤◌, ◌<◌, T, leb, ltb, eqb, get_or}
use Rattle.std.proofs.Math.Path.{sym, ap, subst⁻¹}
use Rattle.std.proofs.Common.{ap₂, ◌∙◌, inl, inr, arith, leb→le, lt-ltb, le-leb, leb-false, eq-eqb, ne_eqb, eqb-true}
use Rattle.std.specs.Int.Bits.{bit_xor}
use Rattle.std.proofs.lemmas.Bool.{lt-leb}
use Rattle.finite.specs.Truth.{and_left, and_right, of-true, false_of, refuted}
use Rattle.rules.specs.Rules.{moved, can_move}
use Rattle.rules.proofs.laws.CanMove.{can-on}
use Rattle.numbering.specs.Number.{number_of}
use Rattle.position.specs.declared.Men.{Men}
use Rattle.position.specs.declared.Place.{Place}
use Rattle.position.specs.Posed.{board_in, Complete}
use Rattle.position.specs.Spread.{Spread}
use Rattle.position.proofs.laws.PosedLaws.{complete-spread}
use Rattle.index.specs.Seats.{Seated, alike}
use Rattle.index.specs.Least.{men_digits}
use Rattle.movegen.specs.Places.{square_after, place_after}
use Rattle.successors.specs.declared.Frame.{Frame}
use Rattle.successors.specs.Framing.{frame_for, chosen_digits, number_on}
use Rattle.successors.specs.Successors.{bytes_in, framed_after}
use Rattle.successors.specs.Quiet.{of_man, quiet_to, plain_for, base_for, scale_for, king_to}
use Rattle.successors.proofs.laws.PlaceLaws.{whole}
use Rattle.successors.proofs.laws.FramingLaws.{cond_yes, cond_no}
use Rattle.successors.proofs.laws.ByteLaws.{AllThere, all_there, own-seated, byte-own, byte-moved, byte-framed}

-- ---- tests

none : (a b : Bool) → (a || b) ≡ false → (a ≡ false) × (b ≡ false)
none true b e = absurd (refuted e tt)
none false b e = (refl, e)

plain-facts : (a b : Bool) → (a && not b) ≡ true → (a ≡ true) × (b ≡ false)
plain-facts true false e = (refl, refl)
plain-facts true true e = absurd (refuted (sym e) tt)
plain-facts false b e = absurd (refuted (sym e) tt)

other-one : (a b : Bool) → (a || b) ≡ true → b ≡ false → a ≡ true
other-one true b e h = refl
other-one false b e h = sym h ∙ e

other-two : (a b : Bool) → (a || b) ≡ true → a ≡ false → b ≡ true
other-two true b e h = absurd (refuted h tt)
other-two false b e h = e

-- the men's own squares
pub of-first : (q : Place) → of_man q q.first ≡ true
of-first q = rw (eq-eqb q.first q.first refl)

pub of-second : (q : Place) → of_man q q.second ≡ true
of-second q = rw (eq-eqb q.second q.second refl) (go (eqb q.first q.second))
  where
    go : (x : Bool) → (x || true) ≡ true
    go true = refl
    go false = refl

-- ---- the number, where nothing is exchanged

plain-digits : (like : Bool) (x y : ℕ) → like ≡ false → men_digits like x y ≡ x * 64 + y
plain-digits like x y e = rw e (go (ltb y x))
  where
    go : (b : Bool) → cond (b && false) (y * 64 + x) (x * 64 + y) ≡ x * 64 + y
    go true = refl
    go false = refl

module _ (f : Frame) (single like : Bool) (x y : ℕ) (e : f.exchange ≡ 0) (l : like ≡ false) where
  chosen : (u v : ℕ) → chosen_digits f.exchange like u v ≡ u * 64 + v
  unfolding chosen_digits
  chosen u v = rw e (plain-digits like u v l)

  high : (u : ℕ) → u * 1 ≡ (u * 64 + 0) / 64
  high u = omega arith

  number-one : single ≡ true → f.kings * 64 + bit_xor x f.flip * 1 ≡ number_on f single like x y
  unfolding number_on
  number-one s =
      ap (λ (d : ℕ). f.kings * 64 + d) (high (bit_xor x f.flip)
      ∙ ap (λ (d : ℕ). d / 64) (sym (chosen (bit_xor x f.flip) 0))) ∙ cond_yes single _ _ s

  number-two : single ≡ false
      → f.kings * 4096 + (bit_xor x f.flip * 64 + bit_xor y f.flip) ≡ number_on f single like x y
  unfolding number_on
  number-two s =
      ap (λ (d : ℕ). f.kings * 4096 + d) (sym (chosen (bit_xor x f.flip) (bit_xor y f.flip)))
      ∙ cond_no single _ _ s

-- ---- the squares of quiet moves

module _ (m : Men) (q : Place) (from t : ℕ) (quiet : T (quiet_to m q from t)) where
  c : T (can_move (board_in m q) from t)
  c = and_left (can_move (board_in m q) from t) (not (of_man q t)) quiet

  nobody : (eqb q.first t ≡ false) × (eqb q.second t ≡ false)
  nobody =
      none (eqb q.first t) (eqb q.second t)
      (false_of {b = of_man q t} (and_right (can_move (board_in m q) from t) (not (of_man q t)) quiet))

  first_off : eqb q.first t ≡ false
  first_off = nobody.0

  second-off : eqb q.second t ≡ false
  second-off = nobody.1

  goes : (s : ℕ) → eqb s t ≡ false → eqb s from ≡ true → t ≡ square_after from t s
  goes s h y = sym (rw (h, y))

  stays : (s : ℕ) → eqb s t ≡ false → eqb s from ≡ false → s ≡ square_after from t s
  stays s h y = sym (rw (h, y))

  -- ---- a king's

  king-place : of_man q from ≡ false → king_to q from t ≡ place_after q from t
  unfolding place_after
  king-place n =
      let d = none (eqb q.first from) (eqb q.second from) n in
      sym (rw (first_off, second-off, d.0, d.1))

  pub byte-king : Complete m q → (first second table : List ℕ) → of_man q from ≡ false → (next : Place) (r : ℕ)
      → next ≡ king_to q from t → (Seated m next → r ≡ get_or table (number_of (board_in m next)) 0)
      → r ≡ bytes_in m first second table (moved (board_in m q) from t)
  byte-king w first second table o next r z hr =
      let a : AllThere m next = subst⁻¹ (AllThere m) z (all_there m q w) in
      byte-moved m q w first second table from t r next c (z ∙ king-place o)
      (λ i. byte-own m next i first second table a _ r refl (hr (own-seated m next i a)))

  -- ---- a man's

  module _ (w : Complete m q) (first second table : List ℕ) (f : Frame)
      (hf : f ≡ frame_for (1 - q.side) q.white q.black) (p : plain_for m f ≡ true) (o : of_man q from ≡ true) where
    abbrev byte : ℕ
    byte = bytes_in m first second table (moved (board_in m q) from t)

    apart : Spread m q
    apart = complete-spread w

    mover : (q.first ≡ from) ⊎ (q.second ≡ from)
    mover = go (eqb q.first from) refl
      where
        go : (x : Bool) → eqb q.first from ≡ x → (q.first ≡ from) ⊎ (q.second ≡ from)
        go true e = inl (eqb-true q.first from e)
        go false e = inr (eqb-true q.second from (other-two (eqb q.first from) (eqb q.second from) o e))

    no-king : (eqb q.white from || eqb q.black from) ≡ false
    no-king = go mover
      where
        go : (q.first ≡ from) ⊎ (q.second ≡ from) → (eqb q.white from || eqb q.black from) ≡ false
        go (inl e) =
            rw (
              ne_eqb q.white from (λ z. apart.white-first (z ∙ sym e)),
              ne_eqb q.black from (λ z. apart.black-first (z ∙ sym e)),
            )
        go (inr e) =
            rw (
              ne_eqb q.white from (λ z. apart.white-second (z ∙ sym e)),
              ne_eqb q.black from (λ z. apart.black-second (z ∙ sym e)),
            )

    facts : (eqb f.exchange 0 ≡ true) × (alike m ≡ false)
    facts = plain-facts (eqb f.exchange 0) (alike m) p

    unexchanged : f.exchange ≡ 0
    unexchanged = eqb-true f.exchange 0 facts.0

    on : t < 64
    on = (can-on (board_in m q) from t c).1

    framed-one : (x y : ℕ) → x < 64 → 4 ≤ m.second → framed_after m q from x y ≡ true
    framed-one x y hx h = rw (no-king, lt-ltb x 64 hx, le-leb 4 m.second h)

    framed-two : (x y : ℕ) → x < 64 → y < 64 → m.second < 4 → framed_after m q from x y ≡ true
    framed-two x y hx hy h = rw (no-king, lt-ltb x 64 hx, lt-leb 4 m.second h, lt-ltb y 64 hy)

    single-first : 4 ≤ m.second → eqb q.first from ≡ true
    single-first h = other-one (eqb q.first from) (eqb q.second from) o
        (ne_eqb q.second from
        (λ z. let a = (whole m q w).alone h in let b = (can-on (board_in m q) from t c).0 in omega arith))

    byte_one : 4 ≤ m.second → get_or table (f.kings * 64 + bit_xor t f.flip * 1) 0 ≡ byte
    byte_one h =
        byte-framed m q w first second table from t t (square_after from t q.second) _ _ f c hf
        (goes q.first first_off (single-first h)) refl (framed-one t (square_after from t q.second) on h)
        (number-one f (leb 4 m.second) (alike m) t (square_after from t q.second) unexchanged facts.1
        (le-leb 4 m.second h)) refl

    there : m.second < 4 → q.second < 64
    there h = go (all_there m q w).1
      where
        go : (4 ≤ m.second) ⊎ (q.second < 64) → q.second < 64
        go (inl k) = absurd (omega arith)
        go (inr k) = k

    byte-of-first : m.second < 4 → eqb q.first from ≡ true
        → get_or table (f.kings * 4096 + bit_xor q.second f.flip + bit_xor t f.flip * 64) 0 ≡ byte
    byte-of-first h a =
        byte-framed m q w first second table from t t q.second _ _ f c hf
        (goes q.first first_off a) (stays q.second second-off
        (ne_eqb q.second from (λ z. apart.first-second (eqb-true q.first from a ∙ sym z))))
        (framed-two t q.second on (there h) h)
        (moved-base (f.kings * 4096) (bit_xor t f.flip) (bit_xor q.second f.flip)
        ∙ number-two f (leb 4 m.second) (alike m) t q.second unexchanged facts.1 (lt-leb 4 m.second h)) refl
      where
        moved-base : (k u v : ℕ) → k + v + u * 64 ≡ k + (u * 64 + v)
        moved-base k u v = omega arith

    byte-of-second : m.second < 4 → eqb q.first from ≡ false
        → get_or table (f.kings * 4096 + bit_xor q.first f.flip * 64 + bit_xor t f.flip * 1) 0 ≡ byte
    byte-of-second h a =
        byte-framed m q w first second table from t q.first t _ _ f c hf
        (stays q.first first_off a) (goes q.second second-off (other-two (eqb q.first from) (eqb q.second from) o a))
        (framed-two q.first t (whole m q w).first on h)
        (moved-base (f.kings * 4096) (bit_xor q.first f.flip) (bit_xor t f.flip)
        ∙ number-two f (leb 4 m.second) (alike m) q.first t unexchanged facts.1 (lt-leb 4 m.second h)) refl
      where
        moved-base : (k u v : ℕ) → k + u * 64 + v * 1 ≡ k + (u * 64 + v)
        moved-base k u v = omega arith

    -- whichever man it is
    pub byte-plain : (base scale : ℕ) → base ≡ base_for m q f from → scale ≡ scale_for m q from
        → get_or table (base + bit_xor t f.flip * scale) 0 ≡ byte
    byte-plain base scale hb hs =
        ap₂ (λ (b s : ℕ). get_or table (b + bit_xor t f.flip * s) 0) hb hs
        ∙ go (leb 4 m.second) refl (eqb q.first from) refl
      where
        go : (x : Bool) → leb 4 m.second ≡ x → (y : Bool) → eqb q.first from ≡ y
            → get_or table (cond x (f.kings * 64) (cond y (f.kings * 4096 + bit_xor q.second f.flip)
            (f.kings * 4096 + bit_xor q.first f.flip * 64)) + bit_xor t f.flip * cond x 1 (cond y 64 1)) 0 ≡ byte
        go true e y d = byte_one (leb→le 4 m.second (of-true e))
        go false e true d = byte-of-first (leb-false 4 m.second e) d
        go false e false d = byte-of-second (leb-false 4 m.second e) d

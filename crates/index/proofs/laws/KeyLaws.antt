-- The reversals of a key, all squares at once.
use Rattle.std.specs.Prelude.{◌≡◌, refl, Bool, true, false, cond, ℕ, ◌+◌, ◌*◌, ◌/◌, ◌%◌, ◌<◌, T, eqb}
use Rattle.std.proofs.Math.Path.{sym, ap, ap₂, subst⁻¹}
use Rattle.std.proofs.Common.{◌∙◌, arith, eqb→eq, leb-false}
use Rattle.std.specs.Int.Bits.{bit_xor}
use Rattle.std.proofs.lemmas.Nat.{xor_block}
use Rattle.finite.specs.Below.{all_below, below}
use Rattle.numbering.specs.Kings.{in_triangle}
use Rattle.numbering.specs.Number.{number_of}
use Rattle.position.specs.declared.Men.{Men}
use Rattle.position.specs.declared.Place.{Place}
use Rattle.position.specs.Posed.{board_in}
use Rattle.index.specs.Least.{flip_of, packed, turned_key, least_of, KeyFor}
use Rattle.index.specs.Seats.{Seated, alike, alone, key_at, least_at, number_from}
use Rattle.index.proofs.laws.CornerLaws.{number-found}

-- ---- the bits turned over, by two bits of the white king's square

bits-right : ℕ → Bool
bits-right w = eqb (w / 4 % 2 * 7 + w / 32 % 2 * 56) (flip_of w)

all-bits : T (all_below bits-right 64)
unfolding all_below bits-right flip_of
all-bits = tt

pub flip-bits : (w : ℕ) → w < 64 → w / 4 % 2 * 7 + w / 32 % 2 * 56 ≡ flip_of w
unfolding bits-right
flip-bits w h = eqb→eq (w / 4 % 2 * 7 + w / 32 % 2 * 56) (flip_of w) (below bits-right 64 all-bits w h)

-- ---- one exclusive or for all squares

xor-packed : (w b x y f g h i : ℕ) → b < 64 → x < 64 → y < 64 → g < 64 → h < 64 → i < 64
    → bit_xor (packed w b x y) (packed f g h i) ≡ packed (bit_xor w f) (bit_xor b g) (bit_xor x h) (bit_xor y i)
unfolding packed
xor-packed w b x y f g h i hb hx hy hg hh hi =
    xor_block 6 ((w * 64 + b) * 64 + x) ((f * 64 + g) * 64 + h) y i hy hi
    ∙ ap (λ (n : ℕ). n * 64 + bit_xor y i)
    (xor_block 6 (w * 64 + b) (f * 64 + g) x h hx hh
    ∙ ap (λ (n : ℕ). n * 64 + bit_xor x h) (xor_block 6 w f b g hb hg))

three-times : (f : ℕ) → f * 266304 ≡ packed f f f 0
unfolding packed
three-times f = omega arith

four-times : (f : ℕ) → f * 266305 ≡ packed f f f f
unfolding packed
four-times f = omega arith

white-of : (w b x y : ℕ) → b < 64 → x < 64 → y < 64 → packed w b x y / 262144 ≡ w
unfolding packed
white-of w b x y hb hx hy = omega arith

module _ (single : Bool) (k w b x y flip : ℕ) (s : KeyFor single k w b x y) (ok : flip < 64) where
  second_lt : single ≡ false → y < 64
  second_lt e = leb-false 64 y (sym s.alone ∙ e)

  white-in : k / 262144 ≡ w
  white-in = ap (λ (n : ℕ). n / 262144) s.key ∙ go single refl
    where
      go : (e : Bool) → single ≡ e → packed w b x (cond e 0 y) / 262144 ≡ w
      go true e = white-of w b x 0 s.black s.first (omega arith)
      go false e = white-of w b x y s.black s.first (second_lt e)

  module _ (found : k / 262144 < 64 → flip ≡ flip_of (k / 262144)) where
    f : flip ≡ flip_of w
    f = found (subst⁻¹ (λ (n : ℕ). n < 64) white-in s.white) ∙ ap flip_of white-in

    pub turned-three : single ≡ true → bit_xor k (flip * 266304) ≡ turned_key w b x y
    unfolding turned_key
    turned-three e =
        ap₂ bit_xor (s.key ∙ ap (λ (c : Bool). packed w b x (cond c 0 y)) e) (three-times flip)
        ∙ xor-packed w b x 0 flip flip flip 0 s.black s.first (omega arith) ok ok (omega arith)
        ∙ sym (rw (sym s.alone ∙ e, ← f))

    pub turned-four : single ≡ false → bit_xor k (flip * 266305) ≡ turned_key w b x y
    unfolding turned_key
    turned-four e =
        ap₂ bit_xor (s.key ∙ ap (λ (c : Bool). packed w b x (cond c 0 y)) e) (four-times flip)
        ∙ xor-packed w b x y flip flip flip flip s.black s.first (second_lt e) ok ok ok
        ∙ sym (rw (sym s.alone ∙ e, ← f))

-- ---- the key of a place

pub key-of-place : (m : Men) (q : Place) → Seated m q → (k : ℕ) → k ≡ key_at q
    → KeyFor (alone q) k q.white q.black q.first q.second
unfolding key_at
key-of-place m q s k e =
    record { white = s.white; black = s.black; first = s.first; alone = refl; key = e }

-- and the number, as code finds it
pub number-by-key : (m : Men) (q : Place) → Seated m q → (single like : Bool) (side k r : ℕ) → single ≡ alone q
    → like ≡ alike m → side ≡ q.side → k ≡ key_at q
    → ((w b x y : ℕ) → KeyFor single k w b x y → T (in_triangle (least_of like (turned_key w b x y) / 4096 % 4096 / 64))
    → r ≡ number_from single side (least_of like (turned_key w b x y)))
    → r ≡ number_of (board_in m q)
unfolding least_at
number-by-key m q s single like side k r hs hl hd hk f =
    let n = number-found m q s _ (ap (λ (z : Bool). least_of z (turned_key q.white q.black q.first q.second)) hl) in
    f q.white q.black q.first q.second
    (subst⁻¹ (λ (z : Bool). KeyFor z k q.white q.black q.first q.second) hs (key-of-place m q s k hk)) n.0
    ∙ ap₂ (λ (z : Bool) (d : ℕ). number_from z d (least_of like (turned_key q.white q.black q.first q.second))) hs hd
    ∙ n.1

-- The laws of digits to base 4: some below others, and the counts of set bits that tell how many of each there are.
use Rattle.std.specs.Prelude.{◌≡◌, refl, Bool, ◌&&◌, ℕ, zero, suc, ◌+◌, ◌*◌, ◌/◌, ◌%◌, ◌^◌, ◌<◌, T, eqb}
use Rattle.std.proofs.Common.{sym, ap, ap₂, ◌∙◌, zero-add, suc-add, add_assoc, one-mul, mul_comm, mul_assoc, pow-suc, arith, eqb→eq}
use Rattle.std.specs.Int.Bits.{bit_and, and_zero_r, and_zero_l, and_block, and_lt}
use Rattle.std.specs.Int.Count.{ones, ones_in}
use Rattle.std.proofs.lemmas.Nat.{ones_cat}
use Rattle.finite.specs.Truth.{and_left, and_right}
use Rattle.finite.specs.Below.{all_below, below}
use Rattle.board.specs.Sets.{digit}
use Rattle.pocket.specs.Digits.{digits, low_bits}

-- ---- digits below others

lower : (a x : ℕ) → (a + 4 * x) % 4 ≡ a % 4
lower a x = omega arith

upper : (a x : ℕ) → (a + 4 * x) / 4 ≡ a / 4 + x
upper a x = omega arith

four-times : (m b : ℕ) → 4 ^ suc m * b ≡ 4 * (4 ^ m * b)
four-times m b = rw (pow-suc 4 m, mul_comm (4 ^ m) 4) (mul_assoc 4 (4 ^ m) b)

pub digits-cat : (v m n a b : ℕ) → a < 4 ^ m → digits v (m + n) (a + 4 ^ m * b) ≡ digits v m a + digits v n b
unfolding digits
digits-cat v zero n a b h =
    let z : a ≡ 0 = omega arith in rw (z, zero-add n, one-mul b, zero-add b) (sym (zero-add (digits v n b)))
digits-cat v (suc m) n a b h =
    let x = 4 ^ m * b in
    rw (suc-add m n, four-times m b, lower a x, upper a x)
    (ap (λ (t : ℕ). digit (eqb (a % 4) v) + t) (digits-cat v m n (a / 4) b (omega (arith, pow-suc 4 m)))
    ∙ sym (add_assoc (digit (eqb (a % 4) v)) (digits v m (a / 4)) (digits v n b)))

-- ---- set bits

ones-zero : ones 0 ≡ 0
unfolding ones ones_in
ones-zero = refl

-- a digit's low bit, its high bit, which is the low one of what is shifted by one, and both; over the eight values of a digit and the bit above it
bits-right : ℕ → Bool
bits-right e =
    let d = e % 4 in
    let h = e / 2 % 4 in
    eqb (ones (bit_and d 1)) (digit (eqb d 1) + digit (eqb d 3))
    && (eqb (ones (bit_and h 1)) (digit (eqb d 2) + digit (eqb d 3))
    && eqb (ones (bit_and (bit_and d 1) (bit_and h 1))) (digit (eqb d 3)))

all_right : T (all_below bits-right 8)
unfolding all_below bits-right ones ones_in
all_right = tt

abbrev Bits : ℕ → ℕ → Type 0
Bits d h = (ones (bit_and d 1) ≡ digit (eqb d 1) + digit (eqb d 3))
    × (ones (bit_and h 1) ≡ digit (eqb d 2) + digit (eqb d 3))
    × (ones (bit_and (bit_and d 1) (bit_and h 1)) ≡ digit (eqb d 3))

bits_of : (e : ℕ) → T (bits-right e) → Bits (e % 4) (e / 2 % 4)
unfolding bits-right
bits_of e t =
    let d = e % 4 in
    let h = e / 2 % 4 in
    let p = eqb (ones (bit_and d 1)) (digit (eqb d 1) + digit (eqb d 3)) in
    let q = eqb (ones (bit_and h 1)) (digit (eqb d 2) + digit (eqb d 3)) in
    let r = eqb (ones (bit_and (bit_and d 1) (bit_and h 1))) (digit (eqb d 3)) in
    let s = and_right p (q && r) t in
    (eqb→eq _ _ (and_left p (q && r) t), eqb→eq _ _ (and_left q r s), eqb→eq _ _ (and_right q r s))

module _ (w : ℕ) where
  same-digit : w % 8 % 4 ≡ w % 4
  same-digit = omega arith

  same-high : w % 8 / 2 % 4 ≡ w / 2 % 4
  same-high = omega arith

  digit-bits : Bits (w % 4) (w / 2 % 4)
  digit-bits = rw (← same-digit, ← same-high) (bits_of (w % 8) (below bits-right 8 all_right (w % 8) (omega arith)))

  split : w ≡ w / 4 * 4 + w % 4
  split = omega arith

  split-half : w / 2 ≡ w / 4 / 2 * 4 + w / 2 % 4
  split-half = omega arith

-- the low bits of all digits, cut out digit by digit
module _ (n : ℕ) where
  cut : (a b : ℕ) → b < 4 → bit_and (a * 4 + b) (low_bits (suc n)) ≡ bit_and a (low_bits n) * 4 + bit_and b 1
  unfolding low_bits
  cut a b h = and_block 2 a (low_bits n) b 1 h (omega arith)

  low_step : (w : ℕ) → bit_and w (low_bits (suc n)) ≡ bit_and (w / 4) (low_bits n) * 4 + bit_and (w % 4) 1
  low_step w = ap (λ (x : ℕ). bit_and x (low_bits (suc n))) (split w) ∙ cut (w / 4) (w % 4) (omega arith)

  high-step : (w : ℕ) → bit_and (w / 2) (low_bits (suc n)) ≡ bit_and (w / 4 / 2) (low_bits n) * 4 + bit_and (w / 2 % 4) 1
  high-step w = ap (λ (x : ℕ). bit_and x (low_bits (suc n))) (split-half w) ∙ cut (w / 4 / 2) (w / 2 % 4) (omega arith)

cut_small : (b : ℕ) → b < 4 → bit_and b 1 < 4
cut_small b h = and_lt 2 b 1 h (omega arith)

cut-none : (w : ℕ) → bit_and w (low_bits 0) ≡ 0
unfolding low_bits
cut-none w = and_zero_r w

joined-two : (a b p r x z : ℕ) → a ≡ p + r → b ≡ x + z → a + b ≡ (x + p) + (z + r)
joined-two a b p r x z e f = omega arith

joined-one : (a b p x : ℕ) → a ≡ p → b ≡ x → a + b ≡ x + p
joined-one a b p x e f = omega arith

-- The set low bits are the digits 1 and 3 ..
pub ones_low : (n w : ℕ) → ones (bit_and w (low_bits n)) ≡ digits 1 n w + digits 3 n w
unfolding digits
ones_low zero w = ap ones (cut-none w) ∙ ones-zero
ones_low (suc n) w =
    ap ones (low_step n w)
    ∙ ones_cat 2 (bit_and (w / 4) (low_bits n)) (bit_and (w % 4) 1) (cut_small (w % 4) (omega arith))
    ∙ joined-two _ _ _ _ _ _ (ones_low n (w / 4)) (digit-bits w).0

-- .. the set high bits the digits 2 and 3 ..
pub ones-high : (n w : ℕ) → ones (bit_and (w / 2) (low_bits n)) ≡ digits 2 n w + digits 3 n w
unfolding digits
ones-high zero w = ap ones (cut-none (w / 2)) ∙ ones-zero
ones-high (suc n) w =
    ap ones (high-step n w)
    ∙ ones_cat 2 (bit_and (w / 4 / 2) (low_bits n)) (bit_and (w / 2 % 4) 1) (cut_small (w / 2 % 4) (omega arith))
    ∙ joined-two _ _ _ _ _ _ (ones-high n (w / 4)) (digit-bits w).1

-- .. and both bits the digits 3.
pub ones-both : (n w : ℕ) → ones (bit_and (bit_and w (low_bits n)) (bit_and (w / 2) (low_bits n))) ≡ digits 3 n w
unfolding digits
ones-both zero w =
    ap₂ (λ (x y : ℕ). ones (bit_and x y)) (cut-none w) (cut-none (w / 2)) ∙ ap ones (and_zero_l 0) ∙ ones-zero
ones-both (suc n) w =
    let a = bit_and (w / 4) (low_bits n) in
    let b = bit_and (w / 4 / 2) (low_bits n) in
    let c = bit_and (w % 4) 1 in
    let d = bit_and (w / 2 % 4) 1 in
    let s = cut_small (w % 4) (omega arith) in
    let t = cut_small (w / 2 % 4) (omega arith) in
    ap₂ (λ (x y : ℕ). ones (bit_and x y)) (low_step n w) (high-step n w)
    ∙ ap ones (and_block 2 a b c d s t)
    ∙ ones_cat 2 (bit_and a b) (bit_and c d) (and_lt 2 c d s t)
    ∙ joined-one _ _ _ _ (ones-both n (w / 4)) (digit-bits w).2

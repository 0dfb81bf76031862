-- The rows give the pair of any two squares: one computed test over all of them, against the list of 640 entries.
use Rattle.std.specs.Prelude.{◌≡◌, refl, Bool, ℕ, zero, suc, ◌+◌, ◌*◌, ◌/◌, ◌%◌, ◌^◌, ◌<◌, ◌≤◌, T, eqb}
use Rattle.std.proofs.Math.Path.{sym, ap, ap₂}
use Rattle.std.proofs.Common.{◌∙◌, ⊎_elim, one-mul, pow-suc, mod-eq_of_lt, arith, eqb→eq, pow_pos, eq-eqb, ne_eqb}
use Rattle.std.proofs.Math.Nat.{zero-div, mod-le}
use Rattle.std.proofs.Math.Pow.{pow-lt}
use Rattle.std.specs.Int.Count.{ones, ones_in, ones_step}
use Rattle.std.proofs.lemmas.Nat.{ones-le}
use Rattle.finite.specs.Truth.{le-or-lt}
use Rattle.finite.specs.Below.{all_below, below}
use Rattle.board.specs.SetLaws.{bit}
use Rattle.numbering.specs.Kings.{pair_of}
use Rattle.pairs.specs.Tables.{slot_of, pairs, pair_in}
use Rattle.pairs.proofs.laws.TableLaws.{slot-past, slot-above, in-outside, in-off, lent-pair}
use Rattle.pairs.specs.Rows.{partners_of, first_of, pair_by_row}

-- ---- set bits, as antt computes them

ones-zero : ones 0 ≡ 0
unfolding ones ones_in
ones-zero = refl

ones-in : (k n : ℕ) → n < 2 ^ k → ones n ≡ ones_in k n
unfolding ones_in
ones-in zero n h = let z : n ≡ 0 = omega arith in rw z ones-zero
ones-in (suc k) n h = ones_step n ∙ ap (λ (m : ℕ). n % 2 + m) (ones-in k (n / 2) (omega (arith, pow-suc 2 k)))

part-fits : (row m : ℕ) → row < 18446744073709551616 → row % m < 18446744073709551616
part-fits row m h = omega (arith, mod-le row m)

pub part-ones : (row m : ℕ) → row < 18446744073709551616 → ones (row % m) ≤ 64
part-ones row m h = ones-le 64 (row % m) (part-fits row m h)

-- the bit of a square on the board
bit-power : (black : ℕ) → black < 64 → bit black ≡ 2 ^ black
bit-power black h = rw (one-mul (2 ^ black)) (mod-eq_of_lt (pow-lt h))

pub bit-some : (black : ℕ) → black < 64 → 0 < bit black
bit-some black h = rw (bit-power black h) (pow_pos black)

-- ---- the test

right : ℕ → Bool
right k = eqb (pair_by_row (k / 64) (k % 64)) (pair_in pairs (k / 64) (k % 64))

-- the white squares a1 to d4
all_right : T (all_below right 1792)
unfolding all_below right pair_by_row partners_of first_of ones_in pair_in pairs slot_of
all_right = tt

near : (white black : ℕ) → white < 28 → black < 64 → pair_by_row white black ≡ pair_in pairs white black
unfolding right
near white black h k =
    let n : ℕ = white * 64 + black in
    let q : n / 64 ≡ white = omega arith in
    let r : n % 64 ≡ black = omega arith in
    let t = rw (q, r) at (below right 1792 all_right n (omega arith)) in
    eqb→eq (pair_by_row white black) (pair_in pairs white black) t

-- further squares are outside the triangle
slot-far : (white : ℕ) → 28 ≤ white → 10 ≤ slot_of white
slot-far white h =
    ⊎_elim (λ l. let e = slot-above white l (omega arith) in omega arith)
    (λ l. let e = slot-past white l in omega arith)
    (le-or-lt (white % 8) 3)

row-far : (white : ℕ) → 28 ≤ white → partners_of white ≡ 0
unfolding partners_of
row-far white h =
    simp (
      ne_eqb white 0 (λ e. omega arith),
      ne_eqb white 1 (λ e. omega arith),
      ne_eqb white 2 (λ e. omega arith),
      ne_eqb white 3 (λ e. omega arith),
      ne_eqb white 9 (λ e. omega arith),
      ne_eqb white 10 (λ e. omega arith),
      ne_eqb white 11 (λ e. omega arith),
      ne_eqb white 18 (λ e. omega arith),
      ne_eqb white 19 (λ e. omega arith),
      ne_eqb white 27 (λ e. omega arith),
    )

zero_bit : (d : ℕ) → 0 / d % 2 ≡ 0
zero_bit d = rw (zero-div d)

far : (white black : ℕ) → 28 ≤ white → pair_by_row white black ≡ pair_in pairs white black
unfolding pair_by_row
far white black h = rw (row-far white h, zero_bit (2 ^ black)) (in-outside pairs white black (slot-far white h))

-- The rows give the pair of any two squares.
pub rows-pair : (white black : ℕ) → black < 64 → pair_by_row white black ≡ pair_of white black
rows-pair white black k =
    ⊎_elim (λ h. far white black h) (λ h. near white black h k) (le-or-lt 28 white)
    ∙ lent-pair pairs white black refl

-- ---- as the code finds it

module _ (white black : ℕ) where
  pub no-square : 64 ≤ black → 65535 ≡ pair_of white black
  no-square h =
      ⊎_elim (λ l. in-outside pairs white black l) (λ l. in-off pairs white black l h) (le-or-lt 10 (slot_of white))
      ∙ lent-pair pairs white black refl

  module _ (row : ℕ) (e : row ≡ partners_of white) (k : black < 64) where
    pub no-bit : row / 2 ^ black % 2 ≡ 0 → 65535 ≡ pair_of white black
    unfolding pair_by_row
    no-bit z = sym (rw (eq-eqb (partners_of white / 2 ^ black % 2) 0 (rw (← e) z))) ∙ rows-pair white black k

    pub bit-pair : (first : ℕ) → row < 18446744073709551616 → first ≡ first_of white → (row / 2 ^ black % 2 ≡ 0 → ⊥)
        → first + ones (row % bit black) ≡ pair_of white black
    unfolding pair_by_row
    bit-pair first h f z =
        let b : pair_by_row white black ≡ first_of white + ones_in 64 (partners_of white % 2 ^ black) =
        rw (ne_eqb (partners_of white / 2 ^ black % 2) 0 (rw (← e) z)) in
        ap (λ (m : ℕ). first + ones (row % m)) (bit-power black k)
        ∙ ap (λ (m : ℕ). first + m) (ones-in 64 (row % 2 ^ black) (part-fits row (2 ^ black) h))
        ∙ ap₂ (λ (x y : ℕ). x + ones_in 64 (y % 2 ^ black)) f e
        ∙ sym b
        ∙ rows-pair white black k

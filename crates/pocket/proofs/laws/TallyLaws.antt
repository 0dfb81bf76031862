-- The four tallies add up, and the loop over the words counts them.
use Rattle.std.specs.Prelude.{◌≡◌, List, eqb, length, Err, Ok}
use Rattle.std.proofs.Math.Path.{refl, sym, subst}
use Rattle.std.proofs.Common.{ap, ◌∙◌, add-one, eq-eqb, ne_eqb}
use Prim.Native.Nat.{ℕ, zero, suc, ◌+◌, ◌-◌, ◌*◌, ◌/◌, ◌≤◌, ◌<◌}
use native.Mathlib.Omega.{arith}
use Rattle.std.specs.Int.Bits.{bit_and}
use Rattle.std.specs.Int.Count.{ones}
use Rattle.finite.specs.Ranked.{rank}
use Rattle.board.specs.Sets.{digit}
use Rattle.endings.specs.Ending.{table_size}
use Rattle.pocket.specs.Pocket.{pocket_size, entry_at}
use Rattle.pocket.specs.Digits.{digits, low_bits}
use Rattle.pocket.specs.Tally.{holds, count_of, tally_of, Part}
use Rattle.pocket.proofs.laws.DigitLaws.{ones_low, ones-high, ones-both}
use Rattle.pocket.proofs.laws.WordLaws.{rank_step, entry-below}

-- ---- the four counts add up

one-of-four : (e : ℕ) → e < 4 → digit (eqb e 0) + digit (eqb e 1) + digit (eqb e 2) + digit (eqb e 3) ≡ 1
one-of-four zero h = refl
one-of-four (suc zero) h = refl
one-of-four (suc (suc zero)) h = refl
one-of-four (suc (suc (suc zero))) h = refl
one-of-four (suc (suc (suc (suc e)))) h = absurd (omega arith)

module _ (pocket : List ℕ) where
  next : (v m : ℕ) → rank (holds pocket v) (suc m) ≡ rank (holds pocket v) m + digit (holds pocket v m)
  next v m = rank_step (holds pocket v) m (suc m) (sym (add-one m))

  pub four-counts : (m : ℕ)
      → rank (holds pocket 0) m + rank (holds pocket 1) m + rank (holds pocket 2) m + rank (holds pocket 3) m ≡ m
  unfolding rank
  four-counts zero = refl
  four-counts (suc m) =
      more _ _ _ _ _ _ _ _ _ _ _ _ m (next 0 m) (next 1 m) (next 2 m) (next 3 m) (four-counts m)
      (one-of-four (entry_at pocket m) (entry-below pocket m))
    where
      more : (a b c d w x y z p q r s m : ℕ) → p ≡ a + w → q ≡ b + x → r ≡ c + y → s ≡ d + z → a + b + c + d ≡ m
          → w + x + y + z ≡ 1 → p + q + r + s ≡ suc m
      more a b c d w x y z p q r s m k l n o e f = omega arith

  -- "together they make 59,136"
  pub tallies-whole : count_of pocket 0 + count_of pocket 1 + count_of pocket 2 + count_of pocket 3 ≡ table_size
  unfolding count_of
  tallies-whole = four-counts table_size

-- ---- the loop over the words

-- below byte i there are so many low bits, high bits, and entries with both
pub record Sums (pocket : List ℕ) (i low high both : ℕ) : Type 0 where
  pub inside : i ≤ pocket_size
  pub lows : low ≡ rank (holds pocket 1) (4 * i) + rank (holds pocket 3) (4 * i)
  pub highs : high ≡ rank (holds pocket 2) (4 * i) + rank (holds pocket 3) (4 * i)
  pub pairs : both ≡ rank (holds pocket 3) (4 * i)

all-low : low_bits 32 ≡ 6148914691236517205
unfolding low_bits
all-low = refl

module _ (pocket : List ℕ) where
  pub sums_none : Sums pocket 0 0 0 0
  unfolding rank
  sums_none = record { inside = omega arith; lows = refl; highs = refl; pairs = refl }

  module _ (i low high both : ℕ) (s : Sums pocket i low high both) where
    -- the counts of bits, with the constant that the code has
    module _ (w : ℕ) where
      low-bits : ones (bit_and w 6148914691236517205) ≡ digits 1 32 w + digits 3 32 w
      low-bits = ap (λ (m : ℕ). ones (bit_and w m)) (sym all-low) ∙ ones_low 32 w

      high_bits : ones (bit_and (w / 2) 6148914691236517205) ≡ digits 2 32 w + digits 3 32 w
      high_bits = ap (λ (m : ℕ). ones (bit_and (w / 2) m)) (sym all-low) ∙ ones-high 32 w

      both_bits : ones (bit_and (bit_and w 6148914691236517205) (bit_and (w / 2) 6148914691236517205)) ≡ digits 3 32 w
      both_bits = ap (λ (m : ℕ). ones (bit_and (bit_and w m) (bit_and (w / 2) m))) (sym all-low) ∙ ones-both 32 w

      pub sums-more : (j : ℕ) → j ≡ i + 8 → j ≤ pocket_size → Part pocket i 8 w
          → Sums pocket j (low + ones (bit_and w 6148914691236517205))
          (high + ones (bit_and (w / 2) 6148914691236517205))
          (both + ones (bit_and (bit_and w 6148914691236517205) (bit_and (w / 2) 6148914691236517205)))
      sums-more j e h x =
          record {
            inside = h;
            lows = omega (arith, s.lows, low-bits, more 1, more 3);
            highs = omega (arith, s.highs, high_bits, more 2, more 3);
            pairs = omega (arith, s.pairs, both_bits, more 3);
          }
        where
          more : (v : ℕ) → rank (holds pocket v) (4 * j) ≡ rank (holds pocket v) (4 * i) + digits v 32 w
          more v = ap (λ (n : ℕ). rank (holds pocket v) (4 * n)) e ∙ x.entries v

    pub sums-room : (low ≤ 59136) × (high ≤ 59136) × (both ≤ 59136)
    sums-room = let z = four-counts pocket (4 * i) in
        (omega (arith, s.lows, s.inside), omega (arith, s.highs, s.inside), omega (arith, s.pairs, s.inside))

    -- the differences taken at the end
    pub sums-order : (both ≤ low) × (both ≤ high) × (low + high ≤ 59136 + both)
    sums-order = let z = four-counts pocket (4 * i) in (
      omega (arith, s.lows, s.pairs),
      omega (arith, s.highs, s.pairs),
      omega (arith, s.lows, s.highs, s.pairs, s.inside),
    )

    pub tallied : pocket_size ≤ i → length pocket ≡ pocket_size
        → Ok
        (record { none = 59136 + both - low - high; draws = low - both; wins = high - both; losses = both })
        ≡ tally_of pocket
    unfolding tally_of count_of
    tallied h l =
        let whole : 4 * i ≡ table_size = omega (arith, s.inside) in
        let z = subst
        (λ (m : ℕ). (low ≡ rank (holds pocket 1) m + rank (holds pocket 3) m)
        × (high ≡ rank (holds pocket 2) m + rank (holds pocket 3) m) × (both ≡ rank (holds pocket 3) m)) whole
        (s.lows, s.highs, s.pairs) in
        let f = four-counts pocket table_size in
        let e₀ : 59136 + both - low - high ≡ rank (holds pocket 0) table_size = omega (arith, z.0, z.1, z.2, f) in
        let e₁ : low - both ≡ rank (holds pocket 1) table_size = omega (arith, z.0, z.2) in
        let e₂ : high - both ≡ rank (holds pocket 2) table_size = omega (arith, z.1, z.2) in
        let e₃ : both ≡ rank (holds pocket 3) table_size = z.2 in
        sym (rw (eq-eqb (length pocket) pocket_size l, ← e₀, ← e₁, ← e₂, ← e₃))

  pub tally-length : (length pocket ≡ pocket_size → ⊥) → Err 7 ≡ tally_of pocket
  unfolding tally_of
  tally-length h = sym (rw (ne_eqb (length pocket) pocket_size h))

-- The laws by which a word is counted: a byte's four entries are its digits to base 4, and a word's are those of its bytes.
use Rattle.std.specs.Prelude.{◌≡◌, refl, Bool, true, false, cond, List, [], ◌∷◌, ℕ, suc, ◌+◌, ◌*◌, ◌/◌, ◌%◌, ◌^◌, ◌≤◌, ◌<◌, eqb}
use Rattle.std.specs.Int.{w64, from_le_bytes}
use Rattle.std.proofs.Common.{sym, ap, subst, ◌∙◌, div-one, add-zero, add_assoc, mul-suc, mul-le-mul_left, pow-add}
use native.Mathlib.Omega.{arith}
use Rattle.std.proofs.Math.ListN.{get_or}
use Rattle.finite.specs.Ranked.{rank, rank-next}
use Rattle.board.specs.Sets.{digit}
use Rattle.pocket.specs.Pocket.{entry_at}
use Rattle.pocket.specs.Digits.{digits}
use Rattle.pocket.specs.Tally.{holds, Part}
use Rattle.pocket.proofs.laws.DigitLaws.{digits-cat}

-- ---- the count of the numbers below a bound, number by number

added-digit : (b : Bool) (r : ℕ) → cond b (r + 1) r ≡ r + digit b
added-digit true r = refl
added-digit false r = omega arith

pub rank_step : (f : ℕ → Bool) (k m : ℕ) → m ≡ k + 1 → rank f m ≡ rank f k + digit (f k)
rank_step f k m e = ap (rank f) e ∙ rank-next f k (f k) refl ∙ added-digit (f k) (rank f k)

module _ (pocket : List ℕ) where
  pub entry-below : (k : ℕ) → entry_at pocket k < 4
  unfolding entry_at
  entry-below k = omega arith

  entry_in : (j r : ℕ) → r < 4 → entry_at pocket (4 * j + r) ≡ get_or pocket j 0 / 2 ^ (2 * r) % 4
  unfolding entry_at
  entry_in j r h =
      let q : (4 * j + r) / 4 ≡ j = omega arith in
      let m : (4 * j + r) % 4 ≡ r = omega arith in
      rw (q, m)

  module _ (v : ℕ) where
    next : (k m e : ℕ) → m ≡ k + 1 → entry_at pocket k ≡ e
        → rank (holds pocket v) m ≡ rank (holds pocket v) k + digit (eqb e v)
    next k m e q h = rank_step (holds pocket v) k m q ∙ ap (λ (x : ℕ). rank (holds pocket v) k + digit (eqb x v)) h

    -- a byte's four entries
    rank-byte : (j x m : ℕ) → x ≡ get_or pocket j 0 → m ≡ j + 1
        → rank (holds pocket v) (4 * m) ≡ rank (holds pocket v) (4 * j) + digits v 4 x
    unfolding digits
    rank-byte j x m q e =
        let b = get_or pocket j 0 in
        let s₀ = next (4 * j) (4 * j + 1) (x % 4) (omega arith)
        (ap (entry_at pocket) (sym (add-zero (4 * j))) ∙ entry_in j 0 (omega arith) ∙ rw (q, div-one)) in
        let s₁ = next (4 * j + 1) (4 * j + 2) (x / 4 % 4) (omega arith) (entry_in j 1 (omega arith) ∙ rw q) in
        let s₂ = next (4 * j + 2) (4 * j + 3) (x / 4 / 4 % 4) (omega arith)
        (entry_in j 2 (omega arith) ∙ rw q (sixteenth b)) in
        let s₃ = next (4 * j + 3) (4 * m) (x / 4 / 4 / 4 % 4) (omega arith)
        (entry_in j 3 (omega arith) ∙ rw q (last b)) in
        regroup _ _ _ _ _ _ _ _ _ s₀ s₁ s₂ s₃
      where
        sixteenth : (b : ℕ) → b / 16 % 4 ≡ b / 4 / 4 % 4
        sixteenth b = omega arith

        last : (b : ℕ) → b / 64 % 4 ≡ b / 4 / 4 / 4 % 4
        last b = omega arith

        regroup : (r₀ r₁ r₂ r₃ r₄ a b c d : ℕ) → r₁ ≡ r₀ + a → r₂ ≡ r₁ + b → r₃ ≡ r₂ + c → r₄ ≡ r₃ + d
            → r₄ ≡ r₀ + (a + (b + (c + (d + 0))))
        regroup r₀ r₁ r₂ r₃ r₄ a b c d p q r s = omega arith

-- ---- bytes together

module _ (pocket : List ℕ) where
  pub one_byte : (i b : ℕ) → b ≡ get_or pocket i 0 → b ≤ 255 → Part pocket i 1 b
  one_byte i b e h = record { fits = omega arith; entries = λ v. rank-byte pocket v i b (i + 1) e refl }

  -- a number of m bytes below one of the next n
  module _ (i m n x y : ℕ) (p : Part pocket i m x) (q : Part pocket (i + m) n y) where
    together : 4 * (m + n) ≡ 4 * m + 4 * n
    together = omega arith

    room : x + 4 ^ (4 * m) * y < 4 ^ (4 * (m + n))
    room =
        let whole : 4 ^ (4 * (m + n)) ≡ 4 ^ (4 * m) * 4 ^ (4 * n) = ap (λ (k : ℕ). 4 ^ k) together
        ∙ pow-add 4 (4 * m) (4 * n) in
        let most : 4 ^ (4 * m) * suc y ≤ 4 ^ (4 * m) * 4 ^ (4 * n) = mul-le-mul_left (4 ^ (4 * m)) q.fits in
        omega (arith, p.fits, most, whole, mul-suc (4 ^ (4 * m)) y)

    counts : (v : ℕ)
        → rank (holds pocket v) (4 * (i + (m + n)))
        ≡ rank (holds pocket v) (4 * i) + digits v (4 * (m + n)) (x + 4 ^ (4 * m) * y)
    counts v =
        ap (λ (k : ℕ). rank (holds pocket v) (4 * k)) (sym (add_assoc i m n))
        ∙ q.entries v
        ∙ sum _ _ _ _ _ (p.entries v)
        (ap (λ (k : ℕ). digits v k (x + 4 ^ (4 * m) * y)) together ∙ digits-cat v (4 * m) (4 * n) x y p.fits)
      where
        sum : (r s a b d : ℕ) → s ≡ r + a → d ≡ a + b → s + b ≡ r + d
        sum r s a b d e f = omega arith

    pub joined : Part pocket i (m + n) (x + 4 ^ (4 * m) * y)
    joined = record { fits = room; entries = counts }

  -- as the code adds them up
  pub four_bytes : (i a b c d : ℕ) → (a ≡ get_or pocket i 0) × (a ≤ 255) → (b ≡ get_or pocket (i + 1) 0) × (b ≤ 255)
      → (c ≡ get_or pocket (i + 2) 0) × (c ≤ 255) → (d ≡ get_or pocket (i + 3) 0) × (d ≤ 255)
      → Part pocket i 4 (a + 256 * b + 65536 * c + 16777216 * d)
  four_bytes i a b c d p q r s =
      joined i 3 1 (a + 256 * b + 65536 * c) d
      (joined i 2 1 (a + 256 * b) c (joined i 1 1 a b (one_byte i a p.0 p.1) (one_byte (i + 1) b q.0 q.1))
      (one_byte (i + 2) c r.0 r.1))
      (one_byte (i + 3) d s.0 s.1)

  pub two-fours : (i x y : ℕ) → Part pocket i 4 x → Part pocket (i + 4) 4 y → Part pocket i 8 (x + 4294967296 * y)
  two-fours i x y p q = joined i 4 4 x y p q

  -- as the word has them
  pub eight_bytes : (i n : ℕ) → ((k : ℕ) → get_or pocket k 0 < 256)
      → n
      ≡ from_le_bytes w64
      (get_or pocket i 0 ∷ get_or pocket (i + 1) 0 ∷ get_or pocket (i + 2) 0 ∷ get_or pocket (i + 3) 0 ∷ get_or pocket (i + 4) 0 ∷ get_or pocket (i + 5) 0 ∷ get_or pocket (i + 6) 0 ∷ get_or pocket (i + 7) 0 ∷ [])
      → Part pocket i 8 n
  eight_bytes i n small e =
      subst (Part pocket i 8) (added _ _ _ _ _ _ _ _ ∙ sym e)
      (joined i 7 1 _ _
      (joined i 6 1 _ _
      (joined i 5 1 _ _
      (joined i 4 1 _ _
      (joined i 3 1 _ _
      (joined i 2 1 _ _ (joined i 1 1 _ _ (one i) (one (i + 1))) (one (i + 2)))
      (one (i + 3)))
      (one (i + 4)))
      (one (i + 5)))
      (one (i + 6)))
      (one (i + 7)))
    where
      one : (k : ℕ) → Part pocket k 1 (get_or pocket k 0)
      one k = one_byte k (get_or pocket k 0) refl (omega (arith, small k))

      added : (a b c d e f g h : ℕ)
          → a + 256 * b + 65536 * c + 16777216 * d + 4294967296 * e + 1099511627776 * f + 281474976710656 * g + 72057594037927936 * h
          ≡ from_le_bytes w64 (a ∷ b ∷ c ∷ d ∷ e ∷ f ∷ g ∷ h ∷ [])
      added a b c d e f g h = omega arith

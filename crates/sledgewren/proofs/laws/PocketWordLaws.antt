-- No two answers of the pocket edition share a word.
use Rattle.pocket.specs.declared.Tallies.{Tallies}
use Rattle.std.specs.Prelude.{◌≡◌, refl, Bool, true, false, cond, not, eqb, length, Err, Ok, Result}
use Rattle.std.proofs.Common.{sym, ap₂, ◌∙◌, arith}
use mathlib.Core.List.{List}
use Prim.Native.Nat.{ℕ, ◌+◌, ◌*◌, ◌<◌}
use Rattle.pocket.specs.declared.PocketAnswer.{PocketAnswer}
use Rattle.pocket.specs.Pocket.{pocket_size, Told, told_by}
use Rattle.pocket.proofs.laws.Refusals.{told-one}
use Rattle.pocket.specs.Tally.{count_of, tally_of}
use Rattle.pocket.proofs.laws.TallyLaws.{tallies-whole}
use Rattle.sledgewren.specs.PocketWords.{told_word, tallied_word}

-- ---- look-up

word-told : (a b c d : ℕ) → a < 256 → c < 256 → a + b * 256 ≡ c + d * 256
    → ◌≡◌ {A = Told} (record { refusal = a; value = b }) (record { refusal = c; value = d })
word-told a b c d h k e = ap₂ (λ (x y : ℕ). record { refusal = x; value = y }) (omega arith) (omega arith)

-- a refusal is a byte
pub answer-word-one : (a b : Result PocketAnswer ℕ) → (told_by a).refusal < 256 → (told_by b).refusal < 256
    → told_word (told_by a) ≡ told_word (told_by b) → a ≡ b
answer-word-one a b h k e = told-one a b (word-told _ _ _ _ h k e)

-- ---- tallies

-- a digit to base 2 ^ 16 and what is above it
parted : (a b p q : ℕ) → a < 65536 → p < 65536 → a + b * 65536 ≡ p + q * 65536 → (a ≡ p) × (b ≡ q)
parted a b p q h k e = (omega arith, omega arith)

above : (a b c d : ℕ) → a + b * 65536 + c * 4294967296 + d * 281474976710656 ≡ a + (b + (c + d * 65536) * 65536) * 65536
above a b c d = omega arith

-- four numbers that make 59,136, in one word
four-one : (a b c d p q r s : ℕ) → a + b + c + d ≡ 59136 → p + q + r + s ≡ 59136
    → a + b * 65536 + c * 4294967296 + d * 281474976710656 ≡ p + q * 65536 + r * 4294967296 + s * 281474976710656
    → (a ≡ p) × (b ≡ q) × (c ≡ r) × (d ≡ s)
four-one a b c d p q r s m n e =
    let f = parted a (b + (c + d * 65536) * 65536) p (q + (r + s * 65536) * 65536) (omega (arith, m))
    (omega (arith, n)) (sym (above a b c d) ∙ e ∙ above p q r s) in
    let g = parted b (c + d * 65536) q (r + s * 65536) (omega (arith, m)) (omega (arith, n)) f.1 in
    let h = parted c d r s (omega (arith, m)) (omega (arith, n)) g.1 in
    (f.0, g.0, h.0, h.1)

no_seven : (a b c d : ℕ) → a + b + c + d ≡ 59136 → a + b * 65536 + c * 4294967296 + d * 281474976710656 ≡ 7 → ⊥
no_seven a b c d m e = omega arith

module _ (p q : List ℕ) where
  -- The tallies make 59,136 together, so that their word is no refusal's.
  pub tallies-word-one : tallied_word (tally_of p) ≡ tallied_word (tally_of q) → tally_of p ≡ tally_of q
  unfolding tally_of
  tallies-word-one e = go (eqb (length p) pocket_size) (eqb (length q) pocket_size) e
    where
      tallies : List ℕ → Result Tallies ℕ
      tallies l =
          Ok (record { none = count_of l 0; draws = count_of l 1; wins = count_of l 2; losses = count_of l 3 })

      answer : Bool → List ℕ → Result Tallies ℕ
      answer b l = cond (not b) (Err 7) (tallies l)

      go : (b c : Bool) → tallied_word (answer b p) ≡ tallied_word (answer c q) → answer b p ≡ answer c q
      go true true e =
          let f = four-one (count_of p 0) (count_of p 1) (count_of p 2) (count_of p 3) (count_of q 0) (count_of q 1)
          (count_of q 2) (count_of q 3) (tallies-whole p) (tallies-whole q) e in
          rw (f.0, f.1, f.2, f.3)
      go true false e = absurd (no_seven (count_of p 0) (count_of p 1) (count_of p 2) (count_of p 3) (tallies-whole p) e)
      go false true e =
          absurd (no_seven (count_of q 0) (count_of q 1) (count_of q 2) (count_of q 3) (tallies-whole q) (sym e))
      go false false e = refl

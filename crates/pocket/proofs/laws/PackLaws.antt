-- The laws by which packing is proved.
use Rattle.std.specs.Prelude.{◌≡◌, List, ℕ, ◌+◌, ◌*◌, length, get_or, Err, Ok}
use Rattle.std.proofs.Math.Path.{sym}
use Rattle.std.proofs.Common.{◌∙◌}
use borrow.Author.Tests.{eq-eqb, ne_eqb}
use Rattle.finite.specs.Mapped.{map_from}
use Rattle.endings.specs.Ending.{table_size}
use Rattle.pocket.specs.Pocket.{pocket_size, entry_of, packed_byte, pack_of}

-- ---- packing, by the tests that lead to each answer

module _ (t pocket : List ℕ) where
  pub pack-table : (length t ≡ table_size → ⊥)
      → (Err 7 ≡ (pack_of t pocket).answer) × (pocket ≡ (pack_of t pocket).bytes)
  unfolding pack_of
  pack-table h = (sym (rw (ne_eqb (length t) table_size h)), sym (rw (ne_eqb (length t) table_size h)))

  module _ (l : length t ≡ table_size) where
    pub pack-pocket : (length pocket ≡ pocket_size → ⊥)
        → (Err 7 ≡ (pack_of t pocket).answer) × (pocket ≡ (pack_of t pocket).bytes)
    unfolding pack_of
    pack-pocket h = (
      sym (rw (eq-eqb (length t) table_size l, ne_eqb (length pocket) pocket_size h)),
      sym (rw (eq-eqb (length t) table_size l, ne_eqb (length pocket) pocket_size h)),
    )

    pub pack-done : (after : List ℕ) → length pocket ≡ pocket_size → after ≡ map_from (λ i b. packed_byte t i) 0 pocket
        → (Ok tt ≡ (pack_of t pocket).answer) × (after ≡ (pack_of t pocket).bytes)
    unfolding pack_of
    pack-done after k e = (
      sym (rw (eq-eqb (length t) table_size l, eq-eqb (length pocket) pocket_size k)),
      e
          ∙ sym (rw (eq-eqb (length t) table_size l, eq-eqb (length pocket) pocket_size k)),
    )

-- the four entries of a byte, as the code adds them up
pub packed-sum : (t : List ℕ) (i a b c d : ℕ) → a ≡ entry_of (get_or t (4 * i) 0) → b ≡ entry_of (get_or t (4 * i + 1) 0)
    → c ≡ entry_of (get_or t (4 * i + 2) 0) → d ≡ entry_of (get_or t (4 * i + 3) 0)
    → a + 4 * b + 16 * c + 64 * d ≡ packed_byte t i
unfolding packed_byte
packed-sum t i a b c d p q r s = rw (p, q, r, s)

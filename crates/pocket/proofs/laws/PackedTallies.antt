-- The tallies of a packed table count its bytes of each class, on any bytes.
use Rattle.std.specs.Prelude.{◌≡◌, Bool, ◌↔◌, List, ℕ, ◌%◌, ◌<◌, T, leb, length, get_or, Ok}
use Rattle.std.proofs.Common.{subst, leb→le, le→leb, eqb→eq}
use Rattle.std.proofs.Math.Dec.{eqb, eqb_refl}
use borrow.Author.Tests.{eq-eqb}
use Rattle.finite.specs.Truth.{and_left, and_right, and_both, same_test}
use Rattle.finite.specs.Ranked.{rank_same}
use Rattle.theory.specs.Required.{Loss, winning}
use Rattle.theory.proofs.laws.Better.{winning-is}
use Rattle.endings.specs.Ending.{table_size}
use Rattle.pocket.specs.Pocket.{pocket_size, entry_at, pack_of}
use Rattle.pocket.specs.Classes.{losing, bytes_that}
use Rattle.pocket.specs.Tally.{holds, count_of, tally_of}
use Rattle.pocket.proofs.laws.Unpacking.{packed-length, class_back}

eqb_is : (m n : ℕ) → T (eqb m n) ↔ (m ≡ n)
eqb_is m n = (eqb→eq m n, λ e. subst (λ (k : ℕ). T (eqb m k)) e (eqb_refl m))

losing-is : (b : ℕ) → T (losing b) ↔ Loss b
losing-is b = (
  λ t. (
    leb→le 2 b (and_left (leb 2 b) (eqb (b % 2) 0) t),
    eqb→eq (b % 2) 0 (and_right (leb 2 b) (eqb (b % 2) 0) t),
  ),
  λ l. and_both (leb 2 b) (eqb (b % 2) 0) (le→leb 2 b l.0) ((eqb_is (b % 2) 0).1 l.1),
)

module _ (t pocket : List ℕ) (l : length t ≡ table_size) (k : length pocket ≡ pocket_size) where
  -- an entry is counted where the byte passes the test that tells it
  packed-count : (v : ℕ) (ok : ℕ → Bool) (Is : ℕ → Type 0) → ((b : ℕ) → T (ok b) ↔ Is b)
      → ((n : ℕ) → n < table_size → (entry_at (pack_of t pocket).bytes n ≡ v) ↔ Is (get_or t n 0))
      → count_of (pack_of t pocket).bytes v ≡ bytes_that ok t
  unfolding count_of
  packed-count v ok Is is same =
      rank_same (holds (pack_of t pocket).bytes v) (λ n. ok (get_or t n 0)) table_size
      (λ n h. same_test (eqb (entry_at (pack_of t pocket).bytes n) v) (ok (get_or t n 0))
      (λ s. (is (get_or t n 0)).1 ((same n h).0 (eqb→eq (entry_at (pack_of t pocket).bytes n) v s)))
      (λ s. (eqb_is (entry_at (pack_of t pocket).bytes n) v).1 ((same n h).1 ((is (get_or t n 0)).0 s))))

  pub packed-tallies : tally_of (pack_of t
      pocket).bytes
      ≡ Ok
      (record {
        none = bytes_that (λ b. eqb b 0) t;
        draws = bytes_that (λ b. eqb b 1) t;
        wins = bytes_that winning t;
        losses = bytes_that losing t;
      })
  unfolding tally_of
  packed-tallies =
      let back = class_back t pocket l k in
      rw (
        eq-eqb (length (pack_of t pocket).bytes) pocket_size (packed-length t pocket l k),
        packed-count 0 (λ b. eqb b 0) (λ b. b ≡ 0) (λ b. eqb_is b 0) (λ n h. (back n h).none),
        packed-count 1 (λ b. eqb b 1) (λ b. b ≡ 1) (λ b. eqb_is b 1) (λ n h. (back n h).draw),
        packed-count 2 winning _ winning-is (λ n h. (back n h).win),
        packed-count 3 losing Loss losing-is (λ n h. (back n h).loss),
      )

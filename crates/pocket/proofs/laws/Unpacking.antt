-- What is packed is read back: at each number the entry of the table's byte, on any bytes.
use Rattle.std.specs.Prelude.{◌≡◌, refl, Bool, true, false, cond, ℕ, zero, suc, ◌+◌, ◌*◌, ◌/◌, ◌%◌, ◌^◌, ◌<◌, leb, eqb, length}
use Rattle.std.proofs.Common.{sym, subst, ◌∙◌, zero-add, add-zero}
use Rattle.std.proofs.Math.Path.{ap}
use mathlib.Core.List.{List}
use native.Mathlib.Omega.{arith}
use Rattle.std.proofs.Math.ListN.{get_or}
use borrow.Author.Tests.{eq-eqb, leb-true, leb-false, eqb-true, eqb-false}
use Rattle.finite.specs.Mapped.{map_from, length-map_from, get_d-map_from}
use Rattle.endings.specs.Ending.{table_size}
use Rattle.pocket.specs.Pocket.{pocket_size, entry_of, entry_at, packed_byte, pack_of}
use Rattle.pocket.specs.Classes.{Class}

pub entry-small : (b : ℕ) → entry_of b < 4
unfolding entry_of
entry-small b = go (leb b 1) refl (eqb (b % 2) 1)
  where
    go : (x : Bool) → leb b 1 ≡ x → (y : Bool) → cond x b (cond y 2 3) < 4
    go true e y = omega (arith, leb-true b 1 e)
    go false e true = omega arith
    go false e false = omega arith

-- each of the four entries of a byte
quarter : (t : List ℕ) (i r : ℕ) → r < 4 → packed_byte t i / 2 ^ (2 * r) % 4 ≡ entry_of (get_or t (4 * i + r) 0)
unfolding packed_byte
quarter t i r h =
    let a = entry-small (get_or t (4 * i) 0) in
    let b = entry-small (get_or t (4 * i + 1) 0) in
    let c = entry-small (get_or t (4 * i + 2) 0) in
    let d = entry-small (get_or t (4 * i + 3) 0) in
    go r h a b c d
  where
    go : (r : ℕ) → r < 4 → entry_of (get_or t (4 * i) 0) < 4 → entry_of (get_or t (4 * i + 1) 0) < 4
        → entry_of (get_or t (4 * i + 2) 0) < 4 → entry_of (get_or t (4 * i + 3) 0) < 4
        → packed_byte t i / 2 ^ (2 * r) % 4 ≡ entry_of (get_or t (4 * i + r) 0)
    go zero h a b c d = rw (add-zero (4 * i)) (omega arith)
    go (suc zero) h a b c d = omega arith
    go (suc (suc zero)) h a b c d = omega arith
    go (suc (suc (suc zero))) h a b c d = omega arith
    go (suc (suc (suc (suc r)))) h a b c d = absurd (omega arith)

module _ (t pocket : List ℕ) (l : length t ≡ table_size) (k : length pocket ≡ pocket_size) where
  packed-bytes : (pack_of t pocket).bytes ≡ map_from (λ i b. packed_byte t i) 0 pocket
  unfolding pack_of
  packed-bytes = rw (eq-eqb (length t) table_size l, eq-eqb (length pocket) pocket_size k)

  pub packed-length : length (pack_of t pocket).bytes ≡ pocket_size
  packed-length = ap length packed-bytes ∙ length-map_from (λ i b. packed_byte t i) 0 pocket ∙ k

  -- The packing holds at each number the entry of the table's byte.
  pub packed-entry : (n : ℕ) → n < table_size → entry_at (pack_of t pocket).bytes n ≡ entry_of (get_or t n 0)
  unfolding entry_at
  packed-entry n h =
      let read : get_or (pack_of t pocket).bytes (n / 4) 0 ≡ packed_byte t (n / 4) =
      ap (λ (bs : List ℕ). get_or bs (n / 4) 0) packed-bytes
      ∙ get_d-map_from (λ i b. packed_byte t i) 0 pocket (n / 4) (omega arith)
      ∙ ap (packed_byte t) (zero-add (n / 4)) in
      let own : 4 * (n / 4) + n % 4 ≡ n = omega arith in
      ap (λ (b : ℕ). b / 2 ^ (2 * (n % 4)) % 4) read ∙ quarter t (n / 4) (n % 4) (omega arith)
      ∙ ap (λ (m : ℕ). entry_of (get_or t m 0)) own

-- ---- the class of a byte

pub entry-class : (b : ℕ) → Class b (entry_of b)
unfolding entry_of
entry-class b = go (leb b 1) refl (eqb (b % 2) 1) refl
  where
    go : (x : Bool) → leb b 1 ≡ x → (y : Bool) → eqb (b % 2) 1 ≡ y → Class b (cond x b (cond y 2 3))
    go true e y f =
        let s = leb-true b 1 e in
        record {
          none = (λ h. h, λ h. h);
          draw = (λ h. h, λ h. h);
          win = (λ h. absurd (omega arith), λ h. absurd (omega arith));
          loss =
              (λ h. absurd (omega arith), λ h. absurd (omega arith));
        }
    go false e true f =
        let s = leb-false b 1 e in
        let o = eqb-true (b % 2) 1 f in
        record {
          none = (λ h. absurd (omega arith), λ h. absurd (omega arith));
          draw = (λ h. absurd (omega arith), λ h. absurd (omega arith));
          win = (λ h. omega arith, λ h. refl);
          loss =
              (λ h. absurd (omega arith), λ h. absurd (omega arith));
        }
    go false e false f =
        let s = leb-false b 1 e in
        let o = eqb-false (b % 2) 1 f in
        record {
          none = (λ h. absurd (omega arith), λ h. absurd (omega arith));
          draw = (λ h. absurd (omega arith), λ h. absurd (omega arith));
          win =
              (λ h. absurd (omega arith), λ h. absurd (o h.1));
          loss = (λ h. omega arith, λ h. refl);
        }

-- Packing and then reading a number's entry gives the class of its byte back, on any bytes.
pub class_back : (t pocket : List ℕ) → length t ≡ table_size → length pocket ≡ pocket_size → (n : ℕ) → n < table_size
    → Class (get_or t n 0) (entry_at (pack_of t pocket).bytes n)
class_back t pocket l k n h =
    subst (Class (get_or t n 0)) (sym (packed-entry t pocket l k n h)) (entry-class (get_or t n 0))

-- The word of a number written with its check is read back, and no two have one word.
use Rattle.std.specs.Prelude.{◌≡◌, refl, Bool, true, false, List, [], ◌∷◌, map, ℕ, zero, suc, ◌+◌, leb, get_or, replicate}
use Rattle.std.proofs.Common.{sym, ap, ◌∙◌, arith, lit<, leb-true, leb-false}
use Prim.Native.Char.{code}
use Rattle.std.proofs.lemmas.List.{length-map}
use Rattle.check_digits.specs.Check.{with_check, digits, digit_bytes}
use Rattle.check_digits.proofs.laws.Finding.{Digits}
use Rattle.check_digits.proofs.laws.DigitLaws.{digits-small, digits-length}
use Rattle.index.specs.Answers.{position_at, unused}
use Rattle.typed.specs.Writing.{written_of}
use Rattle.typed.proofs.laws.WritingLaws.{writes-8, writes-9, writes-used}
use Rattle.words.specs.Reading.{bits, Byte, ReadBack, OneWord}
use Rattle.words.proofs.laws.ReadingLaws.{field, one_word}
use Rattle.sledgewren.specs.TypedWord.{bytes_word, written_word}
use Rattle.sledgewren.proofs.laws.TypedLaws.{seven-list}
use Rattle.sledgewren.specs.TypedReading.{written_read, WrittenFits}

eight-back : (k a b c d e f g : ℕ) → Byte k → Byte a → Byte b → Byte c → Byte d → Byte e → Byte f → Byte g
    → written_read (bytes_word (k ∷ a ∷ b ∷ c ∷ d ∷ e ∷ f ∷ g ∷ []))
    ≡ record { refusal = k; digits = a ∷ b ∷ c ∷ d ∷ e ∷ f ∷ g ∷ [] }
eight-back k a b c d e f g hk ha hb hc hd he hf hg =
    let word : ℕ = bytes_word (k ∷ a ∷ b ∷ c ∷ d ∷ e ∷ f ∷ g ∷ []) in
    let rk : bits 0 8 word ≡ k =
    field 0 8 0 k (bytes_word (a ∷ b ∷ c ∷ d ∷ e ∷ f ∷ g ∷ [])) word (omega arith) (omega arith) hk in
    let ra : bits 8 8 word ≡ a =
    field 8 8 k a (bytes_word (b ∷ c ∷ d ∷ e ∷ f ∷ g ∷ [])) word (omega arith) (omega arith) ha in
    let rb : bits 16 8 word ≡ b =
    field 16 8 (bytes_word (k ∷ a ∷ [])) b (bytes_word (c ∷ d ∷ e ∷ f ∷ g ∷ [])) word (omega arith) (omega arith) hb
    in
    let rc : bits 24 8 word ≡ c =
    field 24 8 (bytes_word (k ∷ a ∷ b ∷ [])) c (bytes_word (d ∷ e ∷ f ∷ g ∷ [])) word (omega arith) (omega arith) hc
    in
    let rd : bits 32 8 word ≡ d =
    field 32 8 (bytes_word (k ∷ a ∷ b ∷ c ∷ [])) d (bytes_word (e ∷ f ∷ g ∷ [])) word (omega arith) (omega arith) hd
    in
    let re : bits 40 8 word ≡ e =
    field 40 8 (bytes_word (k ∷ a ∷ b ∷ c ∷ d ∷ [])) e (bytes_word (f ∷ g ∷ [])) word (omega arith) (omega arith) he
    in
    let rf : bits 48 8 word ≡ f =
    field 48 8 (bytes_word (k ∷ a ∷ b ∷ c ∷ d ∷ e ∷ [])) f (bytes_word (g ∷ [])) word (omega arith) (omega arith) hf
    in
    let rg : bits 56 8 word ≡ g =
    field 56 8 (bytes_word (k ∷ a ∷ b ∷ c ∷ d ∷ e ∷ f ∷ [])) g 0 word (omega arith) (omega arith) hg in
    rw (rk, ra, rb, rc, rd, re, rf, rg)

pub written-read : ReadBack WrittenFits written_word written_read
unfolding written_word
written-read w h =
    let s = seven-list w.digits h.seven in
    let back = eight-back w.refusal (get_or w.digits 0 0) (get_or w.digits 1 0) (get_or w.digits 2 0)
    (get_or w.digits 3 0) (get_or w.digits 4 0) (get_or w.digits 5 0) (get_or w.digits 6 0) h.refusal
    (h.bytes 0) (h.bytes 1) (h.bytes 2) (h.bytes 3) (h.bytes 4) (h.bytes 5) (h.bytes 6) in
    ap (λ (ds : List ℕ). written_read (bytes_word (w.refusal ∷ ds))) s ∙ back
    ∙ ap (λ (ds : List ℕ). record { refusal = w.refusal; digits = ds }) (sym s)

pub written_apart : OneWord WrittenFits written_word
written_apart = one_word WrittenFits written_word written_read written-read

-- ---- the writer's answers fit

-- the bytes of digits
digit-byte : (ds : List ℕ) → Digits ds → (i : ℕ) → Byte (get_or (map (λ d. code "0" + d) ds) i 0)
digit-byte [] h i = lit< tt
digit-byte (d ∷ ds) h zero = omega (arith, h 0)
digit-byte (d ∷ ds) h (suc i) = digit-byte ds (λ j. h (suc j)) i

zero-byte : (k i : ℕ) → Byte (get_or (replicate k 0) i 0)
zero-byte zero i = lit< tt
zero-byte (suc k) zero = lit< tt
zero-byte (suc k) (suc i) = zero-byte k i

refused-fits : (k : ℕ) → Byte k → WrittenFits (record { refusal = k; digits = replicate 7 0 })
refused-fits k h = record { refusal = h; seven = refl; bytes = zero-byte 7 }

given-fits : (n : ℕ) → WrittenFits (record { refusal = 0; digits = digit_bytes 7 n })
unfolding digit_bytes
given-fits n =
    record {
      refusal = lit< tt;
      seven = simp length-map (digits-length 7 n);
      bytes = digit-byte (digits 7 n) (digits-small 7 n);
    }

pub written-fits : (n : ℕ) → WrittenFits (written_of n)
written-fits n = go (leb 59136 n) refl (unused (position_at 0 n)) refl
  where
    go : (a : Bool) → leb 59136 n ≡ a → (u : Bool) → unused (position_at 0 n) ≡ u → WrittenFits (written_of n)
    go true e u f = rw (writes-8 n (leb-true 59136 n e)) (refused-fits 8 (lit< tt))
    go false e true f = rw (writes-9 n (leb-false 59136 n e) f) (refused-fits 9 (lit< tt))
    go false e false f = rw (writes-used n (leb-false 59136 n e) f) (given-fits (with_check n))

-- so the writer's word is read back
pub written-told : (n : ℕ) → written_read (written_word (written_of n)) ≡ written_of n
written-told n = written-read (written_of n) (written-fits n)

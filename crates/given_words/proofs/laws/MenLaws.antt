-- A man's word gives him back.
use Rattle.std.specs.Prelude.{◌≡◌, refl, ℕ, ◌+◌, ◌*◌, ◌/◌, ◌%◌, ◌<◌, None, Some}
use Rattle.std.proofs.Common.{sym, arith, ne_eqb}
use Rattle.rules.specs.Rules.{piece_of}
use Rattle.given_words.specs.Bits.{ReadBack}
use Rattle.given_words.specs.Men.{man_word, man_read, ManFits}

present : (kind colour square : ℕ) → kind < 256 → colour < 256 → square < 256
    → man_read (kind + colour * 256 + square * 65536 + 16777216) ≡ Some (piece_of kind colour square)
present kind colour square h k l =
    let w : ℕ = kind + colour * 256 + square * 65536 + 16777216 in
    let p : w / 16777216 ≡ 1 = omega arith in
    let o : w / 1 ≡ w = omega arith in
    let a : w % 256 ≡ kind = omega arith in
    let d : w / 256 ≡ colour + square * 256 + 65536 = omega arith in
    let b : (colour + square * 256 + 65536) % 256 ≡ colour = omega arith in
    let e : w / 65536 ≡ square + 256 = omega arith in
    let c : (square + 256) % 256 ≡ square = omega arith in
    rw (p, o, a, d, b, e, c)

-- reading the word of a man, or of none, gives him back
pub man-back : ReadBack ManFits man_word man_read
man-back None f = refl
man-back (Some m) f = present m.kind m.colour m.square f.0 f.1 f.2

-- ---- as the code reads it

pub none_read : (word : ℕ) → word / 16777216 % 256 ≡ 0 → None ≡ man_read word
none_read word z = sym (rw z)

pub some_read : (word : ℕ) → (word / 16777216 % 256 ≡ 0 → ⊥)
    → Some (piece_of (word % 256) (word / 256 % 256) (word / 65536 % 256)) ≡ man_read word
some_read word n = let a : word / 1 ≡ word = omega arith in sym (rw (ne_eqb (word / 16777216 % 256) 0 n, a))

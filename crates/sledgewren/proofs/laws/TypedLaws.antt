-- The word of a number written with its check, as the code adds it up.
use Rattle.std.specs.Prelude.{◌≡◌, List, [], ◌∷◌, ℕ, ◌+◌, ◌*◌, length, get_or, drop}
use Rattle.std.proofs.Common.{ap, sym, ◌∙◌, arith, drop-cons}
use Rattle.std.proofs.Math.Seq.{drop-length}
use Rattle.typed.specs.Writing.{Written}
use Rattle.sledgewren.specs.TypedWord.{bytes_word, written_word}

pub seven-list : (ds : List ℕ) → length ds ≡ 7
    → ds ≡ (get_or ds 0 0 ∷ get_or ds 1 0 ∷ get_or ds 2 0 ∷ get_or ds 3 0 ∷ get_or ds 4 0 ∷ get_or ds 5 0 ∷ get_or ds 6 0 ∷ [])
seven-list ds e =
    let none : drop 7 ds ≡ [] = rw (sym e) (drop-length ds) in
    drop-cons ds 0 0 (omega arith)
    ∙ rw (
      drop-cons ds 1 0 (omega arith),
      drop-cons ds 2 0 (omega arith),
      drop-cons ds 3 0 (omega arith),
      drop-cons ds 4 0 (omega arith),
      drop-cons ds 5 0 (omega arith),
      drop-cons ds 6 0 (omega arith),
      none,
    )

pub seven-word : (k : ℕ) (ds : List ℕ) → length ds ≡ 7
    → k + get_or ds 0 0 * 256 + get_or ds 1 0 * 65536 + get_or ds 2 0 * 16777216 + get_or ds 3 0 * 4294967296 + get_or ds 4
    0 * 1099511627776 + get_or ds 5 0 * 281474976710656 + get_or ds 6 0 * 72057594037927936 ≡ bytes_word (k ∷ ds)
seven-word k ds e = let s = ap bytes_word (seven-list ds e) in omega arith

pub word_sum : (w : Written) (k a b c d e f g : ℕ) → length w.digits ≡ 7 → k ≡ w.refusal
    → a ≡ get_or w.digits 0 0 → b ≡ get_or w.digits 1 0 → c ≡ get_or w.digits 2 0 → d ≡ get_or w.digits 3 0
    → e ≡ get_or w.digits 4 0 → f ≡ get_or w.digits 5 0 → g ≡ get_or w.digits 6 0
    → k + a * 256 + b * 65536 + c * 16777216 + d * 4294967296 + e * 1099511627776 + f * 281474976710656 + g
    * 72057594037927936 ≡ written_word w
unfolding written_word
word_sum w k a b c d e f g n kw aw bw cw dw ew fw gw =
    rw (kw, aw, bw, cw, dw, ew, fw, gw) (seven-word w.refusal w.digits n)

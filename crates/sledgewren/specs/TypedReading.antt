-- What a host reads from the word of a number written with its check, by the bit ranges of include/sledgewren.h. Definitions only.
use Rattle.std.specs.Prelude.{◌≡◌, [], ◌∷◌, ℕ, length, get_or}
use Rattle.typed.specs.Writing.{Written}
use Rattle.words.specs.Reading.{bits, Byte}

-- "bits 0-7 refusal, 8-15 the first digit as a character, and so on to 56-63, the seventh"
abbrev pub written_read : ℕ → Written
written_read word = record {
  refusal = bits 0 8 word;
  digits = bits 8 8 word ∷ bits 16 8 word ∷ bits 24 8 word ∷ bits 32 8 word ∷ bits 40 8 word ∷ bits 48 8 word ∷ bits 56 8 word ∷ [];
}

-- a refusal and seven bytes
pub record WrittenFits (w : Written) : Type 0 where
  pub refusal : Byte w.refusal
  pub seven : length w.digits ≡ 7
  pub bytes : (i : ℕ) → Byte (get_or w.digits i 0)

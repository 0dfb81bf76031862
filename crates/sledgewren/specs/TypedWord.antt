-- The word of a number written with its check (include/sledgewren.h). Definitions only.
use Rattle.std.specs.Prelude.{List, [], ◌∷◌, ℕ, ◌+◌, ◌*◌, ◌^◌}
use Rattle.typed.specs.Writing.{Written}

-- bytes as one word, the first one lowest
abbrev pub bytes_word : List ℕ → ℕ
bytes_word [] = 0
bytes_word (b ∷ bs) = b + bytes_word bs * 2 ^ 8

-- bits 0-7 refusal, 8-15 the first digit's byte, and so on to 56-63, the seventh's; all zero on a refusal
unfoldable pub written_word : Written → ℕ
written_word w = bytes_word (w.refusal ∷ w.digits)

-- Fields of a word by their bits, and what it is to read a word back. Definitions only.
use Rattle.std.specs.Prelude.{◌≡◌, ℕ, ◌/◌, ◌%◌, ◌^◌, ◌<◌}

-- the bits of a word from the first on, as many as the width
abbrev pub bits : ℕ → ℕ → ℕ → ℕ
bits first width word = word / 2 ^ first % 2 ^ width

abbrev pub Byte : ℕ → Type 0
Byte n = n < 2 ^ 8

-- reading the word of an answer that fits gives the answer back
abbrev pub ReadBack : {A : Type 0} → (A → Type 0) → (A → ℕ) → (ℕ → A) → Type 0
ReadBack {A} Fits word read = (a : A) → Fits a → read (word a) ≡ a

-- no two answers that fit have one word
abbrev pub OneWord : {A : Type 0} → (A → Type 0) → (A → ℕ) → Type 0
OneWord {A} Fits word = (a b : A) → Fits a → Fits b → word a ≡ word b → a ≡ b

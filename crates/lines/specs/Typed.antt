-- Numbers as a clerk types them: what the theorems on altered and exchanged digits speak of. Definitions only.
use Rattle.std.specs.Prelude.{List, ◌∷◌, ◌++◌, map, ℕ, T, drop}
use Prim.Native.Char.{code}
use Rattle.ascii.specs.Bytes.{bytes}
use Rattle.check_digits.specs.Check.{right_number, with_check, digit_bytes}
use Rattle.lines.specs.Grammar.{between, digit_of, has_shape, number_shape, seven_digits}

-- a digit's byte
abbrev pub Digit : ℕ → Type 0
Digit b = T (between (code "0") (code "9") b)

-- the digits of a number line, from its fifth byte on
abbrev pub typed_digits : List ℕ → List ℕ
typed_digits line = map digit_of (drop 4 line)

-- a number line with its right check, whatever byte stands for the man
pub record RightLine (line : List ℕ) : Type 0 where
  pub shaped : T (has_shape number_shape line)
  pub right : T (right_number (seven_digits line))

-- a number written with its check, on a line
abbrev pub number_line : ℕ → ℕ → List ℕ
number_line letter n = letter ∷ bytes " # " ++ digit_bytes 7 (with_check n)

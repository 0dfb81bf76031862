-- Each word is read back by the header's bit ranges, and no two answers have one word.
use Rattle.std.specs.Prelude.{◌≡◌, refl, Bool, true, false, ℕ, ◌+◌, ◌*◌, ◌^◌, ◌<◌, eqb, Err, None, Ok, Option, Some, Result}
use Rattle.std.proofs.Common.{sym, ap, ◌∙◌, arith, ne_eqb}
use Rattle.rules.specs.declared.Move.{Move}
use Rattle.answers.specs.declared.Answer.{Answer}
use Rattle.answers.specs.declared.Checked.{Checked}
use Rattle.numbering.specs.declared.Material.{Material}
use Rattle.position.specs.Keyed.{man_square}
use Rattle.endings.specs.GamePromise.{given, move_of_answer}
pub use Rattle.given_words.proofs.laws.BitLaws.{field}
use Rattle.words.specs.Words.{number_word, second_square, placed_word, count_word, filled_word, checked_word, flag_of, advice_word, answer_word, marked_word}
use Rattle.words.specs.Reading.{bits, unless_refused, number_read, placed_read, count_read, filled_read, checked_read, advice_read, value_read, marked_read, Byte, RefusalFits, NumberFits, PlacedFits, CountFits, FilledFits, CheckedFits, AdviceFits, AnswerFits, MarkedFits, ReadBack, OneWord}

-- ---- a refusal and any other answer

module _ {A : Type 0} (answer : A) (refused : ℕ → A) where
  refusal-read : (k : ℕ) → RefusalFits k → unless_refused answer refused k ≡ refused k
  refusal-read k h =
      let e : bits 0 8 k ≡ k = field 0 8 0 k 0 k (omega arith) (omega arith) h.1 in
      rw (e, ne_eqb k 0 (λ z. omega arith))

  other-read : (word : ℕ) → bits 0 8 word ≡ 0 → unless_refused answer refused word ≡ answer
  other-read word e = rw e

-- reading back tells two answers apart
module _ {A : Type 0} (Fits : A → Type 0) (word : A → ℕ) (read : ℕ → A) where
  pub one_word : ReadBack Fits word read → OneWord Fits word
  one_word back a b p q e = sym (back a p) ∙ ap read e ∙ back b q

-- ---- number

pub number-read : ReadBack NumberFits number_word number_read
number-read (Ok n) h =
    let high : bits 31 1 n ≡ 0 = field 31 1 n 0 0 n (omega arith) h (omega arith) in
    let low : bits 0 31 n ≡ n = field 0 31 0 n 0 n (omega arith) (omega arith) h in
    rw (high, low)
number-read (Err k) h =
    let high : bits 31 1 (2 ^ 31 + k) ≡ 1 =
    field 31 1 k 1 0 (2 ^ 31 + k) (omega arith) (omega (arith, h.1)) (omega arith) in
    let low : bits 0 8 (2 ^ 31 + k) ≡ k = field 0 8 0 k (2 ^ 23) (2 ^ 31 + k) (omega arith) (omega arith) h.1 in
    rw (high, low)

pub numbers_apart : OneWord NumberFits number_word
numbers_apart = one_word NumberFits number_word number_read number-read

-- ---- position

record PlaceBits (side white first black second word : ℕ) : Type 0 where
  none : bits 0 8 word ≡ 0
  side-read : bits 8 8 word ≡ side
  white-read : bits 16 8 word ≡ white
  first_read : bits 24 8 word ≡ first
  black-read : bits 32 8 word ≡ black
  second-read : bits 40 8 word ≡ second

place-bits : (s w f b g : ℕ) → Byte s → Byte w → Byte f → Byte b → Byte g
    → PlaceBits s w f b g (s * 2 ^ 8 + w * 2 ^ 16 + f * 2 ^ 24 + b * 2 ^ 32 + g * 2 ^ 40)
place-bits s w f b g hs hw hf hb hg =
    let word : ℕ = s * 2 ^ 8 + w * 2 ^ 16 + f * 2 ^ 24 + b * 2 ^ 32 + g * 2 ^ 40 in
    record {
      none = field 0 8 0 0 (s + w * 2 ^ 8 + f * 2 ^ 16 + b * 2 ^ 24 + g * 2 ^ 32) word (omega arith) (omega arith)
          (omega arith);
      side-read = field 8 8 0 s (w + f * 2 ^ 8 + b * 2 ^ 16 + g * 2 ^ 24) word (omega arith) (omega arith) hs;
      white-read = field 16 8 (s * 2 ^ 8) w (f + b * 2 ^ 8 + g * 2 ^ 16) word (omega arith) (omega arith) hw;
      first_read = field 24 8 (s * 2 ^ 8 + w * 2 ^ 16) f (b + g * 2 ^ 8) word (omega arith) (omega arith) hf;
      black-read = field 32 8 (s * 2 ^ 8 + w * 2 ^ 16 + f * 2 ^ 24) b g word (omega arith) (omega arith) hb;
      second-read =
          field 40 8 (s * 2 ^ 8 + w * 2 ^ 16 + f * 2 ^ 24 + b * 2 ^ 32) g 0 word (omega arith) (omega arith) hg;
    }

pub placed-read : (m : Material) → ReadBack (PlacedFits m) placed_word (placed_read m)
placed-read m (Ok p) h =
    let b = place-bits p.side p.white_king (man_square p) p.black_king (second_square p) h.side h.white
    h.square h.black h.second in
    rw (b.none, b.side-read, b.white-read, b.first_read, b.black-read, b.second-read) (ap Ok (sym h.own))
placed-read m (Err k) h = refusal-read _ Err k h

pub places-apart : (m : Material) → OneWord (PlacedFits m) placed_word
places-apart m = one_word (PlacedFits m) placed_word (placed_read m) (placed-read m)

-- ---- count

pub count-read : ReadBack CountFits count_word count_read
count-read (Ok n) h =
    let none : bits 0 8 (n * 2 ^ 8) ≡ 0 = field 0 8 0 0 n (n * 2 ^ 8) (omega arith) (omega arith) (omega arith) in
    let count : bits 8 8 (n * 2 ^ 8) ≡ n = field 8 8 0 n 0 (n * 2 ^ 8) (omega arith) (omega arith) h in
    rw (none, count)
count-read (Err k) h = refusal-read _ Err k h

pub counts-apart : OneWord CountFits count_word
counts-apart = one_word CountFits count_word count_read count-read

-- ---- fill

pub filled-read : ReadBack FilledFits filled_word filled_read
filled-read (Ok (Some n)) h =
    let word : ℕ = 2 ^ 8 + n * 2 ^ 16 in
    let none : bits 0 8 word ≡ 0 = field 0 8 0 0 (1 + n * 2 ^ 8) word (omega arith) (omega arith) (omega arith) in
    let some : bits 8 1 word ≡ 1 = field 8 1 0 1 (n * 2 ^ 7) word (omega arith) (omega arith) (omega arith) in
    let depth : bits 16 8 word ≡ n = field 16 8 (2 ^ 8) n 0 word (omega arith) (omega arith) h in
    rw (none, some, depth)
filled-read (Ok None) h = refl
filled-read (Err k) h = refusal-read _ Err k h

pub fills-apart : OneWord FilledFits filled_word
fills-apart = one_word FilledFits filled_word filled_read filled-read

-- ---- check

pub checked-read : ReadBack CheckedFits checked_word checked_read
checked-read (Ok Checked.Accepted) h = refl
checked-read (Ok (Checked.Wrong n)) h =
    let word : ℕ = 2 ^ 8 + n * 2 ^ 32 in
    let none : bits 0 8 word ≡ 0 = field 0 8 0 0 (1 + n * 2 ^ 24) word (omega arith) (omega arith) (omega arith) in
    let wrong : bits 8 1 word ≡ 1 = field 8 1 0 1 (n * 2 ^ 23) word (omega arith) (omega arith) (omega arith) in
    let lowest : bits 32 32 word ≡ n = field 32 32 (2 ^ 8) n 0 word (omega arith) (omega arith) h in
    rw (none, wrong, lowest)
checked-read (Err k) h = refusal-read _ Err k h

pub checks-apart : OneWord CheckedFits checked_word
checks-apart = one_word CheckedFits checked_word checked_read checked-read

-- ---- look-up

-- the word of a value, a depth and a move, given (1) or not (0), that takes (1) or not (0) and becomes this, and a mark
-- (1) or none (0)
abbrev value_word : ℕ → ℕ → ℕ → ℕ → ℕ → ℕ → ℕ → ℕ → ℕ
value_word value depth given from to takes becomes mark =
    value * 2 ^ 8 + depth * 2 ^ 16 + (given * 2 ^ 24 + from * 2 ^ 32 + to * 2 ^ 40 + takes * 2 ^ 48 + becomes * 2 ^ 56)
    + mark * 2 ^ 25

record ValueBits (value depth given from to takes becomes mark word : ℕ) : Type 0 where
  none : bits 0 8 word ≡ 0
  value-read : bits 8 8 word ≡ value
  depth-read : bits 16 8 word ≡ depth
  given-read : bits 24 1 word ≡ given
  mark-read : bits 25 1 word ≡ mark
  from-read : bits 32 8 word ≡ from
  to_read : bits 40 8 word ≡ to
  takes-read : bits 48 1 word ≡ takes
  becomes-read : bits 56 8 word ≡ becomes

value-bits : (v n g f t x p k : ℕ) → Byte v → Byte n → g < 2 → Byte f → Byte t → x < 2 → Byte p → k < 2
    → ValueBits v n g f t x p k (value_word v n g f t x p k)
value-bits v n g f t x p k hv hn hg hf ht hx hp hk =
    let word = value_word v n g f t x p k in
    let low = v * 2 ^ 8 + n * 2 ^ 16 in
    let lower = low + g * 2 ^ 24 + k * 2 ^ 25 in
    record {
      none = field 0 8 0 0 (v + n * 2 ^ 8 + g * 2 ^ 16 + k * 2 ^ 17 + f * 2 ^ 24 + t * 2 ^ 32 + x * 2 ^ 40 + p * 2 ^ 48)
          word (omega arith) (omega arith) (omega arith);
      value-read = field 8 8 0 v (n + g * 2 ^ 8 + k * 2 ^ 9 + f * 2 ^ 16 + t * 2 ^ 24 + x * 2 ^ 32 + p * 2 ^ 40) word
          (omega arith) (omega arith) hv;
      depth-read = field 16 8 (v * 2 ^ 8) n (g + k * 2 + f * 2 ^ 8 + t * 2 ^ 16 + x * 2 ^ 24 + p * 2 ^ 32) word
          (omega arith) (omega arith) hn;
      given-read =
          field 24 1 low g (k + f * 2 ^ 7 + t * 2 ^ 15 + x * 2 ^ 23 + p * 2 ^ 31) word (omega arith) (omega arith) hg;
      mark-read = field 25 1 (low + g * 2 ^ 24) k (f * 2 ^ 6 + t * 2 ^ 14 + x * 2 ^ 22 + p * 2 ^ 30) word (omega arith)
          (omega arith) hk;
      from-read = field 32 8 lower f (t + x * 2 ^ 8 + p * 2 ^ 16) word (omega arith) (omega arith) hf;
      to_read = field 40 8 (lower + f * 2 ^ 32) t (x + p * 2 ^ 8) word (omega arith) (omega arith) ht;
      takes-read = field 48 1 (lower + f * 2 ^ 32 + t * 2 ^ 40) x (p * 2 ^ 7) word (omega arith) (omega arith) hx;
      becomes-read =
          field 56 8 (lower + f * 2 ^ 32 + t * 2 ^ 40 + x * 2 ^ 48) p 0 word (omega arith) (omega arith) hp;
    }

flag-fits : (x : Bool) → flag_of x < 2
flag-fits true = omega arith
flag-fits false = omega arith

flag-read : (x : Bool) → eqb (flag_of x) 1 ≡ x
flag-read true = refl
flag-read false = refl

-- an answer's word with a mark
abbrev marked : Bool → ℕ → ℕ
marked x word = word + flag_of x * 2 ^ 25

module _ (x : Bool) where
  play-bits : (v n : ℕ) (m : Move) → Byte v → Byte n → AdviceFits (Some m)
      → ValueBits v n 1 m.from m.to (flag_of m.takes) m.becomes (flag_of x)
      (marked x (v * 2 ^ 8 + n * 2 ^ 16 + advice_word (Some m)))
  play-bits v n m hv hn h =
      value-bits v n 1 m.from m.to (flag_of m.takes) m.becomes (flag_of x) hv hn (omega arith) h.0 h.1
      (flag-fits m.takes) (omega (arith, h.2)) (flag-fits x)

  none-bits : (v n : ℕ) → Byte v → Byte n
      → ValueBits v n 0 0 0 0 0 (flag_of x) (marked x (v * 2 ^ 8 + n * 2 ^ 16 + advice_word None))
  none-bits v n hv hn =
      value-bits v n 0 0 0 0 0 (flag_of x) hv hn (omega arith) (omega arith) (omega arith) (omega arith) (omega arith)
      (flag-fits x)

  advice-back : (v n : ℕ) (a : Option Move) → Byte v → Byte n → AdviceFits a
      → advice_read (marked x (v * 2 ^ 8 + n * 2 ^ 16 + advice_word a)) ≡ a
  advice-back v n (Some m) hv hn h =
      let b = play-bits v n m hv hn h in
      rw (b.given-read, b.from-read, b.to_read, b.takes-read, b.becomes-read, flag-read m.takes)
  advice-back v n None hv hn h = let b = none-bits v n hv hn in rw b.given-read

  value-back : (v n : ℕ) (a : Option Move) → Byte v → Byte n → AdviceFits a
      → marked_read (marked x (v * 2 ^ 8 + n * 2 ^ 16 + advice_word a))
      ≡ record { answer = value_read v n a; within_fifty = x }
  value-back v n (Some m) hv hn h =
      let b = play-bits v n m hv hn h in
      rw (
        b.none,
        b.value-read,
        b.depth-read,
        b.given-read,
        b.from-read,
        b.to_read,
        b.takes-read,
        b.becomes-read,
        flag-read m.takes,
        b.mark-read,
        flag-read x,
      )
  value-back v n None hv hn h =
      let b = none-bits v n hv hn in
      rw (b.none, b.value-read, b.depth-read, b.given-read, b.mark-read, flag-read x)

  refused-back : (k : ℕ) → RefusalFits k
      → marked_read (marked x k) ≡ record { answer = Err k; within_fifty = x }
  refused-back k h =
      let low : bits 0 8 (marked x k) ≡ k =
      field 0 8 0 k (flag_of x * 2 ^ 17) (marked x k) (omega arith) (omega arith) h.1 in
      let mark : bits 25 1 (marked x k) ≡ flag_of x =
      field 25 1 k (flag_of x) 0 (marked x k) (omega arith) (omega (arith, h.1)) (flag-fits x) in
      rw (low, ne_eqb k 0 (λ z. omega arith), mark, flag-read x)

  answer_back : (a : Result Answer ℕ) → AnswerFits a
      → marked_read (marked x (answer_word a)) ≡ record { answer = a; within_fifty = x }
  answer_back (Ok (Answer.Win n a)) h = value-back 1 n a (omega arith) h.0 h.1
  answer_back (Ok (Answer.Loss n a)) h = value-back 2 n a (omega arith) h.0 h.1
  answer_back (Ok (Answer.Draw a)) h = value-back 3 0 a (omega arith) (omega arith) h
  answer_back (Err k) h = refused-back k h

  -- the move by itself; a refusal has none
  pub advice-read : (a : Result Answer ℕ) → AnswerFits a → given (advice_read (marked x (answer_word a))) ≡ move_of_answer a
  advice-read (Ok (Answer.Win n a)) h = ap given (advice-back 1 n a (omega arith) h.0 h.1)
  advice-read (Ok (Answer.Loss n a)) h = ap given (advice-back 2 n a (omega arith) h.0 h.1)
  advice-read (Ok (Answer.Draw a)) h = ap given (advice-back 3 0 a (omega arith) (omega arith) h)
  advice-read (Err k) h =
      let none : bits 24 1 (marked x k) ≡ 0 =
      field 24 1 k 0 (flag_of x) (marked x k) (omega arith) (omega (arith, h.1)) (omega arith) in
      rw none

pub marked-read : ReadBack MarkedFits marked_word marked_read
marked-read m h = answer_back m.within_fifty m.answer h

pub marks-apart : OneWord MarkedFits marked_word
marks-apart = one_word MarkedFits marked_word marked_read marked-read

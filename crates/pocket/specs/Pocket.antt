-- The pocket edition of a table (02, P1): what packing and the pocket look-up answer. Definitions only.
use Rattle.std.specs.Prelude.{cond, not, List, ℕ, ◌+◌, ◌*◌, ◌/◌, ◌%◌, ◌^◌, leb, eqb, length, get_or, Err, Ok, Result}
use Rattle.finite.specs.Mapped.{map_from}
use Rattle.position.specs.declared.Position.{Position}
use Rattle.position.specs.Keyed.{board_of}
use Rattle.position.specs.Refusals.{standing_refusal}
use Rattle.numbering.specs.Number.{number_of}
use Rattle.answers.specs.declared.Answer.{Answer}
use Rattle.endings.specs.Ending.{table_size}
use Rattle.pocket.specs.declared.PocketAnswer.{PocketAnswer}

-- "That is 14,784 bytes."
abbrev pub pocket_size : ℕ
pocket_size = 14784

-- "Pack a table to two bits a number: 0 for byte 0, 1 for a draw, 2 for a win, 3 for a loss"; an odd byte from 3 on is a win, an even one from 2 on a
-- loss
unfoldable pub entry_of : ℕ → ℕ
entry_of b = cond (leb b 1) b (cond (eqb (b % 2) 1) 2 3)

-- "number k stands in byte k / 4 at bit 2 x (k mod 4), rounded down"
unfoldable pub entry_at : List ℕ → ℕ → ℕ
entry_at pocket k = get_or pocket (k / 4) 0 / 2 ^ (2 * (k % 4)) % 4

-- ---- packing: "Packing takes any table bytes; refusal 7 covers both lengths and then nothing is written"

-- the byte that holds the numbers 4 x i to 4 x i + 3 so
unfoldable pub packed_byte : List ℕ → ℕ → ℕ
packed_byte t i = entry_of (get_or t (4 * i) 0) + 4 * entry_of (get_or t (4 * i + 1) 0) + 16 * entry_of (get_or t (4 * i + 2) 0) + 64 * entry_of (get_or t (4 * i + 3) 0)

pub record Packing : Type 0 where
  pub answer : Result (Unit {0}) ℕ
  pub bytes : List ℕ

unfoldable pub pack_of : List ℕ → List ℕ → Packing
pack_of t pocket =
    cond (not (eqb (length t) table_size)) (record { answer = Err 7; bytes = pocket })
    (cond (not (eqb (length pocket) pocket_size)) (record { answer = Err 7; bytes = pocket })
    (record { answer = Ok tt; bytes = map_from (λ i b. packed_byte t i) 0 pocket }))

-- ---- what a look-up tells: 01's number of a refusal, and the value

-- "A refusal gives its number and nothing else; any other field is zero." The value is 1 for a win, 2 for a loss and 3 for a draw of the side to move.
pub record Told : Type 0 where
  pub refusal : ℕ
  pub value : ℕ

abbrev pub win : Told
win = record { refusal = 0; value = 1 }

abbrev pub loss : Told
loss = record { refusal = 0; value = 2 }

abbrev pub draw : Told
draw = record { refusal = 0; value = 3 }

abbrev pub refusing : ℕ → Told
refusing n = record { refusal = n; value = 0 }

-- each case of the pocket look-up's answer
abbrev pub told_by : Result PocketAnswer ℕ → Told
told_by (Ok PocketAnswer.Win) = win
told_by (Ok PocketAnswer.Loss) = loss
told_by (Ok PocketAnswer.Draw) = draw
told_by (Err n) = refusing n

-- each case of the large look-up's answer, without its depth and move
abbrev pub told_in : Result Answer ℕ → Told
told_in (Ok (Answer.Win n a)) = win
told_in (Ok (Answer.Loss n a)) = loss
told_in (Ok (Answer.Draw a)) = draw
told_in (Err n) = refusing n

-- ---- looking up: "reads one entry, with refusals 1 to 7, and gives 11 exactly when a legal position's entry is 0"

unfoldable pub entry_tells : ℕ → Told
entry_tells e = cond (eqb e 0) (refusing 11) (cond (eqb e 1) draw (cond (eqb e 2) win loss))

unfoldable pub pocket_look_up_of : List ℕ → Position → Told
pocket_look_up_of pocket p =
    cond (not (eqb (standing_refusal p) 0)) (refusing (standing_refusal p))
    (cond (not (eqb (length pocket) pocket_size)) (refusing 7)
    (entry_tells (entry_at pocket (number_of (board_of p)))))

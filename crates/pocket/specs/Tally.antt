-- The pocket's four tallies (02, P1: "each the exact count of numbers with one of the four entries"). Definitions only.
use Rattle.pocket.specs.declared.Tallies.{Tallies}
use Rattle.std.specs.Prelude.{◌≡◌, Bool, cond, not, List, ℕ, ◌+◌, ◌*◌, ◌^◌, ◌<◌, eqb, length, Err, Ok, Result}
use Rattle.finite.specs.Ranked.{rank}
use Rattle.endings.specs.Ending.{table_size}
use Rattle.pocket.specs.Pocket.{pocket_size, entry_at}
use Rattle.pocket.specs.Digits.{digits}

-- number k has the entry v
abbrev pub holds : List ℕ → ℕ → ℕ → Bool
holds pocket v k = eqb (entry_at pocket k) v

-- how many of the 59,136 numbers have the entry v
unfoldable pub count_of : List ℕ → ℕ → ℕ
count_of pocket v = rank (holds pocket v) table_size

-- 0 for byte 0, 1 for a draw, 2 for a win, 3 for a loss; refusal 7
unfoldable pub tally_of : List ℕ → Result Tallies ℕ
tally_of pocket =
    cond (not (eqb (length pocket) pocket_size)) (Err 7)
    (Ok (record { none = count_of pocket 0; draws = count_of pocket 1; wins = count_of pocket 2; losses = count_of pocket 3 }))

-- ---- counting by words

-- w has the entries of the n bytes from i on: each entry is counted as often among its digits
pub record Part (pocket : List ℕ) (i n w : ℕ) : Type 0 where
  pub fits : w < 4 ^ (4 * n)
  pub entries : (v : ℕ) → rank (holds pocket v) (4 * (i + n)) ≡ rank (holds pocket v) (4 * i) + digits v (4 * n) w

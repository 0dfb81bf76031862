-- What filling promises of its answer and of the bytes that it leaves. Definitions only.
use Rattle.std.specs.Prelude.{◌≡◌, List, ℕ, ◌<◌, ◌≤◌, T, length, get_or, Ok, Err, Result, Some, None, Option}
use Rattle.theory.specs.Value.{DepthIs}
use Rattle.rules.specs.Rules.{Board, legal}
use Rattle.rules.specs.Chess.{chess}
use Rattle.endings.specs.Ending.{Lone, table_size}
use Rattle.endings.specs.Truth.{TrueTable}
use Rattle.endings.specs.Answers.{Fill, fill_of}

-- a legal board of the ending is decided in depth n
abbrev pub Decided : ℕ → ℕ → Type 0
Decided kind n = (b : Board) × T (legal b) × Lone kind b × DepthIs chess n b

-- none is deeper than a byte holds
abbrev pub Shallow : ℕ → Type 0
Shallow kind = (n : ℕ) → 253 < n → Decided kind n → ⊥

-- What filling promises of its answer and of the table's bytes, where 1 and 7 do not refuse.
pub data FillTrue (kind : ℕ) (f : Fill) : Type 0 where
  greatest : (n : ℕ) → f.answer ≡ Ok (Some n) → TrueTable kind f.bytes → Decided kind n → ((m : ℕ) → Decided kind m → m ≤ n) → n ≤ 253 → FillTrue kind f
  none-decided : f.answer ≡ Ok None → TrueTable kind f.bytes → ((n : ℕ) → Decided kind n → ⊥) → FillTrue kind f
  too-deep : f.answer ≡ Err 10 → ((n : ℕ) → get_or f.bytes n 0 ≡ 0) → (n : ℕ) → 253 < n → Decided kind n → FillTrue kind f

-- What filling promises on any input: its answer and the table's bytes by their definition, and beside it what is true of them. "1 and 7 leave it
-- untouched; 10 leaves it all zero."
pub record FillPromise (kind : ℕ) (t : List ℕ) (answer : Result (Option ℕ) ℕ) (bytes : List ℕ) : Type 0 where
  pub answered : answer ≡ (fill_of kind t).answer
  pub left : bytes ≡ (fill_of kind t).bytes
  pub refused-1 : 4 ≤ kind → (answer ≡ Err 1) × (bytes ≡ t)
  pub refused-7 : kind < 4 → (length t ≡ table_size → ⊥) → (answer ≡ Err 7) × (bytes ≡ t)
  pub else-true : kind < 4 → length t ≡ table_size → FillTrue kind (record { answer = answer; bytes = bytes })

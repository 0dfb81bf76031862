-- A table over numbered positions of any game: what its bytes stand for, when it is accepted, when it is true, and filling it by passes
-- (01, "Values and the table's bytes"). One set of definitions for every size of table. Definitions only.
use Rattle.std.specs.Prelude.{◌≡◌, Bool, false, cond, not, ◌&&◌, List, ℕ, zero, suc, ◌+◌, ◌<◌, T, eqb, get_or}
use Rattle.finite.specs.Members.{◌∈◌}
use Rattle.finite.specs.Below.{all_below}
use Rattle.finite.specs.Mapped.{map_from}
use Rattle.theory.specs.Game.{Game, next}
use Rattle.theory.specs.Value.{TrueByte}
use Rattle.theory.specs.Required.{required_at, Closed}
use Rattle.theory.specs.Alike.{Alike}

-- How the positions of a table are numbered: below `size`, one number for each class of positions that go alike, `at` giving one position of it. A
-- position without a number (after a capture) is read elsewhere. No law is asked here, so that tables that nobody accepted yet may be read there.
pub record Numbering (G : Game) : Type 0 where
  pub size : ℕ
  pub inside : G.Pos → Bool  -- the position has a number
  pub number : G.Pos → ℕ
  pub at : ℕ → G.Pos
  pub live : ℕ → Bool  -- the number is used, and its position is legal
  pub outer : G.Pos → ℕ  -- the byte of a position without a number

-- The laws of a numbering: the positions D, closed under moves, have live numbers that lead back to a position that goes alike, and a move from a
-- position without a number leads to another such.
pub record Lawful (G : Game) (N : Numbering G) : Type 1 where
  pub D : G.Pos → Type 0
  pub closed : Closed G D
  pub number-live : (p : G.Pos) → D p → T (N.inside p) → (N.number p < N.size) × T (N.live (N.number p))
  pub live_at : (n : ℕ) → n < N.size → T (N.live n) → D (N.at n) × T (N.inside (N.at n)) × (N.number (N.at n) ≡ n)
  pub outer-next : (p q : G.Pos) → D p → N.inside p ≡ false → q ∈ next G p → N.inside q ≡ false
  pub Same : G.Pos → G.Pos → Type 0  -- the positions go alike
  pub alike : Alike G G Same
  pub same-inside : (p q : G.Pos) → Same p q → N.inside p ≡ N.inside q
  pub same_number : (p q : G.Pos) → Same p q → T (N.inside p) → N.number p ≡ N.number q
  pub same-outer : (p q : G.Pos) → Same p q → N.inside p ≡ false → N.outer p ≡ N.outer q
  pub same_at : (p : G.Pos) → D p → T (N.inside p) → Same p (N.at (N.number p))

-- what is read elsewhere is true
abbrev pub OuterTrue : (G : Game) (N : Numbering G) → Lawful G N → Type 0
OuterTrue G N L = (p : G.Pos) → L.D p → N.inside p ≡ false → TrueByte G p (N.outer p)

-- How filling ends: no position is decided (which is not depth 0), or the greatest depth, or a depth above 253.
pub data Result : Type 0 where
  undecided : Result
  deepest : ℕ → Result
  too_deep : Result

pub record Outcome : Type 0 where
  pub result : Result
  pub bytes : List ℕ

-- pass k settled nothing, and those before it did
abbrev pub ended : ℕ → Result
ended zero = undecided
ended (suc k) = deepest k

module _ (G : Game) (N : Numbering G) where
  -- the byte that the table t gives for a position
  unfoldable pub reads : List ℕ → G.Pos → ℕ
  reads t p = cond (N.inside p) (get_or t (N.number p) 0) (N.outer p)

  -- the byte required at number n: what the rule requires of the successors' bytes; 0 where unused or illegal
  unfoldable pub required_byte : List ℕ → ℕ → ℕ
  required_byte t n = cond (N.live n) (required_at G (reads t) (N.at n)) 0

  unfoldable pub wrong_at : List ℕ → ℕ → Bool
  wrong_at t n = not (eqb (get_or t n 0) (required_byte t n))

  -- The table is accepted: no byte is wrong.
  abbrev pub Accepted : List ℕ → Type 0
  Accepted t = (n : ℕ) → n < N.size → wrong_at t n ≡ false

  -- The table is true: at each legal position's number stands its true byte, and 0 elsewhere.
  pub record True (t : List ℕ) : Type 0 where
    pub legal-true : (n : ℕ) → n < N.size → T (N.live n) → TrueByte G (N.at n) (get_or t n 0)
    pub others-zero : (n : ℕ) → n < N.size → N.live n ≡ false → get_or t n 0 ≡ 0

  -- ---- filling

  -- before the first pass: 1 at each legal position's number, 0 elsewhere
  abbrev pub start_byte : ℕ → ℕ → ℕ
  start_byte n b = cond (N.live n) 1 0

  -- pass k settles number n: it holds 1, is legal, and depth k is required there
  unfoldable pub settles : ℕ → List ℕ → ℕ → Bool
  settles k t n = eqb (get_or t n 0) 1 && (N.live n && eqb (required_at G (reads t) (N.at n)) (2 + k))

  -- the byte after pass k
  abbrev pub pass_byte : ℕ → List ℕ → ℕ → ℕ → ℕ
  pass_byte k t n b = cond (settles k t n) (2 + k) b

  unfoldable pub passed : ℕ → List ℕ → List ℕ
  passed k t = map_from (pass_byte k t) 0 t

  -- pass k settles some number
  unfoldable pub some_settles : ℕ → List ℕ → Bool
  some_settles k t = not (all_below (λ n. not (settles k t n)) N.size)

  -- Passes from pass k on, until one settles nothing, which ends with greatest depth k - 1. Where pass 254 would settle a number, a depth
  -- exceeds 253: the table is cleared. `left` is 254 - k.
  unfoldable pub passes_from : ℕ → ℕ → List ℕ → Outcome
  passes_from zero k t = cond (some_settles k t) (record { result = too_deep; bytes = map_from (λ n b. 0) 0 t }) (record { result = ended k; bytes = t })
  passes_from (suc left) k t = cond (some_settles k t) (passes_from left (suc k) (passed k t)) (record { result = ended k; bytes = t })

  -- filling: all numbers set to their starting byte, then passes
  unfoldable pub filled : List ℕ → Outcome
  filled t = passes_from 254 0 (map_from start_byte 0 t)

-- A pass that tries some numbers only, in any order (02, P11): the bytes while it goes on. Definitions only.
use Rattle.std.specs.Prelude.{◌≡◌, false, ◌&&◌, ◌⊎◌, List, ℕ, ◌+◌, ◌<◌, T, eqb, length, get_or}
use Rattle.finite.specs.Ranked.{rank}
use Rattle.theory.specs.Game.{Game}
use Rattle.table_theory.specs.Tables.{Numbering, settles}

-- u is the table t while pass k goes on: each byte as it was, or settled
pub record Midway (G : Game) (N : Numbering G) (k : ℕ) (t u : List ℕ) : Type 0 where
  pub long : length u ≡ length t
  pub byte : (n : ℕ) → (get_or u n 0 ≡ get_or t n 0) ⊎ (T (settles G N k t n) × (get_or u n 0 ≡ 2 + k))

-- how many numbers that pass k settles still hold 1
unfoldable pub left_over : (G : Game) (N : Numbering G) → ℕ → List ℕ → List ℕ → ℕ
left_over G N k t u = rank (λ n. settles G N k t n && eqb (get_or u n 0) 1) N.size

-- from u to v some of them were settled: so many
pub record Went (G : Game) (N : Numbering G) (k : ℕ) (t u v : List ℕ) (did : ℕ) : Type 0 where
  pub midway : Midway G N k t v
  pub ones : (n : ℕ) → get_or v n 0 ≡ 1 → get_or u n 0 ≡ 1
  pub count : did + left_over G N k t v ≡ left_over G N k t u

-- the number is settled, if pass k settles it
abbrev pub Tried : (G : Game) (N : Numbering G) → ℕ → List ℕ → List ℕ → ℕ → Type 0
Tried G N k t v n = T (settles G N k t n) → get_or v n 0 ≡ 1 → ⊥

-- no byte but 0 stands at a number that is not live
abbrev pub Alive : (G : Game) (N : Numbering G) → List ℕ → Type 0
Alive G N t = (n : ℕ) → (get_or t n 0 ≡ 0 → ⊥) → T (N.live n)

-- below depth k nothing is left to settle
pub record Ready (G : Game) (N : Numbering G) (k : ℕ) (t : List ℕ) : Type 0 where
  pub settled : (j n : ℕ) → j < k → settles G N j t n ≡ false
  pub alive : Alive G N t

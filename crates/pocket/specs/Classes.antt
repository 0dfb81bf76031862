-- The classes of a table's bytes that a pocket tells apart: 0, a draw, a win (3, 5, .. 255) and a loss (2, 4, .. 254). Definitions only.
use Rattle.std.specs.Prelude.{◌≡◌, Bool, ◌&&◌, ◌↔◌, List, ℕ, ◌%◌, leb, eqb, get_or}
use Rattle.finite.specs.Ranked.{rank}
use Rattle.theory.specs.Required.{Win, Loss}
use Rattle.endings.specs.Ending.{table_size}

-- the entry e tells the class of the byte b
pub record Class (b e : ℕ) : Type 0 where
  pub none : (e ≡ 0) ↔ (b ≡ 0)
  pub draw : (e ≡ 1) ↔ (b ≡ 1)
  pub win : (e ≡ 2) ↔ Win b
  pub loss : (e ≡ 3) ↔ Loss b

-- a loss's byte; a win's is `winning`
abbrev pub losing : ℕ → Bool
losing b = leb 2 b && eqb (b % 2) 0

-- how many of a table's bytes pass a test
abbrev pub bytes_that : (ℕ → Bool) → List ℕ → ℕ
bytes_that ok t = rank (λ n. ok (get_or t n 0)) table_size

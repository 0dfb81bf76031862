-- What the laws of the same name speak of. Definitions only.
use Rattle.std.specs.Prelude.{◌≡◌, Bool, false, cond, List, ℕ, ◌+◌, ◌/◌, ◌<◌, ◌≤◌, T, eqb, length, get_or}
use Rattle.finite.specs.Members.{◌∈◌}
use Rattle.table_theory.specs.Tables.{Numbering, settles}
use Rattle.rules.specs.Chess.{chess}
use Rattle.position.specs.declared.Men.{Men}
use Rattle.position.specs.Posed.{material_for}
use Rattle.numbering.specs.declared.Material.{Material}
use Rattle.numbering.specs.Material.{known}
use Rattle.four_men.specs.Lending.{Lent, lent, borrowed}

-- the byte stands at no number from `from` on, below `to`
pub record Absent (t : List ℕ) (byte from to : ℕ) : Type 0 where
  pub none : (m : ℕ) → from ≤ m → m < to → get_or t m 0 ≡ byte → ⊥

-- Pass k settles nothing for want of a successor from `from` on, below `to`, or in a lent table from `low` on, below
-- `high`: the men are pieces, k is not 0, and depth k - 1 stands at none of them.
pub record Quiet (m : Material) (l : Lent) (k : ℕ) (t : List ℕ) (from to low high : ℕ) : Type 0 where
  pub pieces : T (known m)
  pub later : 0 < k
  pub absent : Absent t (1 + k) from to
  pub lent : (u : List ℕ) → u ∈ borrowed m l → Absent u (1 + k) low high

-- Where a man left alone has his number in his table: with men of one side he is White's, and the other side is to
-- move; of rivals anywhere.
abbrev pub low_of : Men → ℕ
low_of m = cond (eqb m.colour 0) 29568 0

abbrev pub high_of : Men → ℕ
high_of m = cond (eqb m.colour 0) 29568 59136

-- a half that is left out, White to move or Black, has no number that pass k settles
pub record QuietHalves (m : Men) (first second : List ℕ) (k : ℕ) (t : List ℕ) (white black : Bool) : Type 0 where
  pub in-white : white ≡ false → Quiet (material_for m) (lent first second) k t (length t / 2) (length t) (low_of m) 59136
  pub in-black : black ≡ false → Quiet (material_for m) (lent first second) k t 0 (length t / 2) 0 (high_of m)

-- pass k settles no number below `from`, nor from `to` on
pub record QuietOutside (N : Numbering chess) (k : ℕ) (t : List ℕ) (from to : ℕ) : Type 0 where
  pub within : (from ≤ to) × (to ≤ length t)
  pub below : (n : ℕ) → n < from → settles chess N k t n ≡ false
  pub above : (n : ℕ) → to ≤ n → n < length t → settles chess N k t n ≡ false

-- What the laws of the same name speak of. Definitions only.
use Rattle.std.specs.Prelude.{◌≡◌, false, cond, List, ℕ, ◌<◌, T, ltb, Ok, Result}
use Rattle.finite.specs.Lowest.{lowest}
use Rattle.table_theory.specs.Tables.{wrong_at}
use Rattle.rules.specs.Chess.{chess}
use Rattle.numbering.specs.declared.Material.{Material}
use Rattle.numbering.specs.Material.{given, size_of}
use Rattle.answers.specs.declared.Checked.{Checked}
use Rattle.position.specs.declared.Men.{Men}
use Rattle.position.specs.Posed.{material_for}
use Rattle.four_men.specs.Lending.{Lent}
use Rattle.four_men.specs.Reading.{numbered}

-- the men of an ending that there is
pub record Own (m : Men) : Type 0 where
  pub ending : T (given (material_for m))
  pub colour : m.colour < 2

-- a number of its table, and the table's length
abbrev pub Numbers : Men → ℕ → Type 0
Numbers m n = Own m × (n < size_of (material_for m))

abbrev pub Ended : Men → ℕ → Type 0
Ended m n = Own m × (n ≡ size_of (material_for m))

-- the bytes below n are right
abbrev pub RightBelow : Material → Lent → List ℕ → ℕ → Type 0
RightBelow m l t n = (k : ℕ) → k < n → wrong_at chess (numbered m l) t k ≡ false

-- "It accepts, or names the lowest wrong number", no refusal applying
unfoldable pub found : Material → Lent → List ℕ → Result Checked ℕ
found m l t =
    let low = lowest (wrong_at chess (numbered m l) t) (size_of m) in
    cond (ltb low (size_of m)) (Ok (Checked.Wrong low)) (Ok Checked.Accepted)

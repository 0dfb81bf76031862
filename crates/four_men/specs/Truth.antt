-- A true table, and what filling promises, for one man and for two (demand 2). Definitions only.
use Rattle.std.specs.Prelude.{◌≡◌, false, List, ℕ, ◌<◌, ◌≤◌, T, get_or, Err, None, Ok, Result, Some}
use Rattle.finite.specs.Members.{◌∈◌}
use Rattle.theory.specs.Value.{DepthIs, TrueByte}
use Rattle.rules.specs.Rules.{Board}
use Rattle.rules.specs.Chess.{chess}
use Rattle.answers.specs.declared.Answer.{Answer}
use Rattle.endings.specs.Answers.{Fill}
use Rattle.endings.specs.Truth.{TrueAnswerBy}
use Rattle.numbering.specs.declared.Material.{Material}
use Rattle.numbering.specs.Material.{OfMaterial, material_in, legal_in, size_of}
use Rattle.index.specs.Endings.{number_in, normal_in, map_in}
use Rattle.four_men.specs.Lending.{Lent, borrowed}
use Rattle.four_men.specs.Reading.{legal_number_of}

-- Every legal position's byte is its true value and depth, and every byte of an unused number or illegal position is 0.
pub record TrueTableOf (m : Material) (t : List ℕ) : Type 0 where
  pub legal-true : (b : Board) → T (legal_in m b) → OfMaterial m b → TrueByte chess b (get_or t (number_in m b) 0)
  pub others-zero : (n : ℕ) → n < size_of m → legal_number_of m n ≡ false → get_or t n 0 ≡ 0

-- an answer true of a board, its move chosen on the normal board of the board's own ending
abbrev pub TrueAnswerIn : Board → Result Answer ℕ → Type 0
TrueAnswerIn b = TrueAnswerBy (map_in (material_in b.men)) (normal_in (material_in b.men)) b

-- a legal board of the ending is decided in depth n
abbrev pub DecidedOf : Material → ℕ → Type 0
DecidedOf m n = (b : Board) × T (legal_in m b) × OfMaterial m b × DepthIs chess n b

-- What filling promises where 1, 7 and 17 do not refuse: "the greatest depth is the greatest that its steps have
-- settled, or none decided".
pub data FillTrueOf (m : Material) (f : Fill) : Type 0 where
  greatest : (n : ℕ) → f.answer ≡ Ok (Some n) → TrueTableOf m f.bytes → DecidedOf m n → ((k : ℕ) → DecidedOf m k → k ≤ n) → n ≤ 253 → FillTrueOf m f
  none-decided : f.answer ≡ Ok None → TrueTableOf m f.bytes → ((n : ℕ) → DecidedOf m n → ⊥) → FillTrueOf m f
  too-deep : f.answer ≡ Err 10 → ((n : ℕ) → get_or f.bytes n 0 ≡ 0) → (n : ℕ) → 253 < n → DecidedOf m n → FillTrueOf m f

-- what is lent is bytes
abbrev pub LentBytes : Material → Lent → Type 0
LentBytes m l = (t : List ℕ) → t ∈ borrowed m l → (n : ℕ) → get_or t n 0 < 256

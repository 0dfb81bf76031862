-- How boards of an ending and of what its captures leave are read: through its own table and the lent ones. Definitions
-- only.
use Rattle.std.specs.Prelude.{◌≡◌, Bool, true, false, cond, not, ◌&&◌, ◌⊎◌, List, [], ◌∷◌, ℕ, ◌+◌, ◌<◌, T, leb, eqb}
use Rattle.finite.specs.Members.{any}
use Rattle.table_theory.specs.Tables.{Numbering}
use Rattle.rules.specs.declared.Piece.{Piece}
use Rattle.rules.specs.Pawn.{pawn}
use Rattle.rules.specs.Rules.{Board, empty}
use Rattle.rules.specs.Chess.{chess}
use Rattle.endings.specs.Ending.{Lone, byte_of}
use Rattle.numbering.specs.declared.Material.{Material}
use Rattle.numbering.specs.Material.{OfMaterial, legal_in, size_of}
use Rattle.index.specs.Endings.{number_in, board_for, used_in}
use Rattle.four_men.specs.Lending.{Lent, part_of}

-- what captures leave, and promotions: bare kings, or one man alone
abbrev pub Fewer : Material → Board → Type 0
Fewer (Material.One kind) b = b.men ≡ []
Fewer (Material.Two first second rivals) b = (b.men ≡ []) ⊎ (Lone first b ⊎ Lone second b)
Fewer Material.Pawn b = (b.men ≡ []) ⊎ ((kind : ℕ) × (kind < 4) × Lone kind b)

-- the legal boards of the ending, and what its captures leave, "until bare kings"
pub record Within (m : Material) (b : Board) : Type 0 where
  pub legality : T (legal_in m b)
  pub men : OfMaterial m b ⊎ Fewer m b

-- no man of the ending has been taken, nor its pawn promoted
abbrev pub full : Material → List Piece → Bool
full (Material.One kind) men = not (empty men)
full (Material.Two first second rivals) [] = false
full (Material.Two first second rivals) (a ∷ []) = false
full (Material.Two first second rivals) (a ∷ c ∷ l) = true
full Material.Pawn [] = false
full Material.Pawn (a ∷ l) = pawn a

-- "a man left alone counts as the first and is looked up in its own ending's table": the lent table of his kind
abbrev pub lent_for : ℕ → Lent → ℕ → List ℕ
lent_for first l kind = cond (eqb kind first) l.first l.second

abbrev pub lent_to : ℕ → Lent → List Piece → List ℕ
lent_to first l [] = l.first
lent_to first l (a ∷ men) = lent_for first l a.kind

-- a promoted pawn is looked up in the table of what it has become
abbrev pub part_for : Lent → List Piece → List ℕ
part_for l [] = []
part_for l (a ∷ men) = part_of a.kind l.first

-- the byte of what a capture or a promotion leaves; bare kings are a draw and are not looked up
abbrev pub lent_byte : Material → Lent → Board → ℕ
lent_byte (Material.One kind) l b = 1
lent_byte (Material.Two first second rivals) l b = byte_of (lent_to first l b.men) b
lent_byte Material.Pawn l b = byte_of (part_for l b.men) b

-- the number is used and its position legal: its byte is not 0
unfoldable pub legal_number_of : Material → ℕ → Bool
legal_number_of m n = used_in m n && legal_in m (board_for m n)

-- the ending's boards, numbered over lent tables of any bytes
unfoldable pub numbered : Material → Lent → Numbering chess
numbered m l = record {
  size = size_of m;
  inside = λ b. full m b.men;
  number = number_in m;
  at = board_for m;
  live = legal_number_of m;
  outer = lent_byte m l;
}

-- a table of these holds a depth of k or more
unfoldable pub holds_depth : List (List ℕ) → ℕ → Bool
holds_depth tables k = any (λ t. any (λ b. leb (2 + k) b) t) tables

-- Boards that go alike: a map, the men in the other order, the colours exchanged where that is allowed (01; 02, P9 and
-- P10). Definitions only.
use Rattle.std.specs.Prelude.{◌≡◌, Bool, true, List, [], ◌∷◌, T}
use Rattle.rules.specs.declared.Piece.{Piece}
use Rattle.rules.specs.Rules.{Board}
use Rattle.rules.specs.Changed.{changed}
use Rattle.rules.specs.Reordered.{reordered}
use Rattle.rules.specs.Reordered.{LegalFew}
use Rattle.numbering.specs.Men.{exchangeable}
use Rattle.numbering.specs.Change.{Change}

-- the colours may be exchanged: not with like kinds one each; with bare kings they may
unfoldable pub free : List Piece → Bool
free [] = true
free (a ∷ l) = exchangeable (a ∷ l)

abbrev pub changed_as : Change → Board → Board
changed_as s b = changed s.symmetry s.colours (reordered s.order b)

abbrev pub Same : Board → Board → Type 0
Same b c = (s : Change) × LegalFew b × (T s.colours → T (free b.men)) × (c ≡ changed_as s b)

-- there is a man
abbrev pub Manned : List Piece → Type 0
Manned [] = ⊥
Manned (a ∷ l) = Unit {0}

-- Where two maps make a board normal (02, P5 and P10). Definitions only.
use Rattle.std.specs.Prelude.{Bool, false, ◌&&◌, ◌||◌, List, [], ◌∷◌, eqb}
use Rattle.finite.specs.Members.{all}
use Rattle.symmetry.specs.Symmetry.{Symmetry, mapped, inverse, composed, exchange}
use Rattle.rules.specs.declared.Piece.{Piece}
use Rattle.rules.specs.Rules.{Board}
use Rattle.numbering.specs.Kings.{on_diagonal}
use Rattle.numbering.specs.Men.{like}
use Rattle.numbering.specs.Number.{normal_by, normalised}

-- two like men, each where the exchange of file and rank puts the other
unfoldable pub facing : List Piece → Bool
facing [] = false
facing (a ∷ []) = false
facing (a ∷ c ∷ []) = like (a ∷ c ∷ []) && eqb (mapped exchange a.square) c.square
facing (a ∷ c ∷ d ∷ l) = false

-- kings and men all stand on the diagonal; or the kings do, and like men mirror each other
unfoldable pub aligned : Board → Bool
aligned b =
    on_diagonal b.white && (on_diagonal b.black && (all (λ a. on_diagonal a.square) b.men || facing b.men))

-- two maps fit: the exchange of file and rank leaves the normal board as it is, like men in either order
unfoldable pub two_fit : Board → Bool
two_fit b = aligned (normalised b)

-- that exchange on the board as it stands: the map by which it is made normal, the exchange, and back
unfoldable pub mirror : Board → Symmetry
mirror b = composed (composed (normal_by b) exchange) (inverse (normal_by b))

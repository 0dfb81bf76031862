-- Two men are pieces, and one of them left alone is read in a lent table.
use Rattle.std.specs.Prelude.{◌≡◌, Bool, true, false, cond, List, [], ◌∷◌, ℕ, ◌<◌, T, eqb, get_or}
use Rattle.std.proofs.Common.{ap, subst, ◌∙◌, arith}
use Rattle.std.proofs.Math.Path.{subst⁻¹}
use Rattle.std.proofs.lemmas.Bool.{lt-leb}
use Rattle.rules.specs.declared.Piece.{Piece}
use Rattle.rules.specs.Rules.{Board, piece_of, empty}
use Rattle.numbering.specs.declared.Material.{Material}
use Rattle.numbering.specs.Number.{number_of}
use Rattle.numbering.specs.Material.{known, given}
use Rattle.position.specs.declared.Men.{Men}
use Rattle.position.specs.Posed.{material_for}
use Rattle.index.proofs.laws.SeatLaws.{known_two}
use Rattle.index.proofs.laws.PlaceLaws.{material-by}
use Rattle.endings.specs.Ending.{byte_of}
use Rattle.four_men.specs.Lending.{Lent}
use Rattle.four_men.specs.Reading.{lent_for, lent_to, lent_byte}
use Rattle.retracting.specs.Retracting.{lone_of}
use Rattle.working_back.specs.Admitted.{Admitted}

-- two men are pieces
pub two-known : (m : Men) → T (given (material_for m)) → m.second < 4 → T (known (material_for m))
two-known m w h =
    let e = material-by m false (lt-leb 4 m.second h) in
    subst⁻¹ (λ (x : Material). T (known x)) e (subst (λ (x : Material). T (given x)) e w)

pub kinds-small : (m : Men) (first second t : List ℕ) → Admitted m first second t → m.second < 4 → (taken : ℕ) → (lone_of m taken).first < 4
kinds-small m first second t a h taken =
    let z = known_two m (two-known m a.ending h) (lt-leb 4 m.second h) in go (eqb taken 1) (omega (arith, z.0, h)) h
  where
    go : (x : Bool) → m.first < 4 → m.second < 4 → cond x m.second m.first < 4
    go true f s = s
    go false f s = f

-- a man left alone is read at his number, in his table
pub lone-read : (m : Men) (l : Lent) (M : Material) (kind colour s : ℕ) (c : Board)
    → M ≡ Material.Two m.first m.second (eqb m.colour 1) → c.men ≡ piece_of kind colour s ∷ []
    → lent_byte M l c ≡ get_or (lent_for m.first l kind) (number_of c) 0
unfolding byte_of
lone-read m l M kind colour s c e f =
    ap (λ (x : Material). lent_byte x l c) e
    ∙ ap (λ (x : List Piece). cond (empty x) 1 (get_or (lent_to m.first l x) (number_of c) 0)) f

-- The men of a material: which boards have it, that there are twenty of two men, and how many numbers each has.
use Rattle.std.specs.Prelude.{◌≡◌, refl, Bool, true, false, cond, not, ◌⊎◌, ℕ, ◌*◌, ◌≤◌, ◌<◌, min, max, T, eqb, leb, ltb, length}
use Rattle.std.proofs.Common.{ap, ap₂, ◌∙◌, inl, inr, arith, leb→le, ltb→lt, eq-eqb}
use Rattle.std.proofs.Math.Path.{subst⁻¹}
use mathlib.Core.List.{List, [], ◌∷◌, flat_map}
use Rattle.finite.specs.Truth.{and_left, le-or-lt}
use Rattle.finite.specs.Filter.{filter}
use Rattle.rules.specs.declared.Piece.{Piece}
use Rattle.rules.specs.Rules.{Board, piece_of}
use Rattle.rules.specs.Reordered.{Few}
use Rattle.numbering.specs.Keys.{spread}
use Rattle.numbering.specs.Men.{material_of}
use Rattle.numbering.specs.declared.Material.{Material}
use Rattle.numbering.specs.Material.{known, given, one_of, men_of, OfMaterial, material_in, size_of}
use Rattle.numbering.proofs.laws.MaterialLaws.{one_piece}
use Rattle.endings.specs.Ending.{Lone}
use Rattle.four_men.specs.Reading.{full}
use Rattle.four_men.specs.Same.{Manned}

-- ---- twenty of two men

abbrev kinds : List ℕ
kinds = 0 ∷ 1 ∷ 2 ∷ 3 ∷ []

abbrev pairs : List Material
pairs = flat_map (λ j. flat_map (λ k. Material.Two j k false ∷ Material.Two j k true ∷ []) kinds) kinds

pub twenty : length (filter known pairs) ≡ 20
unfolding filter flat_map
twenty = refl

-- ---- numbers: (2 sides x 462 pairs) x 64 for each man

pub size_is : (m : Material) → T (known m) → 924 * spread (men_of m) ≡ size_of m
unfolding spread
size_is (Material.One kind) t = refl
size_is (Material.Two first second rivals) t = refl
size_is Material.Pawn t = absurd t

-- ---- the men of a board of the material

rivals-are : (x r : Bool) → ◌≡◌ {A = ℕ} (cond x 0 1) (cond r 1 0) → not x ≡ r
rivals-are true true e = absurd (omega arith)
rivals-are true false e = refl
rivals-are false true e = refl
rivals-are false false e = absurd (omega arith)

are-rivals : (x r : Bool) → not x ≡ r → ◌≡◌ {A = ℕ} (cond x 0 1) (cond r 1 0)
are-rivals true true e = absurd (let z : ◌≡◌ {A = ℕ} 0 1 = cc in omega arith)
are-rivals true false e = refl
are-rivals false true e = refl
are-rivals false false e = absurd (let z : ◌≡◌ {A = ℕ} 0 1 = cc in omega arith)

-- one man of the kind
pub one-of : (kind : ℕ) (l : List Piece) → material_of l ≡ men_of (Material.One kind)
    → (a : Piece) × (l ≡ a ∷ []) × (a.kind ≡ kind)
unfolding material_of
one-of kind [] e = let z : ◌≡◌ {A = ℕ} 0 1 = cc in absurd (omega arith)
one-of kind (a ∷ []) e =
    let u : piece_of a.kind 0 0 ≡ piece_of kind 0 0 = cc in (a, refl, ap (λ (m : Piece). m.kind) u)
one-of kind (a ∷ c ∷ []) e = let z : ◌≡◌ {A = ℕ} 0 1 = cc in absurd (omega arith)
one-of kind (a ∷ c ∷ d ∷ l) e = let z : ◌≡◌ {A = ℕ} 0 1 = cc in absurd (omega arith)

pub lone-material : (kind : ℕ) (b : Board) → Lone kind b → OfMaterial (Material.One kind) b
unfolding material_of
lone-material kind b w = ap material_of w.1.1

-- Two men are of a material exactly where their kinds are its kinds, in either order, and they are of one side or of
-- two as it says, whichever side: "P9's exchange serves the rest, two black men too".
pub record Both (first second : ℕ) (rivals : Bool) (a c : Piece) : Type 0 where
  pub least : min a.kind c.kind ≡ first
  pub greatest : max a.kind c.kind ≡ second
  pub sides : not (eqb a.colour c.colour) ≡ rivals

pub two-of : (j k : ℕ) (r : Bool) (l : List Piece) → material_of l ≡ men_of (Material.Two j k r)
    → (a : Piece) × (c : Piece) × (l ≡ a ∷ c ∷ []) × Both j k r a c
unfolding material_of
two-of j k r [] e = let z : ◌≡◌ {A = ℕ} 0 1 = cc in absurd (omega arith)
two-of j k r (a ∷ []) e = let z : ◌≡◌ {A = ℕ} 0 1 = cc in absurd (omega arith)
two-of j k r (a ∷ c ∷ []) e =
    let u : piece_of (min a.kind c.kind) 0 0 ≡ piece_of j 0 0 = cc in
    let v : piece_of (max a.kind c.kind) (cond (eqb a.colour c.colour) 0 1) 0 ≡ piece_of k (cond r 1 0) 0 =
    cc in (
      a,
      c,
      refl,
      record {
        least = ap (λ (m : Piece). m.kind) u;
        greatest = ap (λ (m : Piece). m.kind) v;
        sides = rivals-are (eqb a.colour c.colour) r (ap (λ (m : Piece). m.colour) v);
      },
    )
two-of j k r (a ∷ c ∷ d ∷ l) e = let z : ◌≡◌ {A = ℕ} 0 1 = cc in absurd (omega arith)

pub of_two : (j k : ℕ) (r : Bool) (a c : Piece) → Both j k r a c
    → material_of (a ∷ c ∷ []) ≡ men_of (Material.Two j k r)
unfolding material_of
of_two j k r a c w = rw (w.least, w.greatest, are-rivals (eqb a.colour c.colour) r w.sides)

-- each of the two has one of the kinds
pub both-kinds : (j k : ℕ) (r : Bool) (a c : Piece) → Both j k r a c
    → ((a.kind ≡ j) ⊎ (a.kind ≡ k)) × ((c.kind ≡ j) ⊎ (c.kind ≡ k))
both-kinds j k r a c w = go w.least w.greatest (le-or-lt a.kind c.kind)
  where
    go : min a.kind c.kind ≡ j → max a.kind c.kind ≡ k → (a.kind ≤ c.kind) ⊎ (c.kind < a.kind)
        → ((a.kind ≡ j) ⊎ (a.kind ≡ k)) × ((c.kind ≡ j) ⊎ (c.kind ≡ k))
    go p q (inl h) = (inl (omega arith), inr (omega arith))
    go p q (inr h) = (inr (omega arith), inl (omega arith))

-- ---- a material is its own, is found from the men, and has two men at most

pub own-material : (m : Material) → T (known m) → material_of (men_of m) ≡ men_of m
unfolding material_of
own-material (Material.One kind) t = refl
own-material (Material.Two j k r) t =
    let h = leb→le j k (and_left (leb j k) (ltb k 4) t) in
    of_two j k r (piece_of j 0 0) (piece_of k (cond r 1 0) 0)
    (record { least = omega arith; greatest = omega arith; sides = side r })
  where
    side : (r : Bool) → not (eqb 0 (cond r 1 0)) ≡ r
    side true = refl
    side false = refl
own-material Material.Pawn t = refl

pub material-in : (m : Material) → T (given m) → (l : List Piece) → material_of l ≡ men_of m → material_in l ≡ m
material-in (Material.One kind) t l e =
    let w = one-of kind l e in ap material_in w.1 ∙ ap one_of w.2 ∙ one_piece kind (ltb→lt kind 4 t)
material-in Material.Pawn t l e = let w = one-of 4 l e in ap material_in w.1 ∙ ap one_of w.2
material-in (Material.Two j k r) t l e =
    let w = two-of j k r l e in
    ap material_in w.2
    ∙ ap₂ (λ (x y : ℕ). Material.Two x y (not (eqb w.0.colour w.1.colour))) w.3.least w.3.greatest
    ∙ ap (Material.Two j k) w.3.sides

pub few-of : (m : Material) (l : List Piece) → material_of l ≡ men_of m → Few l
few-of (Material.One kind) l e = let w = one-of kind l e in subst⁻¹ Few w.1 tt
few-of Material.Pawn l e = let w = one-of 4 l e in subst⁻¹ Few w.1 tt
few-of (Material.Two j k r) l e = let w = two-of j k r l e in subst⁻¹ Few w.2 tt

-- there is one
pub manned-of : (m : Material) (l : List Piece) → material_of l ≡ men_of m → Manned l
manned-of (Material.One kind) l e = let w = one-of kind l e in subst⁻¹ Manned w.1 tt
manned-of (Material.Two j k r) l e = let w = two-of j k r l e in subst⁻¹ Manned w.2 tt
manned-of Material.Pawn l e = let w = one-of 4 l e in subst⁻¹ Manned w.1 tt

-- none of them has been taken
pub full-of : (m : Material) (l : List Piece) → material_of l ≡ men_of m → T (full m l)
full-of (Material.One kind) l e =
    let w = one-of kind l e in subst⁻¹ (λ (k : List Piece). T (full (Material.One kind) k)) w.1 tt
full-of Material.Pawn l e =
    let w = one-of 4 l e in
    subst⁻¹ (λ (k : List Piece). T (full Material.Pawn k)) w.1 (subst⁻¹ T (eq-eqb w.0.kind 4 w.2) tt)
full-of (Material.Two j k r) l e =
    let w = two-of j k r l e in subst⁻¹ (λ (k' : List Piece). T (full (Material.Two j k r) k')) w.2 tt

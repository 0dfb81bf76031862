-- Every board with one or two men has a change that puts its men in standard order and its kings by the rule; men in
-- standard order are told by their material.
use Rattle.std.specs.Prelude.{◌≡◌, refl, Bool, true, false, cond, not, ◌&&◌, List, [], ◌∷◌, map, ℕ, zero, suc, ◌<◌, ◌≤◌, min, max, T, eqb, ltb, leb}
use Rattle.std.proofs.Common.{ap, sym, ◌∙◌, arith, eqb→eq, leb→le, ltb→lt, eqb-true, ltb-true, ltb-false, le-leb}
use Rattle.std.proofs.lemmas.Bool.{eqb-false}
use Rattle.finite.specs.Truth.{and_left, and_right}
use Rattle.finite.specs.Members.{all}
use Rattle.symmetry.specs.Symmetry.{Symmetry}
use Rattle.rules.specs.declared.Piece.{Piece}
use Rattle.rules.specs.Rules.{piece_of}
use Rattle.rules.specs.Changed.{other, swapped, changed_piece}
use Rattle.rules.specs.Reordered.{crossed}
use Rattle.numbering.specs.Keys.{unplaced}
use Rattle.numbering.specs.Men.{exchangeable, standard, material_of, crosses, first_black}
use Rattle.numbering.proofs.laws.ChangeLaws.{coloured, pieces-eq}

-- the first man White's
whitened : (c : ℕ) → c < 2 → swapped (eqb c 1) c ≡ 0
unfolding swapped other
whitened zero h = refl
whitened (suc zero) h = refl
whitened (suc (suc n)) h = absurd (omega arith)

colour-one : (a : Piece) (l : List Piece) → T (all coloured (a ∷ l)) → a.colour < 2
unfolding all
colour-one a l t = ltb→lt a.colour 2 (and_left (coloured a) (all coloured l) t)

pub colour-two : (a c : Piece) (l : List Piece) → T (all coloured (a ∷ c ∷ l)) → c.colour < 2
unfolding all
colour-two a c l t = colour-one c l (and_right (coloured a) (all coloured (c ∷ l)) t)

-- the colours are exchanged after the men are put in order
abbrev pub recolours : List Piece → Bool
recolours l = first_black (crossed (crosses l) l)

and-true : (b : Bool) → (b && true) ≡ b
and-true true = refl
and-true false = refl

pub and-false : (b : Bool) → (b && false) ≡ false
and-false true = refl
and-false false = refl

fin : {x y : Bool} (c j k : ℕ) → x ≡ y → swapped y c ≡ 0 → j ≤ k → T (eqb (swapped x c) 0 && leb j k)
fin c j k e w h = rw (e, w, le-leb j k h) tt

unswapped : (c : ℕ) → c ≡ 0 → swapped false c ≡ 0
unfolding swapped
unswapped c e = e

-- two men: kinds j k, colours c d
two : (j k c d : ℕ) → c < 2 → d < 2 → (m : Symmetry) (s t : ℕ)
    → T (standard
    (map (changed_piece m
    (recolours (piece_of j c s ∷ piece_of k d t ∷ []) && exchangeable (piece_of j c s ∷ piece_of k d t ∷ [])))
    (crossed (crosses (piece_of j c s ∷ piece_of k d t ∷ [])) (piece_of j c s ∷ piece_of k d t ∷ []))))
unfolding standard crosses exchangeable crossed first_black
two j k c d h i m s t = go (eqb j k) refl (ltb k j) refl (ltb d c) refl (eqb c d) refl
  where
    go : (same : Bool) → eqb j k ≡ same → (later : Bool) → ltb k j ≡ later → (black : Bool) → ltb d c ≡ black
        → (one : Bool) → eqb c d ≡ one
        → T (standard
        (map (changed_piece m
        (first_black (crossed (cond same black later) (piece_of j c s ∷ piece_of k d t ∷ [])) && not
        (same && not one))) (crossed (cond same black later) (piece_of j c s ∷ piece_of k d t ∷ []))))
    -- like kinds of one side
    go true e later f true g true o = absurd (omega (arith, eqb-true c d o, ltb-true d c g))
    go true e later f false g true o = fin c j k (and-true (eqb c 1)) (whitened c h) (omega (arith, eqb-true j k e))
    -- like kinds, one each
    go true e later f true g false o =
        fin d k j (and-false (eqb d 1)) (unswapped d (omega (arith, ltb-true d c g))) (omega (arith, eqb-true j k e))
    go true e later f false g false o = let n : ¬ (c ≡ d) = eqb-false c d o in
        fin c j k (and-false (eqb c 1)) (unswapped c (omega (arith, ltb-false d c g))) (omega (arith, eqb-true j k e))
    -- unlike kinds
    go false e true f black g one o = fin d k j (and-true (eqb d 1)) (whitened d i) (omega (arith, ltb-true k j f))
    go false e false f black g one o = fin c j k (and-true (eqb c 1)) (whitened c h) (omega (arith, ltb-false k j f))

-- the change of order and colours that makes a list standard
pub arranged-standard : (m : Symmetry) (l : List Piece) → T (all coloured l)
    → T (standard (map (changed_piece m (recolours l && exchangeable l)) (crossed (crosses l) l)))
unfolding standard crosses crossed first_black exchangeable
arranged-standard m [] t = tt
arranged-standard m (a ∷ []) t = rw (and-true (eqb a.colour 1), whitened a.colour (colour-one a [] t)) tt
arranged-standard m (a ∷ c ∷ []) t =
    two a.kind c.kind a.colour c.colour (colour-one a (c ∷ []) t) (colour-two a c [] t) m a.square
    c.square
arranged-standard m (a ∷ c ∷ d ∷ l) t = tt

-- men in standard order are told by their material
pub standard-material : (l : List Piece) → T (all coloured l) → T (standard l) → material_of l ≡ map unplaced l
unfolding standard material_of
standard-material [] t s = refl
standard-material (a ∷ []) t s = ap (λ (c : ℕ). piece_of a.kind c 0 ∷ []) (sym (eqb→eq a.colour 0 s))
standard-material (a ∷ c ∷ []) t s =
    let w : a.colour ≡ 0 = eqb→eq a.colour 0 (and_left (eqb a.colour 0) (leb a.kind c.kind) s) in
    let h : a.kind ≤ c.kind =
    leb→le a.kind c.kind (and_right (eqb a.colour 0) (leb a.kind c.kind) s) in
    let p : min a.kind c.kind ≡ a.kind = omega arith in
    let q : max a.kind c.kind ≡ c.kind = omega arith in
    pieces-eq p (sym w) q (ap (λ (z : ℕ). cond (eqb z c.colour) 0 1) w ∙ colour c.colour (colour-two a c [] t))
  where
    colour : (d : ℕ) → d < 2 → cond (eqb 0 d) 0 1 ≡ d
    colour zero h = refl
    colour (suc zero) h = refl
    colour (suc (suc n)) h = absurd (omega arith)
standard-material (a ∷ c ∷ d ∷ l) t s = refl

-- Of the orders and colours that a class allows, like men by their squares give the least key; and the exchange of file
-- and rank is made where it lowers it.
use Rattle.std.specs.Prelude.{◌≡◌, refl, Bool, true, false, not, ◌&&◌, List, [], ◌∷◌, map, ℕ, zero, suc, ◌+◌, ◌*◌, ◌<◌, ◌≤◌, T, eqb, ltb, leb}
use Rattle.std.proofs.Common.{ap, subst, sym, ◌∙◌, mul_assoc, add-mul, add_assoc, arith, eqb→eq, leb→le, ltb→lt, eq-eqb, eqb-true, ltb-true, ltb-false, le-ltb, le-leb}
use Rattle.finite.specs.Truth.{and_left, and_right, of-true}
use Rattle.finite.specs.Members.{all}
use Rattle.symmetry.specs.Symmetry.{Symmetry, inverse, exchange}
use Rattle.symmetry.proofs.laws.SymmetryLaws.{mapped-inverse}
use Rattle.rules.specs.declared.Piece.{Piece}
use Rattle.rules.specs.Rules.{piece_of}
use Rattle.rules.specs.Changed.{other, swapped, changed_piece}
use Rattle.rules.specs.Reordered.{crossed}
use Rattle.numbering.specs.Keys.{key_from, spread}
use Rattle.numbering.specs.Men.{exchangeable, standard, like, falling, ordered, prefers}
use Rattle.numbering.proofs.laws.ChangeLaws.{coloured}
use Rattle.numbering.proofs.laws.ArrangeLaws.{and-false, colour-two}

-- ---- a list in standard order, changed into one: no colours are exchanged, and only like men change places

abbrev Only : Symmetry → Bool → Bool → List Piece → Type 0
Only m x e l = T (standard (map (changed_piece m (x && exchangeable l)) (crossed e l)))
    → ((x && exchangeable l) ≡ false) × (crossed e l ≡ crossed (e && like l) l)

-- the first man of two stays first and White's
kept : (y : Bool) → T (eqb (swapped y 0) 0) → y ≡ false
unfolding swapped other
kept true v = absurd v
kept false v = refl

-- the second, of colour d, comes first; `same` tells that the kinds are alike
comes : (x same : Bool) (d : ℕ) → d < 2 → T same → T (eqb (swapped (x && not (same && not (eqb 0 d))) d) 0)
    → ((x && not (same && not (eqb 0 d))) ≡ false) × (d ≡ 0)
unfolding swapped other
comes x false d h t v = absurd t
comes true true zero h t v = absurd v
comes true true (suc zero) h t v = absurd v
comes false true zero h t v = (refl, refl)
comes false true (suc zero) h t v = absurd v
comes x true (suc (suc n)) h t v = absurd (omega arith)

two : (j k d s t : ℕ) (m : Symmetry) (x e : Bool) → d < 2 → j ≤ k → Only m x e (piece_of j 0 s ∷ piece_of k d t ∷ [])
unfolding standard exchangeable crossed like
two j k d s t m x false h i u = (
  kept (x && not (eqb j k && not (eqb 0 d)))
      (and_left (eqb (swapped (x && not (eqb j k && not (eqb 0 d))) 0) 0) (leb j k) u),
  refl,
)
two j k d s t m x true h i u =
    let first = eqb (swapped (x && not (eqb j k && not (eqb 0 d))) d) 0 in
    let e : eqb j k ≡ true = eq-eqb j k (omega (arith, leb→le k j (and_right first (leb k j) u))) in
    let r = comes x (eqb j k) d h (of-true e) (and_left first (leb k j) u) in
    let f : eqb 0 d ≡ true = eq-eqb 0 d (sym r.1) in
    (r.0, rw (e, f))

pub standard-only : (m : Symmetry) (x e : Bool) (l : List Piece) → T (all coloured l) → T (standard l) → Only m x e l
unfolding standard exchangeable crossed like
standard-only m x false [] t s u = (and-false x, refl)
standard-only m x true [] t s u = (and-false x, refl)
standard-only m x false (a ∷ []) t s u =
    let w : a.colour ≡ 0 = eqb→eq a.colour 0 s in (kept (x && true) (rw w at u), refl)
standard-only m x true (a ∷ []) t s u =
    let w : a.colour ≡ 0 = eqb→eq a.colour 0 s in (kept (x && true) (rw w at u), refl)
standard-only m x e (a ∷ c ∷ []) t s u =
    let w : a.colour ≡ 0 = eqb→eq a.colour 0 (and_left (eqb a.colour 0) (leb a.kind c.kind) s) in
    let i = leb→le a.kind c.kind (and_right (eqb a.colour 0) (leb a.kind c.kind) s) in
    subst (λ (z : ℕ). Only m x e (piece_of a.kind z a.square ∷ c ∷ [])) (sym w)
    (two a.kind c.kind c.colour a.square c.square m x e (colour-two a c [] t) i) u
standard-only m x false (a ∷ c ∷ d ∷ l) t s u = (and-false x, refl)
standard-only m x true (a ∷ c ∷ d ∷ l) t s u = (and-false x, refl)

-- ---- what a map and a change of order leave alone

pub standard-map : (m : Symmetry) (l : List Piece) → standard (map (changed_piece m false) l) ≡ standard l
unfolding standard swapped
standard-map m [] = refl
standard-map m (a ∷ []) = refl
standard-map m (a ∷ c ∷ []) = refl
standard-map m (a ∷ c ∷ d ∷ l) = refl

pub like-map : (m : Symmetry) (l : List Piece) → like (map (changed_piece m false) l) ≡ like l
unfolding like swapped
like-map m [] = refl
like-map m (a ∷ []) = refl
like-map m (a ∷ c ∷ []) = refl
like-map m (a ∷ c ∷ d ∷ l) = refl

-- like men in standard order are so either way round
pub standard-like : (e : Bool) (l : List Piece) → T (standard l) → T (standard (crossed (e && like l) l))
unfolding standard crossed like
standard-like false l s = s
standard-like true [] s = s
standard-like true (a ∷ []) s = s
standard-like true (a ∷ c ∷ []) s = go (eqb a.kind c.kind) refl (eqb a.colour c.colour) refl
  where
    go : (p : Bool) → eqb a.kind c.kind ≡ p → (q : Bool) → eqb a.colour c.colour ≡ q
        → T (standard (crossed (p && q) (a ∷ c ∷ [])))
    go true e true f =
        let k : a.kind ≡ c.kind = eqb-true a.kind c.kind e in
        let w : a.colour ≡ 0 = eqb→eq a.colour 0 (and_left (eqb a.colour 0) (leb a.kind c.kind) s) in
        let d : c.colour ≡ 0 = sym (eqb-true a.colour c.colour f) ∙ w in
        rw (eq-eqb c.colour 0 d, le-leb c.kind a.kind (omega arith)) tt
    go true e false f = s
    go false e q f = s
standard-like true (a ∷ c ∷ d ∷ l) s = s

-- ---- keys

pub spread-map : (f : Piece → Piece) (l : List Piece) → spread (map f l) ≡ spread l
unfolding spread
spread-map f [] = refl
spread-map f (a ∷ l) = ap (λ (n : ℕ). 64 * n) (spread-map f l)

pub spread-crossed : (e : Bool) (l : List Piece) → spread (crossed e l) ≡ spread l
unfolding spread crossed
spread-crossed false l = refl
spread-crossed true [] = refl
spread-crossed true (a ∷ []) = refl
spread-crossed true (a ∷ c ∷ []) = refl
spread-crossed true (a ∷ c ∷ d ∷ l) = refl

-- the digits before the men's
key-sum : (n : ℕ) (l : List Piece) → key_from n l ≡ n * spread l + key_from 0 l
unfolding key_from spread
key-sum n [] = omega arith
key-sum n (a ∷ l) =
    key-sum (n * 64 + a.square) l
    ∙ ap (λ (x : ℕ). x + key_from 0 l)
    (add-mul (n * 64) a.square (spread l) ∙ ap (λ (x : ℕ). x + a.square * spread l) (mul_assoc n 64 (spread l)))
    ∙ add_assoc (n * (64 * spread l)) (a.square * spread l) (key_from 0 l)
    ∙ ap (λ (x : ℕ). n * (64 * spread l) + x)
    (sym (ap (λ (k : ℕ). key_from k l) (let z : 0 * 64 + a.square ≡ a.square = omega arith in z)
    ∙ key-sum a.square l))

pub key-le : (n : ℕ) (l k : List Piece) → spread l ≡ spread k → key_from 0 l ≤ key_from 0 k → key_from n l ≤ key_from n k
key-le n l k e h = let p = key-sum n l in let q = key-sum n k in let r : n * spread l ≡ n * spread k =
    ap (λ (x : ℕ). n * x) e in omega arith

-- like men by their squares give the least
pub ordered-least : (e : Bool) (l : List Piece) → key_from 0 (ordered l) ≤ key_from 0 (crossed (e && like l) l)
unfolding ordered crossed like falling key_from
ordered-least e [] = none e
  where
    none : (e : Bool) → key_from 0 [] ≤ key_from 0 (crossed (e && false) [])
    none true = omega arith
    none false = omega arith
ordered-least e (a ∷ []) = one e
  where
    one : (e : Bool) → key_from 0 (a ∷ []) ≤ key_from 0 (crossed (e && false) (a ∷ []))
    one true = omega arith
    one false = omega arith
ordered-least e (a ∷ c ∷ []) =
    go e (ltb c.square a.square) refl (eqb a.kind c.kind && eqb a.colour c.colour)
  where
    go : (e f : Bool) → ltb c.square a.square ≡ f → (k : Bool)
        → key_from 0 (crossed (f && k) (a ∷ c ∷ [])) ≤ key_from 0 (crossed (e && k) (a ∷ c ∷ []))
    go true true q true = omega arith
    go true true q false = omega arith
    go true false q true = omega (arith, ltb-false c.square a.square q)
    go true false q false = omega arith
    go false true q true = omega (arith, ltb-true c.square a.square q)
    go false true q false = omega arith
    go false false q k = omega arith
ordered-least e (a ∷ c ∷ d ∷ l) = more e
  where
    more : (e : Bool) → key_from 0 (a ∷ c ∷ d ∷ l) ≤ key_from 0 (crossed (e && false) (a ∷ c ∷ d ∷ l))
    more true = omega arith
    more false = omega arith

-- ---- the exchange of file and rank

pub not-preferred : (l : List Piece) → prefers l ≡ false
    → key_from 0 (ordered l) ≤ key_from 0 (ordered (map (changed_piece exchange false) l))
unfolding prefers
not-preferred l e = ltb-false (key_from 0 (ordered (map (changed_piece exchange false) l))) (key_from 0 (ordered l)) e

pub twice : (l : List Piece) → map (changed_piece exchange false) (map (changed_piece exchange false) l) ≡ l
unfolding inverse swapped
twice [] = refl
twice (a ∷ l) = rw (mapped-inverse exchange a.square, twice l)

-- where it is made it is not wanted again
pub preferred-once : (l : List Piece) → T (prefers l) → prefers (map (changed_piece exchange false) l) ≡ false
unfolding prefers
preferred-once l t =
    let h = ltb→lt (key_from 0 (ordered (map (changed_piece exchange false) l))) (key_from 0 (ordered l)) t in
    rw (twice l)
    (le-ltb (key_from 0 (ordered l)) (key_from 0 (ordered (map (changed_piece exchange false) l))) (omega arith))

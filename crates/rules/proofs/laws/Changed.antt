-- The board under one of the eight maps, with the colours exchanged or not: sixteen changes, each taken back by one of them.
use Rattle.std.specs.Prelude.{◌≡◌, refl, Bool, true, false, cond, List, [], ◌∷◌, map, ℕ, zero, suc, ◌-◌, ◌<◌, eqb, ltb}
use Rattle.std.proofs.Common.{sym, ap, ◌∙◌, arith, eqb→eq}
use Rattle.std.proofs.Math.Bool.{xor}
use Rattle.std.proofs.Math.Dec.{eqb_refl}
use Rattle.finite.specs.Truth.{same_test}
use Rattle.symmetry.specs.Symmetry.{Symmetry, mapped, inverse, composed}
use Rattle.symmetry.proofs.laws.SymmetryLaws.{mapped-inverse, inverse-mapped, inverse-inverse, mapped-composed}
use Rattle.rules.specs.declared.Piece.{Piece}
use Rattle.rules.specs.declared.Move.{Move}
use Rattle.rules.specs.Rules.{Board}
use Rattle.rules.specs.Changed.{changed, changed_piece, mapped_move, other, swapped}

other-other : (s : ℕ) → other (other s) ≡ s
unfolding other
other-other zero = refl
other-other (suc zero) = refl
other-other (suc (suc n)) = refl

pub swapped-twice : (x : Bool) (s : ℕ) → swapped x (swapped x s) ≡ s
unfolding swapped
swapped-twice true s = other-other s
swapped-twice false s = refl

pub eqb-swapped : (x : Bool) (a b : ℕ) → eqb (swapped x a) (swapped x b) ≡ eqb a b
eqb-swapped x a b =
    same_test (eqb (swapped x a) (swapped x b)) (eqb a b)
    (λ t. let e = sym (swapped-twice x a) ∙ ap (swapped x) (eqb→eq (swapped x a) (swapped x b) t)
    ∙ swapped-twice x b in rw e (eqb_refl b))
    (λ t. rw (eqb→eq a b t) (eqb_refl (swapped x b)))

ltb-other : (s : ℕ) → ltb (other s) 2 ≡ ltb s 2
unfolding other
ltb-other zero = refl
ltb-other (suc zero) = refl
ltb-other (suc (suc n)) = refl

pub ltb-swapped : (x : Bool) (s : ℕ) → ltb (swapped x s) 2 ≡ ltb s 2
unfolding swapped
ltb-swapped true s = ltb-other s
ltb-swapped false s = refl

-- of the two sides, the other of the exchanged is the exchanged of the other
pub across : (x : Bool) (s : ℕ) → s < 2 → 1 - swapped x s ≡ swapped x (1 - s)
unfolding swapped other
across true zero h = refl
across true (suc zero) h = refl
across true (suc (suc n)) h = absurd (omega arith)
across false s h = refl

-- ---- the changed board

-- a board from its fields
pub board-eq : {s s' w w' k k' : ℕ} {l l' : List Piece} → s ≡ s' → w ≡ w' → k ≡ k' → l ≡ l'
    → ◌≡◌ {A = Board} (record { side = s; white = w; black = k; men = l })
    (record { side = s'; white = w'; black = k'; men = l' })
board-eq p q r t = cc

man-back : (m : Symmetry) (x : Bool) (a : Piece) → changed_piece (inverse m) x (changed_piece m x a) ≡ a
man-back m x a = rw (swapped-twice x a.colour, mapped-inverse m a.square)

men-back : (m : Symmetry) (x : Bool) (l : List Piece) → map (changed_piece (inverse m) x) (map (changed_piece m x) l) ≡ l
men-back m x [] = refl
men-back m x (a ∷ l) = rw (man-back m x a, men-back m x l)

-- each change is taken back by one of them
pub changed-back : (m : Symmetry) (x : Bool) (b : Board) → changed (inverse m) x (changed m x b) ≡ b
unfolding changed
changed-back m x b = board-eq (swapped-twice x b.side) (white x) (black x) (men-back m x b.men)
  where
    white : (x : Bool)
        → mapped (inverse m)
        (cond x (mapped m (cond x b.white b.black)) (mapped m (cond x b.black b.white))) ≡ b.white
    white true = mapped-inverse m b.white
    white false = mapped-inverse m b.white

    black : (x : Bool)
        → mapped (inverse m)
        (cond x (mapped m (cond x b.black b.white)) (mapped m (cond x b.white b.black))) ≡ b.black
    black true = mapped-inverse m b.black
    black false = mapped-inverse m b.black

pub changed-forth : (m : Symmetry) (x : Bool) (b : Board) → changed m x (changed (inverse m) x b) ≡ b
changed-forth m x b = rw (inverse-inverse m) at (changed-back (inverse m) x b)

-- ---- two changes in turn are one of the sixteen

swapped-composed : (x y : Bool) (s : ℕ) → swapped y (swapped x s) ≡ swapped (xor x y) s
unfolding swapped xor
swapped-composed true true s = other-other s
swapped-composed true false s = refl
swapped-composed false true s = refl
swapped-composed false false s = refl

men-composed : (m n : Symmetry) (x y : Bool) (l : List Piece)
    → map (changed_piece n y) (map (changed_piece m x) l) ≡ map (changed_piece (composed m n) (xor x y)) l
men-composed m n x y [] = refl
men-composed m n x y (a ∷ l) =
    rw (swapped-composed x y a.colour, mapped-composed m n a.square, men-composed m n x y l)

pub changed-composed : (m n : Symmetry) (x y : Bool) (b : Board)
    → changed n y (changed m x b) ≡ changed (composed m n) (xor x y) b
unfolding changed xor
changed-composed m n x y b =
    board-eq (swapped-composed x y b.side) (king x y b.white b.black) (king x y b.black b.white)
    (men-composed m n x y b.men)
  where
    king : (x y : Bool) (a c : ℕ)
        → mapped n (cond y (mapped m (cond x a c)) (mapped m (cond x c a))) ≡ mapped (composed m n) (cond (xor x y) c a)
    king true true a c = mapped-composed m n a
    king true false a c = mapped-composed m n c
    king false true a c = mapped-composed m n c
    king false false a c = mapped-composed m n a

-- ---- a move under a map

pub move-back : (m : Symmetry) (v : Move) → mapped_move (inverse m) (mapped_move m v) ≡ v
move-back m v = rw (mapped-inverse m v.from, mapped-inverse m v.to)

pub move-forth : (m : Symmetry) (v : Move) → mapped_move m (mapped_move (inverse m) v) ≡ v
move-forth m v = rw (inverse-mapped m v.from, inverse-mapped m v.to)

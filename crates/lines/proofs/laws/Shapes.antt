-- Laws of shapes: a line of a shape is as long as it; the test of a line byte by byte, as the loop makes it; and lines of a shape with a byte
-- set, or with two neighbours exchanged.
use Rattle.std.specs.Prelude.{◌≡◌, refl, Bool, true, false, ◌&&◌, ℕ, zero, suc, ◌+◌, ◌<◌, T, get_or, set}
use Rattle.std.proofs.Common.{ap, sym, le_of_suc-le-suc, not-suc-le-zero, arith}
use mathlib.Core.List.{List, [], ◌∷◌}
use Rattle.std.proofs.Math.Numerals.{add-one}
use Rattle.std.proofs.Math.ListN.{length, drop}
use Rattle.std.proofs.Math.Seq.{drop-cons, drop-length}
use Rattle.finite.specs.Truth.{and_left, and_right, and_both, of-true}
use Rattle.check_digits.specs.Check.{exchanged}
use Rattle.lines.specs.Grammar.{fits_place, has_shape}
use Rattle.std.specs.List.{list_all, zip}

of_length : (shape line : List ℕ) → T (has_shape shape line) → length line ≡ length shape
unfolding has_shape
of_length [] [] t = refl
of_length [] (b ∷ bs) t = absurd t
of_length (p ∷ ps) [] t = absurd t
of_length (p ∷ ps) (b ∷ bs) t = ap suc (of_length ps bs (and_right (fits_place p b) (has_shape ps bs) t))

pub shape-length : (shape line : List ℕ) → has_shape shape line ≡ true → length line ≡ length shape
shape-length shape line e = of_length shape line (of-true e)

pub shape-longer : (shape line : List ℕ) → (length shape ≡ length line → ⊥) → has_shape shape line ≡ false
unfolding has_shape
shape-longer [] [] h = absurd (h refl)
shape-longer [] (b ∷ bs) h = refl
shape-longer (p ∷ ps) [] h = refl
shape-longer (p ∷ ps) (b ∷ bs) h = rw (shape-longer ps bs (λ e. h (ap suc e))) (none (fits_place p b))
  where
    none : (x : Bool) → (x && false) ≡ false
    none true = refl
    none false = refl

-- one place more, and no place left
module _ (shape line : List ℕ) (i : ℕ) where
  pub shape-first : i < length shape → i < length line
      → has_shape (drop i shape) (drop i line)
      ≡ (fits_place (get_or shape i 0) (get_or line i 0) && has_shape (drop (i + 1) shape) (drop (i + 1) line))
  unfolding has_shape
  shape-first h l = rw (drop-cons shape i 0 h, drop-cons line i 0 l, add-one i)

  pub shape-end : length shape ≡ i → length line ≡ i → has_shape (drop i shape) (drop i line) ≡ true
  unfolding has_shape
  shape-end h l = rw (drop_all shape h, drop_all line l)
    where
      drop_all : (s : List ℕ) → length s ≡ i → drop i s ≡ []
      drop_all s e = rw (sym e) (drop-length s)

-- ---- a byte set, two neighbours exchanged

-- each byte fits its place
pub shape_at : (shape line : List ℕ) (i : ℕ) → T (has_shape shape line) → i < length shape
    → T (fits_place (get_or shape i 0) (get_or line i 0))
unfolding has_shape
shape_at [] line i t h = absurd (not-suc-le-zero h)
shape_at (p ∷ ps) [] i t h = absurd t
shape_at (p ∷ ps) (b ∷ bs) zero t h = and_left (fits_place p b) (has_shape ps bs) t
shape_at (p ∷ ps) (b ∷ bs) (suc i) t h =
    shape_at ps bs i (and_right (fits_place p b) (has_shape ps bs) t) (le_of_suc-le-suc h)

pub shape-set : (shape line : List ℕ) (i b : ℕ) → T (has_shape shape line) → T (fits_place (get_or shape i 0) b)
    → T (has_shape shape (set line i b))
unfolding has_shape
shape-set [] [] i b t f = t
shape-set [] (x ∷ xs) i b t f = absurd t
shape-set (p ∷ ps) [] i b t f = absurd t
shape-set (p ∷ ps) (x ∷ xs) zero b t f =
    and_both (fits_place p b) (has_shape ps xs) f (and_right (fits_place p x) (has_shape ps xs) t)
shape-set (p ∷ ps) (x ∷ xs) (suc i) b t f =
    and_both (fits_place p x) (has_shape ps (set xs i b)) (and_left (fits_place p x) (has_shape ps xs) t)
    (shape-set ps xs i b (and_right (fits_place p x) (has_shape ps xs) t) f)

-- neighbours whose places take the same: the first two, and any two
first-exchanged : (p x : ℕ) (ps xs : List ℕ) → 1 < length (p ∷ ps) → p ≡ get_or ps 0 0 → T (has_shape (p ∷ ps) (x ∷ xs))
    → T (has_shape (p ∷ ps) (exchanged 0 (x ∷ xs)))
unfolding has_shape exchanged
first-exchanged p x [] xs h e t = absurd (not-suc-le-zero (le_of_suc-le-suc h))
first-exchanged p x (q ∷ ps) [] h e t = t
first-exchanged p x (q ∷ ps) (y ∷ xs) h e t =
    let u = and_right (fits_place p x) (fits_place q y && has_shape ps xs) t in
    let a : T (fits_place p y) = rw e (and_left (fits_place q y) (has_shape ps xs) u) in
    let b : T (fits_place q x) = rw (sym e) (and_left (fits_place p x) (fits_place q y && has_shape ps xs) t) in
    and_both (fits_place p y) (fits_place q x && has_shape ps xs) a
    (and_both (fits_place q x) (has_shape ps xs) b (and_right (fits_place q y) (has_shape ps xs) u))

pub shape-exchanged : (shape line : List ℕ) (i : ℕ) → suc i < length shape → get_or shape i 0 ≡ get_or shape (suc i) 0
    → T (has_shape shape line) → T (has_shape shape (exchanged i line))
unfolding has_shape exchanged
shape-exchanged [] line i h e t = absurd (not-suc-le-zero h)
shape-exchanged (p ∷ ps) [] i h e t = absurd t
shape-exchanged (p ∷ ps) (x ∷ xs) zero h e t = first-exchanged p x ps xs h e t
shape-exchanged (p ∷ ps) (x ∷ xs) (suc i) h e t =
    and_both (fits_place p x) (has_shape ps (exchanged i xs)) (and_left (fits_place p x) (has_shape ps xs) t)
    (shape-exchanged ps xs i (le_of_suc-le-suc h) e (and_right (fits_place p x) (has_shape ps xs) t))

-- place by place, where the line is as long as the shape
pub shape-all : (shape line : List ℕ) → length shape ≡ length line
    → list_all (λ (p : ℕ × ℕ). fits_place p.0 p.1) (zip shape line) ≡ has_shape shape line
unfolding has_shape
shape-all [] [] h = refl
shape-all [] (b ∷ bs) h = absurd (omega (arith, h))
shape-all (p ∷ ps) [] h = absurd (omega (arith, h))
shape-all (p ∷ ps) (b ∷ bs) h = rw (shape-all ps bs (omega (arith, h)))

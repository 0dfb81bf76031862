-- An element set, or two neighbours exchanged, in a list: its length, its rest after a place before them, and the list under a function.
use Rattle.std.specs.Prelude.{◌≡◌, refl, List, [], ◌∷◌, map, ℕ, zero, suc, ◌+◌, length, drop, set}
use Rattle.std.proofs.Common.{ap, ◌∙◌, zero-add, suc-add}
use Rattle.check_digits.specs.Check.{exchanged}

pub set-map : (f : ℕ → ℕ) (xs : List ℕ) (i a : ℕ) → map f (set xs i a) ≡ set (map f xs) i (f a)
set-map f [] i a = refl
set-map f (x ∷ xs) zero a = refl
set-map f (x ∷ xs) (suc i) a = ap (λ (l : List ℕ). f x ∷ l) (set-map f xs i a)

pub exchanged-length : (i : ℕ) (xs : List ℕ) → length (exchanged i xs) ≡ length xs
unfolding exchanged
exchanged-length i [] = refl
exchanged-length zero (x ∷ []) = refl
exchanged-length zero (x ∷ y ∷ xs) = refl
exchanged-length (suc i) (x ∷ xs) = ap suc (exchanged-length i xs)

pub exchanged-drop : (n i : ℕ) (xs : List ℕ) → drop n (exchanged (n + i) xs) ≡ exchanged i (drop n xs)
unfolding exchanged
exchanged-drop zero i xs = ap (λ (k : ℕ). exchanged k xs) (zero-add i)
exchanged-drop (suc n) i [] = refl
exchanged-drop (suc n) i (x ∷ xs) =
    ap (λ (k : ℕ). drop (suc n) (exchanged k (x ∷ xs))) (suc-add n i) ∙ exchanged-drop n i xs

pub exchanged-map : (f : ℕ → ℕ) (i : ℕ) (xs : List ℕ) → map f (exchanged i xs) ≡ exchanged i (map f xs)
unfolding exchanged
exchanged-map f i [] = refl
exchanged-map f zero (x ∷ []) = refl
exchanged-map f zero (x ∷ y ∷ xs) = refl
exchanged-map f (suc i) (x ∷ xs) = ap (λ (l : List ℕ). f x ∷ l) (exchanged-map f i xs)

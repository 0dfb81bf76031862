-- Tests over a list that was mapped, over two lists one after the other, and over those members that pass another test.
use Rattle.std.specs.Prelude.{◌≡◌, Bool, ◌&&◌, ◌||◌}
use Rattle.std.proofs.Math.Path.{refl}
use Rattle.std.proofs.Common.{sym}
use Rattle.std.proofs.Math.Bool.{true, false, or_assoc}
use mathlib.Core.List.Memᴰ
use mathlib.Core.List.{List, [], ◌∷◌, ◌++◌, map}
use Rattle.std.proofs.Math.Dec.{T}
use Rattle.finite.specs.Truth.{fails}
use Rattle.finite.specs.Members.{◌∈◌, any, all, some?}
use Rattle.finite.specs.Filter.{keep, filter}

module _ {A B : Type 0} (f : B → Bool) (g : A → B) where
  pub any-map : (l : List A) → any f (map g l) ≡ any (λ x. f (g x)) l
  unfolding any
  any-map [] = refl
  any-map (x ∷ l) = rw (any-map l)

  pub all_map : (l : List A) → all f (map g l) ≡ all (λ x. f (g x)) l
  unfolding all
  all_map [] = refl
  all_map (x ∷ l) = rw (all_map l)

pub some?-map : {A B : Type 0} (g : A → B) (l : List A) → some? (map g l) ≡ some? l
unfolding some?
some?-map g [] = refl
some?-map g (x ∷ l) = refl

module _ {A : Type 0} (f : A → Bool) where
  pub any_append : (k l : List A) → any f (k ++ l) ≡ (any f k || any f l)
  unfolding any
  any_append [] l = refl
  any_append (x ∷ k) l = rw (any_append k l) (sym (or_assoc (f x) (any f k) (any f l)))

  -- of those that pass p, only those that pass q need be tried, where no other passes f
  pub any-kept : (p q : A → Bool) (l : List A) → ((x : A) → x ∈ l → T (p x) → T (f x) → T (q x))
      → any f (filter (λ x. p x && q x) l) ≡ any f (filter p l)
  unfolding any filter
  any-kept p q [] h = refl
  any-kept p q (x ∷ l) h = go (p x) (q x) (h x (Memᴰ.head refl)) (any-kept p q l (λ y m. h y (Memᴰ.tail m)))
    where
      go : (a b : Bool) → (T a → T (f x) → T b) → any f (filter (λ y. p y && q y) l) ≡ any f (filter p l)
          → any f (keep (a && b) x (filter (λ y. p y && q y) l)) ≡ any f (keep a x (filter p l))
      go true true k e = rw e
      go true false k e = rw (fails (f x) (k tt)) e
      go false b k e = e

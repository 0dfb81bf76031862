-- Tests over the members of a list: some, all, the first that passes; and what each says of the members.
-- `x ∈ l` is a place of x in l, mathlib's `List.Memᴰ x l`.
use Rattle.std.specs.Prelude.{◌≡◌, ◌⊎◌, Bool, not, ◌&&◌, ◌||◌}
use Rattle.std.proofs.Math.Path.{refl, ap, subst}
use Rattle.std.proofs.Common.{sym, ◌∙◌, inl, inr}
use Rattle.std.proofs.Math.Bool.{true, false, cond}
use mathlib.Core.List.{List, [], ◌∷◌, ◌++◌, map, Memᴰ}
use Rattle.std.proofs.Math.Option.{Option, none, some}
use Rattle.std.proofs.Math.Dec.{T}
use Rattle.finite.specs.Truth.{and_left, and_right, and_both, or_left, or_right, or_cases, true_of, of-true, true-not-false}

infix 4 ◌∈◌
abbrev pub ◌∈◌ : {A : Type 0} → A → List A → Type 0
x ∈ l = Memᴰ x l

module _ {A : Type 0} where
  unfoldable pub any : (A → Bool) → List A → Bool
  any f [] = false
  any f (x ∷ l) = f x || any f l

  unfoldable pub all : (A → Bool) → List A → Bool
  all f [] = true
  all f (x ∷ l) = f x && all f l

  -- the list has a member
  unfoldable pub some? : List A → Bool
  some? [] = false
  some? (x ∷ l) = true

  -- the first member that passes
  unfoldable pub first : (A → Bool) → List A → Option A
  first f [] = none
  first f (x ∷ l) = cond (f x) (some x) (first f l)

  pub any-in : (f : A → Bool) {x : A} {l : List A} → x ∈ l → T (f x) → T (any f l)
  unfolding any
  any-in f (Memᴰ.head {x = y} {xs = l} e) t = or_left (f y) (any f l) (subst (λ (z : A). T (f z)) e t)
  any-in f (Memᴰ.tail {x = y} {xs = l} m) t = or_right (f y) (any f l) (any-in f m t)

  pub any_out : (f : A → Bool) (l : List A) → T (any f l) → (x : A) × (x ∈ l) × T (f x)
  unfolding any
  any_out f [] t = absurd t
  any_out f (x ∷ l) t = go (or_cases (f x) (any f l) t) (λ (s : T (any f l)). any_out f l s)
    where
      go : T (f x) ⊎ T (any f l) → (T (any f l) → (y : A) × (y ∈ l) × T (f y)) → (y : A) × (y ∈ x ∷ l) × T (f y)
      go (inl s) rest = (x, Memᴰ.head refl, s)
      go (inr s) rest = let r = rest s in (r.0, Memᴰ.tail r.1, r.2)

  -- tests that agree on the members
  pub any_same : (f g : A → Bool) (l : List A) → ((x : A) → x ∈ l → f x ≡ g x) → any f l ≡ any g l
  unfolding any
  any_same f g [] h = refl
  any_same f g (x ∷ l) h = rw (h x (Memᴰ.head refl), any_same f g l (λ y m. h y (Memᴰ.tail m)))

  pub all-out : (f : A → Bool) {x : A} {l : List A} → x ∈ l → T (all f l) → T (f x)
  unfolding all
  all-out f (Memᴰ.head {x = y} {xs = l} e) t = subst (λ (z : A). T (f z)) (sym e) (and_left (f y) (all f l) t)
  all-out f (Memᴰ.tail {x = y} {xs = l} m) t = all-out f m (and_right (f y) (all f l) t)

  pub all_in : (f : A → Bool) (l : List A) → ((x : A) → x ∈ l → T (f x)) → T (all f l)
  unfolding all
  all_in f [] h = tt
  all_in f (x ∷ l) h = and_both (f x) (all f l) (h x (Memᴰ.head refl)) (all_in f l (λ y m. h y (Memᴰ.tail m)))

  -- not all pass: one fails
  pub all-fails : (f : A → Bool) (l : List A) → T (not (all f l)) → (x : A) × (x ∈ l) × T (not (f x))
  unfolding all
  all-fails f [] t = absurd t
  all-fails f (x ∷ l) t = go (f x) refl (λ (s : T (not (all f l))). all-fails f l s) t
    where
      go : (b : Bool) → f x ≡ b → (T (not (all f l)) → (y : A) × (y ∈ l) × T (not (f y))) → T (not (b && all f l))
          → (y : A) × (y ∈ x ∷ l) × T (not (f y))
      go true e rest s = let r = rest s in (r.0, Memᴰ.tail r.1, r.2)
      go false e rest s = (x, Memᴰ.head refl, subst (λ (b : Bool). T (not b)) (sym e) tt)

  pub some?-in : {x : A} {l : List A} → x ∈ l → T (some? l)
  unfolding some?
  some?-in (Memᴰ.head e) = tt
  some?-in (Memᴰ.tail m) = tt

  pub some?-out : (l : List A) → T (some? l) → (x : A) × (x ∈ l)
  unfolding some?
  some?-out [] t = absurd t
  some?-out (x ∷ l) t = (x, Memᴰ.head refl)

  pub none_in : {x : A} {l : List A} → l ≡ [] → x ∈ l → ⊥
  none_in {x} e m = elim (subst (λ (k : List A). x ∈ k) e m) [ ]

  pub nil-or : (l : List A) → (l ≡ []) ⊎ ((x : A) × (x ∈ l))
  nil-or [] = inl refl
  nil-or (x ∷ l) = inr (x, Memᴰ.head refl)

  -- the first that passes is a member that passes; and there is one where any member passes
  pub first_out : (f : A → Bool) (l : List A) (x : A) → first f l ≡ some x → (x ∈ l) × T (f x)
  unfolding first
  first_out f [] x e = let z : true ≡ false = cc in absurd (true-not-false {b = true} refl z)
  first_out f (y ∷ l) x e = go (f y) refl (λ (d : first f l ≡ some x). first_out f l x d) e
    where
      go : (b : Bool) → f y ≡ b → (first f l ≡ some x → (x ∈ l) × T (f x)) → cond b (some y) (first f l) ≡ some x
          → (x ∈ y ∷ l) × T (f x)
      go true d rest e' = let s : x ≡ y = cc in (Memᴰ.head s, subst (λ (z : A). T (f z)) (sym s) (of-true d))
      go false d rest e' = let r = rest e' in (Memᴰ.tail r.0, r.1)

  -- and none before it passes
  pub first-split : (f : A → Bool) (l : List A) (x : A) → first f l ≡ some x
      → (before : List A) × (rest : List A) × (l ≡ before ++ (x ∷ rest)) × T (f x)
      × ((y : A) → y ∈ before → f y ≡ false)
  unfolding first
  first-split f [] x e = let z : true ≡ false = cc in absurd (true-not-false {b = true} refl z)
  first-split f (y ∷ l) x e = go (f y) refl (λ (d : first f l ≡ some x). first-split f l x d) e
    where
      go : (b : Bool) → f y ≡ b
          → (first f l ≡ some x
          → (before : List A) × (rest : List A) × (l ≡ before ++ (x ∷ rest)) × T (f x)
          × ((z : A) → z ∈ before → f z ≡ false)) → cond b (some y) (first f l) ≡ some x
          → (before : List A) × (rest : List A) × (y ∷ l ≡ before ++ (x ∷ rest)) × T (f x)
          × ((z : A) → z ∈ before → f z ≡ false)
      go true d more q = let s : y ≡ x = cc in
          ([], l, ap (λ (z : A). z ∷ l) s, subst (λ (z : A). T (f z)) s (of-true d), λ z i. elim i [ ])
      go false d more q = let r = more q in (y ∷ r.0, r.1, ap (λ (m : List A). y ∷ m) r.2, r.3, each d r.4)
        where
          each : {before : List A} → f y ≡ false → ((z : A) → z ∈ before → f z ≡ false) → (z : A) → z ∈ y ∷ before
              → f z ≡ false
          each n h z (Memᴰ.head i) = ap f i ∙ n
          each n h z (Memᴰ.tail i) = h z i

  pub first-in : (f : A → Bool) {x : A} {l : List A} → x ∈ l → T (f x) → (y : A) × (first f l ≡ some y)
  unfolding first
  first-in f {x} (Memᴰ.head {x = y} {xs = l} e) t = (y, rw (true_of {b = f y} (subst (λ (z : A). T (f z)) e t)))
  first-in f {x} (Memᴰ.tail {x = y} {xs = l} m) t = go (f y) refl (first-in f m t)
    where
      go : (b : Bool) → f y ≡ b → (z : A) × (first f l ≡ some z) → (z : A) × (cond (f y) (some y) (first f l) ≡ some z)
      go true d r = (y, rw d)
      go false d r = (r.0, rw d r.1)

module _ {A B : Type 0} (f : A → B) where
  pub map-in : {x : A} {l : List A} → x ∈ l → f x ∈ map f l
  map-in (Memᴰ.head e) = Memᴰ.head (ap f e)
  map-in (Memᴰ.tail m) = Memᴰ.tail (map-in m)

  pub map-out : (y : B) (l : List A) → y ∈ map f l → (x : A) × (x ∈ l) × (y ≡ f x)
  map-out y [] m = elim m [ ]
  map-out y (x ∷ l) (Memᴰ.head e) = (x, Memᴰ.head refl, e)
  map-out y (x ∷ l) (Memᴰ.tail m) = let r = map-out y l m in (r.0, Memᴰ.tail r.1, r.2)

  pub map_same : (g : A → B) (l : List A) → ((x : A) → x ∈ l → f x ≡ g x) → map f l ≡ map g l
  map_same g [] h = refl
  map_same g (x ∷ l) h = rw (h x (Memᴰ.head refl), map_same g l (λ y m. h y (Memᴰ.tail m)))

-- two maps in turn are one map
pub map-twice : {A B C : Type 0} (g : B → C) (f : A → B) (l : List A) → map g (map f l) ≡ map (λ x. g (f x)) l
map-twice g f [] = refl
map-twice g f (x ∷ l) = rw (map-twice g f l)

-- The members of a list that pass a test, in the list's order.
use Rattle.std.specs.Prelude.{◌≡◌, ◌⊎◌, Bool, ◌≤◌}
use Rattle.std.proofs.Math.Path.{refl, subst}
use Rattle.std.proofs.Common.{sym, inl, inr}
use Rattle.std.proofs.Math.Bool.{true, false}
use mathlib.Core.List.Memᴰ
use mathlib.Core.List.{List, [], ◌∷◌}
use native.Mathlib.Omega.{arith}
use Rattle.std.proofs.Math.Dec.{T}
use Rattle.std.proofs.Math.ListN.{length}
use Rattle.finite.specs.Truth.{of-true}
use Rattle.finite.specs.Members.{◌∈◌}

-- x in front of l, or l alone
abbrev pub keep {ℓ} : {A : Type ℓ} → Bool → A → List A → List A
keep true x l = x ∷ l
keep false x l = l

unfoldable pub filter {ℓ} : {A : Type ℓ} → (A → Bool) → List A → List A
filter p [] = []
filter p (x ∷ l) = keep (p x) x (filter p l)

module _ {A : Type 0} (p : A → Bool) where
  pub filter-in : {x : A} {l : List A} → x ∈ l → T (p x) → x ∈ filter p l
  unfolding filter
  filter-in {x} (Memᴰ.head {x = y} {xs = l} e) t = go (p y) (subst (λ (z : A). T (p z)) e t)
    where
      go : (b : Bool) → T b → x ∈ keep b y (filter p l)
      go true s = Memᴰ.head e
      go false s = absurd s
  filter-in {x} (Memᴰ.tail {x = y} {xs = l} m) t = go (p y) (filter-in m t)
    where
      go : (b : Bool) → x ∈ filter p l → x ∈ keep b y (filter p l)
      go true n = Memᴰ.tail n
      go false n = n

  pub filter-out : (x : A) (l : List A) → x ∈ filter p l → (x ∈ l) × T (p x)
  unfolding filter
  filter-out x [] m = absurd (Memᴰ.not-nil m)
  filter-out x (y ∷ l) m = go (p y) refl (λ n. filter-out x l n) m
    where
      both : p y ≡ true → (x ∈ filter p l → (x ∈ l) × T (p x)) → (x ≡ y) ⊎ (x ∈ filter p l) → (x ∈ y ∷ l) × T (p x)
      both e rest (inl q) = (Memᴰ.head q, subst (λ (z : A). T (p z)) (sym q) (of-true e))
      both e rest (inr n) = let r = rest n in (Memᴰ.tail r.0, r.1)

      go : (b : Bool) → p y ≡ b → (x ∈ filter p l → (x ∈ l) × T (p x)) → x ∈ keep b y (filter p l)
          → (x ∈ y ∷ l) × T (p x)
      go true e rest n = both e rest (Memᴰ.cases_cons n)
      go false e rest n = let r = rest n in (Memᴰ.tail r.0, r.1)

  pub filter_none : (l : List A) → ((x : A) → x ∈ l → p x ≡ false) → filter p l ≡ []
  unfolding filter
  filter_none [] h = refl
  filter_none (x ∷ l) h = rw (h x (Memᴰ.head refl), filter_none l (λ y m. h y (Memᴰ.tail m)))

  module _ (q : A → Bool) where
    -- tests that agree on the members keep the same ones
    pub filter_same : (l : List A) → ((x : A) → x ∈ l → p x ≡ q x) → filter p l ≡ filter q l
    unfolding filter
    filter_same [] h = refl
    filter_same (x ∷ l) h = rw (h x (Memᴰ.head refl), filter_same l (λ y m. h y (Memᴰ.tail m)))

    -- a stronger test keeps no more
    pub filter-fewer : (l : List A) → ((x : A) → x ∈ l → T (p x) → T (q x)) → length (filter p l) ≤ length (filter q l)
    unfolding filter
    filter-fewer [] h = omega arith
    filter-fewer (x ∷ l) h = go (p x) (q x) (h x (Memᴰ.head refl)) (filter-fewer l (λ y m. h y (Memᴰ.tail m)))
      where
        go : (a b : Bool) → (T a → T b) → length (filter p l) ≤ length (filter q l)
            → length (keep a x (filter p l)) ≤ length (keep b x (filter q l))
        go true true f k = omega arith
        go true false f k = absurd (f tt)
        go false true f k = omega arith
        go false false f k = k

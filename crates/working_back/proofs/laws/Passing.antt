-- Numbers passed over, none of which holds a byte.
use Rattle.std.specs.Prelude.{◌≡◌, refl, Bool, true, false, ◌||◌, List, ℕ, ◌+◌, ◌≤◌, ◌<◌, T, eqb, length, get_or}
use Rattle.std.proofs.Common.{subst, ⊎_elim, arith}
use Rattle.std.proofs.lemmas.Bool.{eqb-false}
use Rattle.finite.specs.Truth.{le-or-lt}
use Rattle.working_back.specs.Back.{NoneFrom, Passes}

pub none_more : (t : List ℕ) (byte from n : ℕ) → NoneFrom t byte from n → (get_or t n 0 ≡ byte → ⊥) → NoneFrom t byte from (n + 1)
none_more t byte from n f d i h g e = ⊎_elim
    (λ x. let z : i ≡ n = omega (arith, x, g) in d (subst (λ (j : ℕ). get_or t j 0 ≡ byte) z e)) (λ x. f i h x e) (le-or-lt n i)

pub none_then : (t : List ℕ) (byte from n end : ℕ) → NoneFrom t byte from n → NoneFrom t byte n end → NoneFrom t byte from end
none_then t byte from n end f g i h l e = ⊎_elim (λ x. g i x l e) (λ x. f i h x e) (le-or-lt n i)

-- a number more, and what the test of all tells
pub held_more : (t : List ℕ) (byte from n : ℕ) (held : Bool) → (held ≡ false → NoneFrom t byte from n)
    → (held || eqb (get_or t n 0) byte) ≡ false → NoneFrom t byte from (n + 1)
held_more t byte from n true f e = absurd (subst (λ (b : Bool). T b) e tt)
held_more t byte from n false f e = none_more t byte from n (f refl) (eqb-false (get_or t n 0) byte e)

pub none-upto : (t : List ℕ) (byte from n end : ℕ) → end ≤ n → NoneFrom t byte from n → NoneFrom t byte from end
none-upto t byte from n end h f i a b = f i a (omega (arith, h, b))

pub passes_none : (t : List ℕ) (byte n : ℕ) → n ≤ length t → Passes t byte n n
passes_none t byte n h = record { later = omega arith; inside = h; none = λ i a b. absurd (omega arith) }

pub passes-one : (t : List ℕ) (byte from n : ℕ) → Passes t byte from n → n < length t → (get_or t n 0 ≡ byte → ⊥) → Passes t byte from (n + 1)
passes-one t byte from n p h d = record {
  later = omega (arith, p.later);
  inside = omega (arith, h);
  none = none_more t byte from n p.none d;
}

-- a run more
pub passes-run : (t : List ℕ) (byte from n : ℕ) → Passes t byte from n → n + 64 ≤ length t → NoneFrom t byte n (n + 64) → Passes t byte from (n + 64)
passes-run t byte from n p h f = record {
  later = omega (arith, p.later);
  inside = h;
  none = none_then t byte from n (n + 64) p.none f;
}

pub passes_then : (t : List ℕ) (byte from n end : ℕ) → Passes t byte from n → Passes t byte n end → Passes t byte from end
passes_then t byte from n end a b = record {
  later = omega (arith, a.later, b.later);
  inside = b.inside;
  none = none_then t byte from n end a.none b.none;
}

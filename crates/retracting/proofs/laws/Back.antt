-- A move and its reverse, on an ending's men and a place.
use Rattle.std.specs.Prelude.{◌≡◌, Bool, true, false, cond, ℕ, ◌-◌, ◌<◌, eqb}
use Rattle.std.proofs.Math.Path.{refl, sym, ap₂}
use Rattle.std.proofs.Common.{ap, ◌∙◌}
use Rattle.std.proofs.Math.Bool.{◌||◌}
use native.Mathlib.Omega.{arith}
use borrow.Author.Tests.{eq-eqb, ne_eqb, eqb-true, eqb-false}
use Rattle.rules.specs.Rules.{occupied, carried}
use Rattle.position.specs.declared.Men.{Men}
use Rattle.position.specs.declared.Place.{Place}
use Rattle.position.specs.Posed.{board_in}
use Rattle.movegen.specs.Places.{square_after, place_after}
use Rattle.movegen.proofs.laws.Places.{occupied-men}
use Rattle.retracting.specs.Retracting.{Missing, put_again, place_before}

-- ---- a square there and back

module _ (from to s : ℕ) (n : s ≡ to → ⊥) where
  pub king-again : carried to from (carried from to s) ≡ s
  king-again = go (eqb s from) refl
    where
      go : (x : Bool) → eqb s from ≡ x → carried to from (cond x to s) ≡ s
      go true e = rw (eq-eqb to to refl) (sym (eqb-true s from e))
      go false e = rw (ne_eqb s to n)

  pub man-again : (from ≡ to → ⊥) → square_after to from (square_after from to s) ≡ s
  man-again d = rw (ne_eqb s to n) (go (eqb s from) refl)
    where
      go : (x : Bool) → eqb s from ≡ x → square_after to from (cond x to s) ≡ s
      go true e = rw (ne_eqb to from (λ z. d (sym z)), eq-eqb to to refl) (sym (eqb-true s from e))
      go false e = rw (e, ne_eqb s to n)

-- ---- who stays, and who goes

pub king-stays : (from to s : ℕ) → (s ≡ from → ⊥) → carried from to s ≡ s
king-stays from to s n = ap (λ (b : Bool). cond b to s) (ne_eqb s from n)

pub man-stays : (from to s : ℕ) → (s ≡ to → ⊥) → (s ≡ from → ⊥) → square_after from to s ≡ s
man-stays from to s a b = rw (ne_eqb s to a, ne_eqb s from b)

pub man-goes : (from to s : ℕ) → (s ≡ to → ⊥) → s ≡ from → square_after from to s ≡ to
man-goes from to s a b = rw (ne_eqb s to a, eq-eqb s from b)

-- nobody stands on this square
pub record Free (q : Place) (s : ℕ) : Type 0 where
  pub white : q.white ≡ s → ⊥
  pub black : q.black ≡ s → ⊥
  pub first : q.first ≡ s → ⊥
  pub second : q.second ≡ s → ⊥

pub there_and_back : (q : Place) (from to : ℕ) → Free q to → (from ≡ to → ⊥) → q.side < 2
    → place_after (place_after q from to) to from ≡ q
unfolding place_after
there_and_back q from to f d h =
    let e : 1 - (1 - q.side) ≡ q.side = omega arith in
    rw (
      e,
      king-again from to q.white f.white,
      king-again from to q.black f.black,
      man-again from to q.first f.first d,
      man-again from to q.second f.second d,
    )

-- the same where a man was taken, put there again
pub before-and-after : (m : Men) (q : Place) (taken from to : ℕ) → Missing m q taken → Free q from → (to ≡ from → ⊥) → to < 64 → q.side < 2
    → place_after (place_before q taken from to) from to ≡ q
unfolding put_again
before-and-after m q taken from to (Missing.nobody x y) f d l h = there_and_back q to from f d h
before-and-after m q taken from to (Missing.first x y z) f d l h =
    unfold place_after in
    let e : 1 - (1 - q.side) ≡ q.side = omega arith in
    rw (
      e,
      king-again to from q.white f.white,
      king-again to from q.black f.black,
      eq-eqb to to refl,
      man-again to from q.second f.second d,
    ) (ap (λ (s : ℕ). record { side = q.side; white = q.white; black = q.black; first = s; second = q.second }) (sym x))
before-and-after m q taken from to (Missing.second x y z) f d l h =
    unfold place_after in
    let e : 1 - (1 - q.side) ≡ q.side = omega arith in
    rw (
      e,
      king-again to from q.white f.white,
      king-again to from q.black f.black,
      eq-eqb to to refl,
      man-again to from q.first f.first d,
    ) (ap (λ (s : ℕ). record { side = q.side; white = q.white; black = q.black; first = q.first; second = s }) (sym y))

-- ---- what a move leaves free

module _ (from to s : ℕ) (d : from ≡ to → ⊥) where
  pub gone-king : carried from to s ≡ from → ⊥
  gone-king e = go (eqb s from) refl e
    where
      go : (x : Bool) → eqb s from ≡ x → cond x to s ≡ from → ⊥
      go true h r = d (sym r)
      go false h r = eqb-false s from h r

  pub gone-man : from < 64 → square_after from to s ≡ from → ⊥
  gone-man l e = go (eqb s to) e
    where
      go : (x : Bool) → cond x 64 (carried from to s) ≡ from → ⊥
      go true r = absurd (omega arith)
      go false r = gone-king r

pub free-after : (q : Place) (from to : ℕ) → from < 64 → (from ≡ to → ⊥) → Free (place_after q from to) from
unfolding place_after
free-after q from to l d = record {
  white = gone-king from to q.white d;
  black = gone-king from to q.black d;
  first = gone-man from to q.first d l;
  second = gone-man from to q.second d l;
}

-- ---- other squares are as they were

module _ (from to s u : ℕ) (a : u ≡ from → ⊥) (b : u ≡ to → ⊥) where
  same-king : eqb u (carried from to s) ≡ eqb u s
  same-king = go (eqb s from) refl
    where
      go : (x : Bool) → eqb s from ≡ x → eqb u (cond x to s) ≡ eqb u s
      go true e = ne_eqb u to b ∙ sym (ap (eqb u) (eqb-true s from e) ∙ ne_eqb u from a)
      go false e = refl

  same-man : u < 64 → eqb u (square_after from to s) ≡ eqb u s
  same-man h = go (eqb s to) refl
    where
      go : (x : Bool) → eqb s to ≡ x → eqb u (cond x 64 (carried from to s)) ≡ eqb u s
      go true e = ne_eqb u 64 (λ z. omega arith) ∙ sym (ap (eqb u) (eqb-true s to e) ∙ ne_eqb u to b)
      go false e = same-king

pub occupied-else : (m : Men) (q : Place) (from to u : ℕ) → u < 64 → (u ≡ from → ⊥) → (u ≡ to → ⊥)
    → occupied (board_in m (place_after q from to)) u ≡ occupied (board_in m q) u
unfolding place_after
occupied-else m q from to u h a b =
    occupied-men m (place_after q from to) u h
    ∙ ap₂ ◌||◌ (same-king from to q.white u a b)
    (ap₂ ◌||◌ (same-king from to q.black u a b)
    (ap₂ ◌||◌ (same-man from to q.first u a b h) (same-man from to q.second u a b h)))
    ∙ sym (occupied-men m q u h)

none-there : (u to s : ℕ) → (u ≡ to → ⊥) → s ≡ 64 → u < 64 → eqb u to ≡ eqb u s
none-there u to s n e h = ne_eqb u to n ∙ sym (ne_eqb u s (λ z. omega (arith, z, e, h)))

pub occupied-before : (m : Men) (q : Place) (taken from to u : ℕ) → Missing m q taken → u < 64 → (u ≡ to → ⊥) → (u ≡ from → ⊥)
    → occupied (board_in m (place_before q taken from to)) u ≡ occupied (board_in m q) u
unfolding put_again
occupied-before m q taken from to u (Missing.nobody x y) h a b = occupied-else m q to from u h a b
occupied-before m q taken from to u (Missing.first x y z) h a b =
    unfold place_after in
    occupied-men m (put_again 1 to (place_after q to from)) u h
    ∙ ap₂ ◌||◌ (same-king to from q.white u a b)
    (ap₂ ◌||◌ (same-king to from q.black u a b)
    (ap₂ ◌||◌ (none-there u to q.first a x h) (same-man to from q.second u a b h)))
    ∙ sym (occupied-men m q u h)
occupied-before m q taken from to u (Missing.second x y z) h a b =
    unfold place_after in
    occupied-men m (put_again 2 to (place_after q to from)) u h
    ∙ ap₂ ◌||◌ (same-king to from q.white u a b)
    (ap₂ ◌||◌ (same-king to from q.black u a b)
    (ap₂ ◌||◌ (same-man to from q.first u a b h) (none-there u to q.second a y h)))
    ∙ sym (occupied-men m q u h)

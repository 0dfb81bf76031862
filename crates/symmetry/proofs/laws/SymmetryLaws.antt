-- Laws of the eight maps on squares and steps, each shown once for all eight.
use Rattle.std.specs.Prelude.{◌≡◌, Bool, true, ◌&&◌, ℕ, ◌≤◌, ◌<◌, T, ltb, eqb}
use Rattle.std.proofs.Math.Path.{refl}
use Rattle.std.proofs.Common.{sym, ap, ◌∙◌, ⊎_elim, arith, eqb→eq, ltb→lt, lt-ltb, le-ltb}
use Rattle.std.proofs.Math.Bool.{false, xor}
use mathlib.Core.List.Memᴰ
use Rattle.std.proofs.Math.Dec.{eqb_refl}
use Rattle.finite.specs.Truth.{and_left, and_right, same_test, le-or-lt}
use Rattle.finite.specs.Members.{◌∈◌, all, all-out}
use Rattle.finite.specs.Below.{all_below, all_below2, all_below3, below, below3}
use Rattle.board.specs.Square.{stays, shift}
use Rattle.board.proofs.laws.SquareLaws.{shift-off}
use Rattle.symmetry.specs.Symmetry.{Symmetry, mapped, mapped_x, mapped_y, inverse, composed, symmetries, exchange}

-- ---- there are eight

pub every-symmetry : (m : Symmetry) → m ∈ symmetries
every-symmetry m = go m.files m.ranks m.swap
  where
    go : (a b c : Bool) → record { files = a; ranks = b; swap = c } ∈ symmetries
    go false false false = Memᴰ.head refl
    go false false true = Memᴰ.tail (Memᴰ.head refl)
    go false true false = Memᴰ.tail (Memᴰ.tail (Memᴰ.head refl))
    go false true true = Memᴰ.tail (Memᴰ.tail (Memᴰ.tail (Memᴰ.head refl)))
    go true false false = Memᴰ.tail (Memᴰ.tail (Memᴰ.tail (Memᴰ.tail (Memᴰ.head refl))))
    go true false true =
        Memᴰ.tail (Memᴰ.tail (Memᴰ.tail (Memᴰ.tail (Memᴰ.tail (Memᴰ.head refl)))))
    go true true false =
        Memᴰ.tail
        (Memᴰ.tail (Memᴰ.tail (Memᴰ.tail (Memᴰ.tail (Memᴰ.tail (Memᴰ.head refl))))))
    go true true true =
        Memᴰ.tail
        (Memᴰ.tail
        (Memᴰ.tail (Memᴰ.tail (Memᴰ.tail (Memᴰ.tail (Memᴰ.tail (Memᴰ.head refl)))))))

-- a test of all eight, which the checker computes, and what it shows of each
unfoldable pub all_symmetries : (Symmetry → Bool) → Bool
all_symmetries f = all f symmetries

pub symmetry-at : (f : Symmetry → Bool) → T (all_symmetries f) → (m : Symmetry) → T (f m)
unfolding all_symmetries
symmetry-at f t m = all-out f (every-symmetry m) t

-- ---- squares

-- a map and its inverse, on the board
inverse-right : Symmetry → ℕ → Bool
inverse-right m s = eqb (mapped (inverse m) (mapped m s)) s && ltb (mapped m s) 64

inverses_right : T (all_symmetries (λ m. all_below (inverse-right m) 64))
unfolding all_symmetries all all_below inverse-right mapped inverse
inverses_right = tt

inverse-on : (m : Symmetry) (s : ℕ) → s < 64 → T (inverse-right m s)
inverse-on m s h = below (inverse-right m) 64 (symmetry-at (λ m. all_below (inverse-right m) 64) inverses_right m) s h

pub mapped-off : (m : Symmetry) (s : ℕ) → 64 ≤ s → mapped m s ≡ s
unfolding mapped
mapped-off m s h = rw (le-ltb s 64 h)

pub mapped-on : (m : Symmetry) (s : ℕ) → s < 64 → mapped m s < 64
unfolding inverse-right
mapped-on m s h =
    ltb→lt (mapped m s) 64
    (and_right (eqb (mapped (inverse m) (mapped m s)) s) (ltb (mapped m s) 64) (inverse-on m s h))

-- each map is taken back by one of them: so it loses nothing and leaves no square out
pub mapped-inverse : (m : Symmetry) (s : ℕ) → mapped (inverse m) (mapped m s) ≡ s
unfolding inverse-right
mapped-inverse m s =
    ⊎_elim (λ h. rw (mapped-off m s h) (mapped-off (inverse m) s h))
    (λ h. eqb→eq (mapped (inverse m) (mapped m s)) s
    (and_left (eqb (mapped (inverse m) (mapped m s)) s) (ltb (mapped m s) 64) (inverse-on m s h)))
    (le-or-lt 64 s)

pub inverse-inverse : (m : Symmetry) → inverse (inverse m) ≡ m
unfolding inverse
inverse-inverse m = go m.files m.ranks m.swap
  where
    go : (a b c : Bool)
        → inverse (inverse (record { files = a; ranks = b; swap = c })) ≡ record { files = a; ranks = b; swap = c }
    go a b true = refl
    go a b false = refl

pub inverse-mapped : (m : Symmetry) (s : ℕ) → mapped m (mapped (inverse m) s) ≡ s
inverse-mapped m s = rw (inverse-inverse m) at (mapped-inverse (inverse m) s)

pub mapped-injective : (m : Symmetry) {a b : ℕ} → mapped m a ≡ mapped m b → a ≡ b
mapped-injective m {a} {b} e = sym (mapped-inverse m a) ∙ ap (mapped (inverse m)) e ∙ mapped-inverse m b

pub ltb-mapped : (m : Symmetry) (s : ℕ) → ltb (mapped m s) 64 ≡ ltb s 64
ltb-mapped m s =
    ⊎_elim (λ h. rw (mapped-off m s h))
    (λ h. lt-ltb (mapped m s) 64 (mapped-on m s h) ∙ sym (lt-ltb s 64 h))
    (le-or-lt 64 s)

pub eqb-mapped : (m : Symmetry) (a b : ℕ) → eqb (mapped m a) (mapped m b) ≡ eqb a b
eqb-mapped m a b =
    same_test (eqb (mapped m a) (mapped m b)) (eqb a b)
    (λ t. rw (mapped-injective m (eqb→eq (mapped m a) (mapped m b) t)) (eqb_refl b))
    (λ t. rw (eqb→eq a b t) (eqb_refl (mapped m b)))

-- two maps in turn are one of the eight
composed-right : Symmetry → Symmetry → ℕ → Bool
composed-right m n s = eqb (mapped n (mapped m s)) (mapped (composed m n) s)

all-composed : T (all_symmetries (λ m. all_symmetries (λ n. all_below (composed-right m n) 64)))
unfolding all_symmetries all all_below composed-right mapped composed xor
all-composed = tt

pub mapped-composed : (m n : Symmetry) (s : ℕ) → mapped n (mapped m s) ≡ mapped (composed m n) s
unfolding composed-right
mapped-composed m n s =
    ⊎_elim (λ h. rw (mapped-off m s h, mapped-off n s h, mapped-off (composed m n) s h))
    (λ h. eqb→eq (mapped n (mapped m s)) (mapped (composed m n) s)
    (below (composed-right m n) 64
    (symmetry-at (λ n. all_below (composed-right m n) 64)
    (symmetry-at (λ m. all_symmetries (λ n. all_below (composed-right m n) 64)) all-composed m) n) s h))
    (le-or-lt 64 s)

-- ---- steps

shift-right : Symmetry → ℕ → ℕ → ℕ → Bool
shift-right m s dx dy = eqb (shift (mapped m s) (mapped_x m dx dy) (mapped_y m dx dy)) (mapped m (shift s dx dy))

shifts_right : T (all_symmetries (λ m. all_below3 (shift-right m) 64 5 5))
unfolding all_symmetries all all_below all_below2 all_below3 shift-right shift stays mapped mapped_x mapped_y
shifts_right = tt

pub shift-mapped : (m : Symmetry) (s dx dy : ℕ) → dx < 5 → dy < 5
    → shift (mapped m s) (mapped_x m dx dy) (mapped_y m dx dy) ≡ mapped m (shift s dx dy)
unfolding shift-right
shift-mapped m s dx dy hx hy =
    ⊎_elim
    (λ h. rw (
      mapped-off m s h,
      shift-off s dx dy h,
      mapped-off m 64 (omega arith),
      shift-off s (mapped_x m dx dy) (mapped_y m dx dy) h,
    ))
    (λ h. eqb→eq (shift (mapped m s) (mapped_x m dx dy) (mapped_y m dx dy)) (mapped m (shift s dx dy))
    (below3 (shift-right m) 64 5 5 (symmetry-at (λ m. all_below3 (shift-right m) 64 5 5) shifts_right m) s dx dy h hx
    hy))
    (le-or-lt 64 s)

-- ---- a map and what undoes it, in turn

xor-none : (a : Bool) → xor a false ≡ a
unfolding xor
xor-none true = refl
xor-none false = refl

xor-twice : (a b : Bool) → xor a (xor a b) ≡ b
unfolding xor
xor-twice true true = refl
xor-twice true false = refl
xor-twice false true = refl
xor-twice false false = refl

pub then-inverse : (m n : Symmetry) → composed m (composed (inverse m) n) ≡ n
unfolding composed inverse
then-inverse m n = go m.files m.ranks m.swap n.files n.ranks n.swap
  where
    go : (a b c d e f : Bool)
        → composed (record { files = a; ranks = b; swap = c })
        (composed (inverse (record { files = a; ranks = b; swap = c })) (record { files = d; ranks = e; swap = f }))
        ≡ record { files = d; ranks = e; swap = f }
    go a b true d e f = λ i. record { files = xor-twice a d i; ranks = xor-twice b e i; swap = xor-twice true f i }
    go a b false d e f = λ i. record { files = xor-twice a d i; ranks = xor-twice b e i; swap = xor-twice false f i }

-- the map that does nothing
pub then-nothing : (m : Symmetry) → composed m (record { files = false; ranks = false; swap = false }) ≡ m
unfolding composed
then-nothing m = go m.files m.ranks m.swap
  where
    go : (a b c : Bool)
        → composed (record { files = a; ranks = b; swap = c }) (record { files = false; ranks = false; swap = false })
        ≡ record { files = a; ranks = b; swap = c }
    go a b true = λ i. record { files = xor-none a i; ranks = xor-none b i; swap = xor-none true i }
    go a b false = λ i. record { files = xor-none a i; ranks = xor-none b i; swap = xor-none false i }

pub nothing_then : (m : Symmetry) → composed (record { files = false; ranks = false; swap = false }) m ≡ m
unfolding composed
nothing_then m =
    λ i. record { files = xor-left m.files i; ranks = xor-left m.ranks i; swap = xor-left m.swap i }
  where
    xor-left : (a : Bool) → xor false a ≡ a
    xor-left true = unfold xor in refl
    xor-left false = unfold xor in refl

-- where two maps in turn are a third, the second is undone by undoing the third and then the first
pub undone-by : (m k n : Symmetry) → composed m k ≡ n → (s : ℕ) → mapped (inverse k) s ≡ mapped m (mapped (inverse n) s)
undone-by m k n e s =
    let x = mapped m (mapped (inverse n) s) in
    let there : mapped k x ≡ s = mapped-composed m k (mapped (inverse n) s)
    ∙ ap (λ (j : Symmetry). mapped j (mapped (inverse n) s)) e ∙ inverse-mapped n s in
    sym (sym (mapped-inverse k x) ∙ ap (mapped (inverse k)) there)

-- an exchange between a map and its inverse
pub undone-mirror : (n : Symmetry) (s : ℕ)
    → mapped (inverse (composed n exchange)) s
    ≡ mapped (composed (composed n exchange) (inverse n)) (mapped (inverse n) s)
unfolding inverse
undone-mirror n s =
    let p = composed n exchange in
    let u = mapped (inverse n) s in
    let x = mapped (inverse n) (mapped p u) in
    let there : mapped p x ≡ s = sym (mapped-composed n exchange x)
    ∙ ap (mapped exchange) (inverse-mapped n (mapped p u) ∙ sym (mapped-composed n exchange u))
    ∙ mapped-inverse exchange (mapped n u) ∙ inverse-mapped n s in
    ap (mapped (inverse p)) (sym there) ∙ mapped-inverse p x ∙ mapped-composed p (inverse n) u

-- A piece attacks one square from another exactly if it attacks that one from this.
use Rattle.std.specs.Prelude.{◌≡◌, refl, Bool, true, false, not, ◌&&◌, ◌||◌, ℕ, zero, suc, ◌-◌, ◌≤◌, ◌<◌, T, ltb, eqb, get_or}
use Rattle.std.proofs.Common.{◌∙◌, arith, eqb→eq, ltb→lt, lt-ltb, eq-eqb, eqb-true}
use Rattle.finite.specs.Truth.{and_left, and_right, or_right, implies, implied, of-true, same_test}
use Rattle.finite.specs.Below.{all_below, all_below2, all_below3, below3}
use Rattle.board.specs.Square.{stays, shift}
use Rattle.board.specs.Reach.{line, step_ranges, reaches}
use Rattle.board.proofs.laws.ReachLaws.{reaches-squares}
use Rattle.symmetry.specs.Symmetry.{Symmetry, mapped_x, mapped_y}
use Rattle.symmetry.proofs.laws.ReachMapped.{steps-mapped}

-- ---- a step and its opposite

back-right : ℕ → ℕ → ℕ → Bool
back-right s dx dy = implies (ltb (shift s dx dy) 64) (eqb (shift (shift s dx dy) (4 - dx) (4 - dy)) s)

all_back : T (all_below3 back-right 64 5 5)
unfolding all_below all_below2 all_below3 back-right shift stays
all_back = tt

shift_back : (s u dx dy : ℕ) → s < 64 → dx < 5 → dy < 5 → shift s dx dy ≡ u → u < 64 → shift u (4 - dx) (4 - dy) ≡ s
unfolding back-right
shift_back s u dx dy hs hx hy e hu =
    rw (← e)
    (eqb→eq (shift (shift s dx dy) (4 - dx) (4 - dy)) s
    (implied (ltb (shift s dx dy) 64) (eqb (shift (shift s dx dy) (4 - dx) (4 - dy)) s)
    (below3 back-right 64 5 5 all_back s dx dy hs hx hy) (of-true (lt-ltb (shift s dx dy) 64 (omega arith)))))

-- ---- a line as a path of n steps, over empty squares

data Path (occ : ℕ → Bool) (dx dy : ℕ) : ℕ → ℕ → ℕ → Type 0 where
  last : {s t : ℕ} → shift s dx dy ≡ t → t < 64 → Path occ dx dy 1 s t
  more : {n s u t : ℕ} → shift s dx dy ≡ u → u < 64 → occ u ≡ false → Path occ dx dy n u t → Path occ dx dy (suc n) s t

-- one more step at the end
extended : {occ : ℕ → Bool} {dx dy n s u t : ℕ} → Path occ dx dy n s u → occ u ≡ false → shift u dx dy ≡ t → t < 64
    → Path occ dx dy (suc n) s t
extended (last e h) o f g = more e h o (last f g)
extended (more e h p q) o f g = more e h p (extended q o f g)

reversed : {occ : ℕ → Bool} {dx dy n s t : ℕ} → dx < 5 → dy < 5 → Path occ dx dy n s t → s < 64
    → Path occ (4 - dx) (4 - dy) n t s
reversed {dx} {dy} hx hy (last {s = s} {t = t} e h) hs = last (shift_back s t dx dy hs hx hy e h) hs
reversed {dx} {dy} hx hy (more {s = s} {u = u} e h o q) hs =
    extended (reversed hx hy q h) o (shift_back s u dx dy hs hx hy e h) hs

path-line : {occ : ℕ → Bool} {dx dy m s t : ℕ} → Path occ dx dy m s t → (n : ℕ) → m ≤ n → T (line occ n s dx dy t)
unfolding line
path-line (last e h) zero k = absurd (omega arith)
path-line (last {t = t} e h) (suc n) k = rw (e, lt-ltb t 64 h, eq-eqb t t refl) tt
path-line (more e h o q) zero k = absurd (omega arith)
path-line {occ} {dx} {dy} {t} (more {u = u} e h o q) (suc n) k =
    rw (e, lt-ltb u 64 h, o) (or_right (eqb u t) (line occ n u dx dy t) (path-line q n (omega arith)))

abbrev Paths : (ℕ → Bool) → ℕ → ℕ → ℕ → ℕ → ℕ → Type 0
Paths occ n s dx dy t = (m : ℕ) × (m ≤ n) × Path occ dx dy m s t

line-path : (occ : ℕ → Bool) (n s dx dy t : ℕ) → T (line occ n s dx dy t) → Paths occ n s dx dy t
unfolding line
line-path occ zero s dx dy t h = absurd h
line-path occ (suc n) s dx dy t h =
    let u = shift s dx dy in
    let rest = eqb u t || not (occ u) && line occ n u dx dy t in
    go u refl (eqb u t) (occ u) refl refl (line-path occ n u dx dy t) (ltb→lt u 64 (and_left (ltb u 64) rest h))
    (and_right (ltb u 64) rest h)
  where
    go : (u : ℕ) → shift s dx dy ≡ u → (b c : Bool) → eqb u t ≡ b → occ u ≡ c
        → (T (line occ n u dx dy t) → Paths occ n u dx dy t) → u < 64 → T (b || not c && line occ n u dx dy t)
        → Paths occ (suc n) s dx dy t
    go u e true c f o ih hu r = let q : u ≡ t = eqb-true u t f in (1, omega arith, last (e ∙ q) (omega arith))
    go u e false true f o ih hu r = absurd r
    go u e false false f o ih hu r = let w = ih r in let k = w.1 in (suc w.0, omega arith, more e hu o w.2)

-- a line leads back the way it came
pub line-back : (occ : ℕ → Bool) (n s dx dy t : ℕ) → s < 64 → dx < 5 → dy < 5 → T (line occ n s dx dy t)
    → T (line occ n t (4 - dx) (4 - dy) s)
line-back occ n s dx dy t hs hx hy h =
    let w = line-path occ n s dx dy t h in path-line (reversed hx hy w.2 hs) n w.1

half_turn : Symmetry
half_turn = record { files = true; ranks = true; swap = false }

reaches-back : (occ : ℕ → Bool) (kind s t : ℕ) → T (reaches occ kind s t) → T (reaches occ kind t s)
unfolding reaches half_turn mapped_x mapped_y
reaches-back occ kind s t h =
    let hs = (reaches-squares occ kind s t h).0 in
    let n = get_or step_ranges kind 0 in
    steps-mapped half_turn (λ x y. line occ n s x y t) (λ x y. line occ n t x y s)
    (λ x y hx hy r. line-back occ n s x y t hs hx hy r) kind h

pub reaches-sym : (occ : ℕ → Bool) (kind s t : ℕ) → reaches occ kind s t ≡ reaches occ kind t s
reaches-sym occ kind s t =
    same_test (reaches occ kind s t) (reaches occ kind t s) (reaches-back occ kind s t) (reaches-back occ kind t s)

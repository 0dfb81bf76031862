-- A pawn's steps as sets of squares, as code makes them.
use Rattle.std.specs.Prelude.{◌≡◌, refl, Bool, true, false, cond, not, ◌&&◌, ◌||◌, ℕ, zero, suc, ◌/◌, ◌≤◌, ◌<◌, eqb}
use Rattle.std.proofs.Common.{sym, ap, ap₂, ◌∙◌, arith, lt-ltb, le-ltb, ne_eqb}
use Rattle.std.proofs.Math.Bool.{and-false, or-false}
use Rattle.std.proofs.Math.Logic.{⊎_elim}
use Rattle.std.specs.Int.Bits.{bit_and, bit_or}
use Rattle.finite.specs.Truth.{le-or-lt}
use Rattle.board.specs.Square.{shift}
use Rattle.board.specs.Reach.{line}
use Rattle.board.specs.Sets.{has, set_of}
use Rattle.board.proofs.laws.SquareLaws.{shift-off}
use Rattle.board.proofs.laws.LineLaws.{line-off, line-single}
use Rattle.board.proofs.laws.SetLaws.{has-or, has-and, set-has}
use Rattle.rules.specs.Pawn.{forward, first_rank, strides, pawn_hits, pawn_goes}

-- ---- the tables of colours

pub forward-other : (c : ℕ) → (c ≡ 0 → ⊥) → (c ≡ 1 → ⊥) → 2 ≡ forward c
forward-other zero f g = absurd (f refl)
forward-other (suc zero) f g = absurd (g refl)
forward-other (suc (suc n)) f g = refl

-- of a colour known
pub rank-of : (k : ℕ) {c : ℕ} (y : ℕ) → c ≡ k → eqb y (first_rank k) ≡ eqb y (first_rank c)
rank-of k y e = ap (λ (x : ℕ). eqb y (first_rank x)) (sym e)

-- of neither
pub rank-other : (c y : ℕ) → y < 99 → (c ≡ 0 → ⊥) → (c ≡ 1 → ⊥) → false ≡ eqb y (first_rank c)
rank-other zero y h f g = absurd (f refl)
rank-other (suc zero) y h f g = absurd (g refl)
rank-other (suc (suc n)) y h f g = sym (ne_eqb y 99 (λ e. omega arith))

-- ---- one step

-- the square that it leads to
step_is : (occ : ℕ → Bool) (s dx dy : ℕ) {d u : ℕ} → d ≡ dy → u ≡ shift s dx d → (t : ℕ) → t < 64
    → eqb t u ≡ line occ 1 s dx dy t
step_is occ s dx dy e q t h = ap (eqb t) (q ∙ ap (shift s dx) e) ∙ sym (line-single occ s dx dy t h)

-- the set of it, if it is empty
step-free : (occ s dx dy : ℕ) {d u one set : ℕ} → d ≡ dy → u ≡ shift s dx d → one ≡ set_of (λ x. eqb x u)
    → set ≡ set_of (λ x. has one x && not (has occ x)) → (t : ℕ) → t < 64
    → has set t ≡ (line (has occ) 1 s dx dy t && not (has occ t))
step-free occ s dx dy {d} {u} {one} e q o n t h =
    set-has (λ x. has one x && not (has occ x)) n t h
    ∙ ap (λ (x : Bool). x && not (has occ t))
    (set-has (λ x. eqb x u) o t h ∙ step_is (has occ) s dx dy e q t h)

-- ---- two steps straight on

module _ (occ : ℕ → Bool) (s dx dy t : ℕ) where
  abbrev u : ℕ
  u = shift s dx dy

  -- the first square held
  two-held : occ u ≡ true → line occ 2 s dx dy t ≡ line occ 1 s dx dy t
  unfolding line
  two-held e = rw e

  -- and free
  two-free : occ u ≡ false → line occ 2 s dx dy t ≡ (line occ 1 s dx dy t || line occ 1 u dx dy t)
  unfolding line
  two-free e = ⊎_elim off on (le-or-lt 64 u)
    where
      off : 64 ≤ u → line occ 2 s dx dy t ≡ (line occ 1 s dx dy t || line occ 1 u dx dy t)
      off h = rw (le-ltb u 64 h, line-off occ 1 u dx dy t (shift-off u dx dy h))

      on : u < 64 → line occ 2 s dx dy t ≡ (line occ 1 s dx dy t || line occ 1 u dx dy t)
      on h = rw (lt-ltb u 64 h, e, or-false (eqb u t))

-- ---- straight on

either : (a b n : Bool) → ((a && n) || (b && n)) ≡ ((a || b) && n)
either true b true = refl
either true b false = and-false b
either false b n = refl

module _ (occ c s : ℕ) {d u one near : ℕ} (e : d ≡ forward c) (q : u ≡ shift s 2 d) (o : one ≡ set_of (λ x. eqb x u))
    (n : near ≡ set_of (λ x. has one x && not (has occ x))) where
  abbrev straight : Bool → ℕ → Bool
  straight two t = line (has occ) (cond two 2 1) s 2 (forward c) t && not (has occ t)

  -- by whether the rank allows two steps
  ranked : {two : Bool} → eqb (s / 8) (first_rank c) ≡ two → (t : ℕ)
      → straight two t ≡ (line (has occ) (strides c s) s 2 (forward c) t && not (has occ t))
  ranked r t = ap (λ (x : Bool). straight x t) (sym r)

  first : shift s 2 (forward c) ≡ u
  first = sym (q ∙ ap (shift s 2) e)

  pub straight-one : eqb (s / 8) (first_rank c) ≡ false → (t : ℕ) → t < 64
      → has near t ≡ (line (has occ) (strides c s) s 2 (forward c) t && not (has occ t))
  straight-one r t h = step-free occ s 2 (forward c) e q o n t h ∙ ranked r t

  pub straight-held : eqb (s / 8) (first_rank c) ≡ true → has occ u ≡ true → (t : ℕ) → t < 64
      → has near t ≡ (line (has occ) (strides c s) s 2 (forward c) t && not (has occ t))
  straight-held r f t h =
      step-free occ s 2 (forward c) e q o n t h
      ∙ ap (λ (x : Bool). x && not (has occ t)) (sym (two-held (has occ) s 2 (forward c) t (ap (has occ) first ∙ f)))
      ∙ ranked r t

  pub straight-two : eqb (s / 8) (first_rank c) ≡ true → has occ u ≡ false → {v other far : ℕ} → v ≡ shift u 2 d
      → other ≡ set_of (λ x. eqb x v) → far ≡ set_of (λ x. has other x && not (has occ x)) → (t : ℕ) → t < 64
      → has (bit_or near far) t ≡ (line (has occ) (strides c s) s 2 (forward c) t && not (has occ t))
  straight-two r f {far = far} a b g t h =
      has-or near far t
      ∙ ap₂ ◌||◌ (step-free occ s 2 (forward c) e q o n t h) (step-free occ u 2 (forward c) e a b g t h)
      ∙ either (line (has occ) 1 s 2 (forward c) t) (line (has occ) 1 u 2 (forward c) t) (not (has occ t))
      ∙ ap (λ (x : Bool). x && not (has occ t)) (sym both)
      ∙ ranked r t
    where
      both : line (has occ) 2 s 2 (forward c) t ≡ (line (has occ) 1 s 2 (forward c) t || line (has occ) 1 u 2 (forward c) t)
      both =
          two-free (has occ) s 2 (forward c) t (ap (has occ) first ∙ f)
          ∙ ap (λ (x : ℕ). line (has occ) 1 s 2 (forward c) t || line (has occ) 1 x 2 (forward c) t) first

-- ---- aslant, and all

pub hits-set : (c s : ℕ) {d u v one set : ℕ} → d ≡ forward c → u ≡ shift s 1 d → one ≡ set_of (λ x. eqb x u)
    → v ≡ shift s 3 d → set ≡ set_of (λ x. has one x || eqb x v) → (occ : ℕ → Bool) (t : ℕ) → t < 64
    → has set t ≡ pawn_hits occ c s t
unfolding pawn_hits
hits-set c s {d} {u} {v} {one} e q o p n occ t h =
    set-has (λ x. has one x || eqb x v) n t h
    ∙ ap₂ ◌||◌ (set-has (λ x. eqb x u) o t h ∙ step_is occ s 1 (forward c) e q t h) (step_is occ s 3 (forward c) e p t h)

pub goes_set : (occ c s a b t : ℕ) → has a t ≡ (line (has occ) (strides c s) s 2 (forward c) t && not (has occ t))
    → has b t ≡ pawn_hits (has occ) c s t → has (bit_or a (bit_and b occ)) t ≡ pawn_goes (has occ) c s t
unfolding pawn_goes
goes_set occ c s a b t e q =
    has-or a (bit_and b occ) t ∙ ap₂ ◌||◌ e (has-and b occ t ∙ ap (λ (x : Bool). x && has occ t) q)

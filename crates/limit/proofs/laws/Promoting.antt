-- Squares that weigh four on ranks 1 and 8, where a pawn promotes: what a king or a pawn goes to weighs at most 27, and
-- what any piece goes to at most 54, whatever stands in the way.
use Rattle.std.specs.Prelude.{◌≡◌, Bool, cond, ◌&&◌, ◌||◌, ◌⊎◌, leb, ltb, get_or}
use Rattle.std.proofs.Math.Path.{refl, subst}
use Rattle.std.proofs.Common.{sym, ◌∙◌, le_trans, leb→le, eqb→eq, eq-eqb}
use Rattle.std.proofs.Math.Bool.{true, false, not}
use Rattle.std.proofs.Math.Logic.{inl, inr, ⊎_elim}
use Prim.Native.Nat.{ℕ, zero, suc, ◌+◌, ◌-◌, ◌*◌, ◌/◌, ◌%◌, ◌≤◌, ◌<◌}
use native.Mathlib.Omega.{arith}
use Rattle.std.proofs.Math.Dec.{T, eqb}
use Rattle.finite.specs.Truth.{and_left, and_right, and_both, or_left, or_right, or_cases, refuted}
use Rattle.finite.specs.Members.{any, any-in, any_out}
use Rattle.finite.specs.Below.{all_below, below}
use Rattle.finite.specs.Numbers.{numbers, numbers-in, numbers-out}
use Rattle.board.specs.Square.{stays, shift}
use Rattle.board.specs.Reach.{line, step_xs, step_ys, steps_of, line_of, reaches}
use Rattle.board.proofs.laws.ReachLaws.{reaches-none}
use Rattle.rules.specs.Pawn.{forward, first_rank, strides, pawn_hits, pawn_goes, outer}
use Rattle.limit.proofs.laws.Sums.{total, weighed, weighed-one, weighed-or}
use Rattle.limit.proofs.laws.Reaching.{load, line-most, of_kind, reaches-load, one}

abbrev pub heavy : ℕ → ℕ
heavy t = cond (outer t) 4 1

module _ (occ : ℕ → Bool) (s : ℕ) where
  abbrev pub ahead : ℕ → Bool
  ahead t = line occ 2 s 2 1 t || line occ 2 s 2 3 t

  -- a king's steps, two steps up or down, and the square itself
  unfoldable pub near : ℕ → Bool
  near t = eqb t s || (reaches occ 5 s t || ahead t)

  -- a queen's steps and a knight's
  unfoldable pub wide : ℕ → Bool
  wide t = reaches occ 0 s t || reaches occ 3 s t

  -- ---- from one to the other

  longer : (n dx dy t : ℕ) (s : ℕ) → T (line occ n s dx dy t) → T (line occ (suc n) s dx dy t)
  unfolding line
  longer zero dx dy t s h = absurd h
  longer (suc n) dx dy t s h =
      let u = shift s dx dy in
      let rest = not (occ u) && line occ n u dx dy t in
      let more = not (occ u) && line occ (suc n) u dx dy t in
      and_both (ltb u 64) (eqb u t || more) (and_left (ltb u 64) (eqb u t || rest) h)
      (⊎_elim (λ e. or_left (eqb u t) more e)
      (λ r. or_right (eqb u t) more
      (and_both (not (occ u)) (line occ (suc n) u dx dy t) (and_left (not (occ u)) (line occ n u dx dy t) r)
      (longer n dx dy t u (and_right (not (occ u)) (line occ n u dx dy t) r))))
      (or_cases (eqb u t) rest (and_right (ltb u 64) (eqb u t || rest) h)))

  longest : (dx dy t : ℕ) → T (line occ 2 s dx dy t) → T (line occ 7 s dx dy t)
  longest dx dy t h =
      longer 6 dx dy t s (longer 5 dx dy t s (longer 4 dx dy t s (longer 3 dx dy t s (longer 2 dx dy t s h))))

  -- one of the queen's lines
  as-queen : (k t : ℕ) → k < 8 → T (line occ 7 s (get_or step_xs k 0) (get_or step_ys k 0) t) → T (reaches occ 0 s t)
  unfolding reaches
  as-queen k t h r = any-in (line_of occ 0 s t) (numbers-in 8 0 k (omega arith) (omega arith)) r

  king-queen : (t : ℕ) → T (reaches occ 5 s t) → T (reaches occ 0 s t)
  unfolding reaches
  king-queen t h =
      let w = any_out (line_of occ 5 s t) (steps_of 5) h in
      let k = w.0 in
      as-queen k t (let z = (numbers-out 8 0 k w.1).1 in omega arith)
      (longest (get_or step_xs k 0) (get_or step_ys k 0) t (longer 1 (get_or step_xs k 0) (get_or step_ys k 0) t s w.2))

  rook-queen : (t : ℕ) → T (reaches occ 1 s t) → T (reaches occ 0 s t)
  unfolding reaches
  rook-queen t h =
      let w = any_out (line_of occ 1 s t) (steps_of 1) h in
      as-queen w.0 t (let z = (numbers-out 4 0 w.0 w.1).1 in omega arith) w.2

  bishop-queen : (t : ℕ) → T (reaches occ 2 s t) → T (reaches occ 0 s t)
  unfolding reaches
  bishop-queen t h =
      let w = any_out (line_of occ 2 s t) (steps_of 2) h in
      as-queen w.0 t (let z = (numbers-out 4 4 w.0 w.1).1 in omega arith) w.2

  queen-wide : (t : ℕ) → T (reaches occ 0 s t) → T (wide t)
  unfolding wide
  queen-wide t h = or_left (reaches occ 0 s t) (reaches occ 3 s t) h

  pub near-wide : (t : ℕ) → (t ≡ s → ⊥) → T (near t) → T (wide t)
  unfolding near
  near-wide t n h =
      ⊎_elim (λ e. absurd (n (eqb→eq t s e)))
      (λ r. queen-wide t
      (⊎_elim (λ k. king-queen t k)
      (λ a. ⊎_elim (λ d. as-queen 0 t (omega arith) (longest 2 1 t d))
      (λ u. as-queen 3 t (omega arith) (longest 2 3 t u)) (or_cases (line occ 2 s 2 1 t) (line occ 2 s 2 3 t) a))
      (or_cases (reaches occ 5 s t) (ahead t) r)))
      (or_cases (eqb t s) (reaches occ 5 s t || ahead t) h)

  -- ---- kings and pawns stay near, all pieces wide

  pub king-near : (t : ℕ) → T (reaches occ 5 s t) → T (near t)
  unfolding near
  king-near t h = or_right (eqb t s) (reaches occ 5 s t || ahead t) (or_left (reaches occ 5 s t) (ahead t) h)

  no_steps : (t : ℕ) → T (reaches occ 4 s t) → ⊥
  unfolding reaches any numbers
  no_steps t h = h

  pub piece-wide : (kind t : ℕ) → (kind ≡ 5 → ⊥) → T (reaches occ kind s t) → T (wide t)
  unfolding wide
  piece-wide zero t n h = queen-wide t h
  piece-wide (suc zero) t n h = queen-wide t (rook-queen t h)
  piece-wide (suc (suc zero)) t n h = queen-wide t (bishop-queen t h)
  piece-wide (suc (suc (suc zero))) t n h = or_right (reaches occ 0 s t) (reaches occ 3 s t) h
  piece-wide (suc (suc (suc (suc zero)))) t n h = absurd (no_steps t h)
  piece-wide (suc (suc (suc (suc (suc zero))))) t n h = absurd (n refl)
  piece-wide (suc (suc (suc (suc (suc (suc k)))))) t n h =
      absurd (refuted (reaches-none occ (suc (suc (suc (suc (suc (suc k)))))) s t (omega arith)) h)

  -- one of the king's steps
  as-king : (k t : ℕ) → k < 8 → T (line occ 1 s (get_or step_xs k 0) (get_or step_ys k 0) t) → T (near t)
  unfolding reaches
  as-king k t h r = king-near t (any-in (line_of occ 5 s t) (numbers-in 8 0 k (omega arith) (omega arith)) r)

  -- a step that changes neither file nor rank
  stay-put : (n t : ℕ) (s : ℕ) → T (line occ n s 2 2 t) → t ≡ s
  unfolding line shift
  stay-put zero t s h = absurd h
  stay-put (suc n) t s h = go (stays s 2 2) h (λ r. stay-put n t s r)
    where
      u : ℕ
      u = (s / 8 + 2 - 2) * 8 + (s % 8 + 2 - 2)

      back : u ≡ s
      back = omega arith

      go : (x : Bool)
          → T (ltb (cond x u 64) 64 && (eqb (cond x u 64) t || not (occ (cond x u 64)) && line occ n (cond x u 64) 2 2 t))
          → (T (line occ n s 2 2 t) → t ≡ s) → t ≡ s
      go true q f =
          let rest = not (occ u) && line occ n u 2 2 t in
          ⊎_elim (λ e. sym (eqb→eq u t e) ∙ back)
          (λ r. f (subst (λ (z : ℕ). T (line occ n z 2 2 t)) back (and_right (not (occ u)) (line occ n u 2 2 t) r)))
          (or_cases (eqb u t) rest (and_right (ltb u 64) (eqb u t || rest) q))
      go false q f = absurd q

  straight : (n f t : ℕ) → (n ≡ 1) ⊎ (n ≡ 2) → (f ≡ 1) ⊎ ((f ≡ 2) ⊎ (f ≡ 3)) → T (line occ n s 2 f t) → T (near t)
  unfolding near
  straight n f t o w h = ⊎_elim down (λ v. ⊎_elim still up v) w
    where
      two : (n d : ℕ) → (n ≡ 1) ⊎ (n ≡ 2) → T (line occ n s 2 d t) → T (line occ 2 s 2 d t)
      two n d (inl e) q = longer 1 2 d t s (subst (λ (z : ℕ). T (line occ z s 2 d t)) e q)
      two n d (inr e) q = subst (λ (z : ℕ). T (line occ z s 2 d t)) e q

      along : T (ahead t) → T (near t)
      along a = or_right (eqb t s) (reaches occ 5 s t || ahead t) (or_right (reaches occ 5 s t) (ahead t) a)

      down : f ≡ 1 → T (near t)
      down e =
          along (or_left (line occ 2 s 2 1 t) (line occ 2 s 2 3 t)
          (two n 1 o (subst (λ (d : ℕ). T (line occ n s 2 d t)) e h)))

      up : f ≡ 3 → T (near t)
      up e =
          along (or_right (line occ 2 s 2 1 t) (line occ 2 s 2 3 t)
          (two n 3 o (subst (λ (d : ℕ). T (line occ n s 2 d t)) e h)))

      still : f ≡ 2 → T (near t)
      still e =
          or_left (eqb t s) (reaches occ 5 s t || ahead t)
          (rw (eq-eqb t s (stay-put n t s (subst (λ (d : ℕ). T (line occ n s 2 d t)) e h))) tt)

  aslant : (c t : ℕ) → T (pawn_hits occ c s t) → T (near t)
  unfolding pawn_hits
  aslant zero t h =
      ⊎_elim (as-king 6 t (omega arith)) (as-king 7 t (omega arith))
      (or_cases (line occ 1 s 1 3 t) (line occ 1 s 3 3 t) h)
  aslant (suc zero) t h =
      ⊎_elim (as-king 4 t (omega arith)) (as-king 5 t (omega arith))
      (or_cases (line occ 1 s 1 1 t) (line occ 1 s 3 1 t) h)
  aslant (suc (suc n)) t h =
      ⊎_elim (as-king 1 t (omega arith)) (as-king 2 t (omega arith))
      (or_cases (line occ 1 s 1 2 t) (line occ 1 s 3 2 t) h)

  pub pawn-near : (c t : ℕ) → T (pawn_goes occ c s t) → T (near t)
  unfolding pawn_goes
  pawn-near c t h =
      let on = line occ (strides c s) s 2 (forward c) t in
      let hits = pawn_hits occ c s t in
      ⊎_elim (λ q. straight (strides c s) (forward c) t (how-far (eqb (s / 8) (first_rank c))) (which c)
      (and_left on (not (occ t)) q))
      (λ q. aslant c t (and_left hits (occ t) q)) (or_cases (on && not (occ t)) (hits && occ t) h)
    where
      how-far : (x : Bool) → (◌≡◌ {A = ℕ} (cond x 2 1) 1) ⊎ (◌≡◌ {A = ℕ} (cond x 2 1) 2)
      how-far true = inr refl
      how-far false = inl refl

      which : (c : ℕ) → (forward c ≡ 1) ⊎ ((forward c ≡ 2) ⊎ (forward c ≡ 3))
      which zero = inr (inr refl)
      which (suc zero) = inl refl
      which (suc (suc n)) = inr (inl refl)

-- ---- what they weigh

module _ (g : ℕ → ℕ) where
  near_load : ℕ → ℕ
  near_load s = g s + (of_kind g 5 s + (load g 2 s 2 1 + load g 2 s 2 3))

  wide_load : ℕ → ℕ
  wide_load s = of_kind g 0 s + of_kind g 3 s

  near-load : (occ : ℕ → Bool) (s : ℕ) → weighed g (near occ s) ≤ near_load s
  unfolding near near_load
  near-load occ s =
      omega (
        arith,
        weighed-or g (λ t. eqb t s) (λ t. reaches occ 5 s t || ahead occ s t),
        weighed-one g s,
        weighed-or g (reaches occ 5 s) (ahead occ s),
        reaches-load g occ 5 s,
        weighed-or g (line occ 2 s 2 1) (line occ 2 s 2 3),
        line-most g occ 2 s 2 1,
        line-most g occ 2 s 2 3,
      )

  wide-load : (occ : ℕ → Bool) (s : ℕ) → weighed g (wide occ s) ≤ wide_load s
  unfolding wide wide_load
  wide-load occ s =
      omega (arith, weighed-or g (reaches occ 0 s) (reaches occ 3 s), reaches-load g occ 0 s, reaches-load g occ 3 s)

light : ℕ → Bool
light s = leb (near_load one s) 27 && leb (near_load heavy s) 27 && leb (wide_load heavy s) 54

all-light : T (all_below light 64)
unfolding all_below light near_load wide_load of_kind total load numbers shift stays
all-light = tt

pub near-one : (occ : ℕ → Bool) (s : ℕ) → s < 64 → weighed one (near occ s) ≤ 27
unfolding light
near-one occ s h =
    let t = below light 64 all-light s h in
    let n = leb (near_load one s) 27 in
    let k = leb (near_load heavy s) 27 in
    le_trans (near-load one occ s)
    (leb→le (near_load one s) 27 (and_left n k (and_left (n && k) (leb (wide_load heavy s) 54) t)))

pub near-heavy : (occ : ℕ → Bool) (s : ℕ) → s < 64 → weighed heavy (near occ s) ≤ 27
unfolding light
near-heavy occ s h =
    let t = below light 64 all-light s h in
    let n = leb (near_load one s) 27 in
    let k = leb (near_load heavy s) 27 in
    le_trans (near-load heavy occ s)
    (leb→le (near_load heavy s) 27 (and_right n k (and_left (n && k) (leb (wide_load heavy s) 54) t)))

pub wide-heavy : (occ : ℕ → Bool) (s : ℕ) → s < 64 → weighed heavy (wide occ s) ≤ 54
unfolding light
wide-heavy occ s h =
    let t = below light 64 all-light s h in
    let both = leb (near_load one s) 27 && leb (near_load heavy s) 27 in
    le_trans (wide-load heavy occ s)
    (leb→le (wide_load heavy s) 54 (and_right both (leb (wide_load heavy s) 54) t))

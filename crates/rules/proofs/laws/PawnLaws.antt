-- The pawn under the changes that keep its direction: files and ranks not exchanged, and the ranks turned round exactly where the colours
-- are exchanged.
use Rattle.std.proofs.Math.Path.{◌≡◌, refl, ap₂}
use Rattle.std.proofs.Common.{sym, ap, subst, ◌∙◌, ⊎_elim, arith, eqb→eq, lt-ltb, le-ltb, ne_eqb}
use Rattle.std.proofs.Math.Bool.{Bool, true, false, not, ◌&&◌, ◌||◌}
use Rattle.std.specs.Prelude.{cond, T, eqb}
use Rattle.std.specs.Bool.{beq}
use Prim.Native.Nat.{ℕ, zero, suc, ◌+◌, ◌-◌, ◌/◌, ◌<◌, ◌≤◌}
use Rattle.std.proofs.Math.Dec.{eqb_refl}
use Rattle.finite.specs.Truth.{and_left, and_right, implied, same_test, same_answer, false_of, le-or-lt}
use Rattle.finite.specs.Below.{all_below, below}
use Rattle.board.specs.Reach.{line}
use Rattle.symmetry.specs.Symmetry.{Symmetry, mapped, mapped_x, mapped_y, inverse}
use Rattle.symmetry.proofs.laws.ReachMapped.{line-mapped, reaches-mapped}
use Rattle.rules.specs.declared.Piece.{Piece}
use Rattle.rules.specs.Pawn.{pawn, forward, first_rank, strides, pawn_hits, pawn_goes, inner}
use Rattle.rules.specs.Rules.{attacks, goes_to}
use Rattle.rules.specs.Changed.{other, swapped, changed_piece, upright, allows}
use Rattle.rules.specs.Changed.{keeping}

forward-lt : (c : ℕ) → forward c < 5
forward-lt zero = omega arith
forward-lt (suc zero) = omega arith
forward-lt (suc (suc n)) = omega arith

forward-swapped : (x : Bool) (c : ℕ) → forward (swapped x c) ≡ cond x (4 - forward c) (forward c)
unfolding swapped other
forward-swapped true zero = refl
forward-swapped true (suc zero) = refl
forward-swapped true (suc (suc n)) = refl
forward-swapped false c = refl

pub upright-is : (m : Symmetry) (x : Bool) → T (upright m x) → m ≡ keeping m.files x
upright-is m x t =
    let s : m.swap ≡ false = false_of (and_left (not m.swap) (beq m.ranks x) t) in
    let r : m.ranks ≡ x = same_answer m.ranks x (and_right (not m.swap) (beq m.ranks x) t) in
    λ i. record { files = m.files; ranks = r i; swap = s i }

rank-kept : (f x : Bool) (s : ℕ) → s < 64 → mapped (keeping f x) s / 8 ≡ cond x (7 - s / 8) (s / 8)
unfolding mapped
rank-kept true true s h = rw (lt-ltb s 64 h) (omega arith)
rank-kept true false s h = rw (lt-ltb s 64 h) (omega arith)
rank-kept false true s h = rw (lt-ltb s 64 h) (omega arith)
rank-kept false false s h = rw (lt-ltb s 64 h) (omega arith)

off-kept : (f x : Bool) (s : ℕ) → 64 ≤ s → mapped (keeping f x) s ≡ s
unfolding mapped
off-kept f x s h = rw (le-ltb s 64 h)

first-kept : (f x : Bool) (c s : ℕ)
    → eqb (mapped (keeping f x) s / 8) (first_rank (swapped x c)) ≡ eqb (s / 8) (first_rank c)
unfolding swapped other
first-kept f x c s =
    ⊎_elim (λ h. rw (off-kept f x s h) (off x c h)) (λ h. rw (rank-kept f x s h) (on x c h)) (le-or-lt 64 s)
  where
    off : (x : Bool) (c : ℕ) → 64 ≤ s → eqb (s / 8) (first_rank (swapped x c)) ≡ eqb (s / 8) (first_rank c)
    off true zero h = rw (ne_eqb (s / 8) 6 (λ e. omega arith), ne_eqb (s / 8) 1 (λ e. omega arith))
    off true (suc zero) h = rw (ne_eqb (s / 8) 6 (λ e. omega arith), ne_eqb (s / 8) 1 (λ e. omega arith))
    off true (suc (suc n)) h = refl
    off false c h = refl

    turn : (p q : ℕ) → s < 64 → p + q ≡ 7 → p < 8 → eqb (7 - s / 8) p ≡ eqb (s / 8) q
    turn p q h e l =
        same_test (eqb (7 - s / 8) p) (eqb (s / 8) q)
        (λ t. let z = eqb→eq (7 - s / 8) p t in equal (s / 8) q (omega arith))
        (λ t. let z = eqb→eq (s / 8) q t in equal (7 - s / 8) p (omega arith))
      where
        equal : (a b : ℕ) → a ≡ b → T (eqb a b)
        equal a b r = subst (λ (z : ℕ). T (eqb a z)) r (eqb_refl a)

    on : (x : Bool) (c : ℕ) → s < 64
        → eqb (cond x (7 - s / 8) (s / 8)) (first_rank (swapped x c)) ≡ eqb (s / 8) (first_rank c)
    on true zero h = turn 6 1 h refl (omega arith)
    on true (suc zero) h = turn 1 6 h refl (omega arith)
    on true (suc (suc n)) h = rw (ne_eqb (7 - s / 8) 99 (λ e. omega arith), ne_eqb (s / 8) 99 (λ e. omega arith))
    on false c h = refl

or_comm : (p q : Bool) → (p || q) ≡ (q || p)
or_comm true true = refl
or_comm true false = refl
or_comm false true = refl
or_comm false false = refl

module _ (f x : Bool) (occ occ' : ℕ → Bool) (same : (s : ℕ) → occ' (mapped (keeping f x) s) ≡ occ s) (c s t : ℕ) where
  abbrev to : ℕ → ℕ
  to s = mapped (keeping f x) s

  -- a line forward, d files to the side
  lined : (n d : ℕ) → d < 5
      → line occ' n (to s) (cond f (4 - d) d) (forward (swapped x c)) (to t) ≡ line occ n s d (forward c) t
  unfolding mapped_x mapped_y
  lined n d h = rw (forward-swapped x c) (line-mapped (keeping f x) occ occ' same n s d (forward c) t h (forward-lt c))

  hits-kept : pawn_hits occ' (swapped x c) (to s) (to t) ≡ pawn_hits occ c s t
  unfolding pawn_hits
  hits-kept = go f (lined 1 1 (omega arith)) (lined 1 3 (omega arith))
    where
      beside : ℕ → Bool
      beside d = line occ' 1 (to s) d (forward (swapped x c)) (to t)

      go : (g : Bool) → beside (cond g 3 1) ≡ line occ 1 s 1 (forward c) t
          → beside (cond g 1 3) ≡ line occ 1 s 3 (forward c) t
          → (beside 1 || beside 3) ≡ (line occ 1 s 1 (forward c) t || line occ 1 s 3 (forward c) t)
      go true p q = ap₂ ◌||◌ q p ∙ or_comm (line occ 1 s 3 (forward c) t) (line occ 1 s 1 (forward c) t)
      go false p q = ap₂ ◌||◌ p q

  goes_kept : pawn_goes occ' (swapped x c) (to s) (to t) ≡ pawn_goes occ c s t
  unfolding pawn_goes
  goes_kept = ap₂ ◌||◌ (ap₂ ◌&&◌ straight (ap not (same t))) (ap₂ ◌&&◌ hits-kept (same t))
    where
      side : (g : Bool) → ◌≡◌ {A = ℕ} (cond g 2 2) 2
      side true = refl
      side false = refl

      straight : line occ' (strides (swapped x c) (to s)) (to s) 2 (forward (swapped x c)) (to t)
          ≡ line occ (strides c s) s 2 (forward c) t
      straight =
          ap (λ (b : Bool). line occ' (cond b 2 1) (to s) 2 (forward (swapped x c)) (to t)) (first-kept f x c s)
          ∙ ap (λ (d : ℕ). line occ' (strides c s) (to s) d (forward (swapped x c)) (to t)) (sym (side f))
          ∙ lined (strides c s) 2 (omega arith)

by_kind : (b : Bool) {p p' q q' : Bool} → (T b → p ≡ p') → q ≡ q' → cond b p q ≡ cond b p' q'
by_kind true f e = f tt
by_kind false f e = e

-- ---- a piece, whatever its kind, under a map that upright its way of moving

module _ (m : Symmetry) (x : Bool) (occ occ' : ℕ → Bool) (same : (s : ℕ) → occ' (mapped m s) ≡ occ s)
    (a : Piece) (t : ℕ) (k : T (allows m x a)) where
  as-kept : (P : Symmetry → Type 0) → T (pawn a) → ((f : Bool) → P (keeping f x)) → P m
  as-kept P e h = subst P (sym (upright-is m x (implied (pawn a) (upright m x) k e))) (h m.files)

  pub attacks-kept : attacks occ' (changed_piece m x a) (mapped m t) ≡ attacks occ a t
  unfolding attacks
  attacks-kept =
      by_kind (pawn a) (λ e. as-kept Hits e (λ f r. hits-kept f x occ occ' r a.colour a.square t) same)
      (reaches-mapped m occ occ' same a.kind a.square t)
    where
      Hits : Symmetry → Type 0
      Hits n = ((s : ℕ) → occ' (mapped n s) ≡ occ s)
          → pawn_hits occ' (swapped x a.colour) (mapped n a.square) (mapped n t)
          ≡ pawn_hits occ a.colour a.square t

  pub goes_to-kept : goes_to occ' (changed_piece m x a) (mapped m t) ≡ goes_to occ a t
  unfolding goes_to
  goes_to-kept =
      by_kind (pawn a) (λ e. as-kept Goes e (λ f r. goes_kept f x occ occ' r a.colour a.square t) same)
      (reaches-mapped m occ occ' same a.kind a.square t)
    where
      Goes : Symmetry → Type 0
      Goes n = ((s : ℕ) → occ' (mapped n s) ≡ occ s)
          → pawn_goes occ' (swapped x a.colour) (mapped n a.square) (mapped n t)
          ≡ pawn_goes occ a.colour a.square t

-- ---- ranks 2 to 7, and taking it back

inner-test : Bool → Bool → ℕ → Bool
inner-test f x s = beq (inner (mapped (keeping f x) s)) (inner s)

inner-tests : (f x : Bool) → T (all_below (inner-test f x) 64)
unfolding all_below inner-test mapped
inner-tests true true = tt
inner-tests true false = tt
inner-tests false true = tt
inner-tests false false = tt

inner-at : (f x : Bool) (s : ℕ) → s < 64 → inner (mapped (keeping f x) s) ≡ inner s
unfolding inner-test
inner-at f x s h =
    same_answer (inner (mapped (keeping f x) s)) (inner s) (below (inner-test f x) 64 (inner-tests f x) s h)

pub upright-back : (m : Symmetry) (x : Bool) → T (upright m x) → T (upright (inverse m) x)
unfolding inverse
upright-back m x t = go m.files m.ranks m.swap t
  where
    go : (f r s : Bool) → T (not s && beq r x) → T (not s && beq (cond s f r) x)
    go f r true h = absurd h
    go f r false h = h

-- a square on ranks 2 to 7 stays on them
pub inner-kept : (m : Symmetry) (x : Bool) (s : ℕ) → T (upright m x) → inner (mapped m s) ≡ inner s
inner-kept m x s k = subst (λ (n : Symmetry). inner (mapped n s) ≡ inner s) (sym (upright-is m x k)) (at m.files x)
  where
    at : (f x : Bool) → inner (mapped (keeping f x) s) ≡ inner s
    at f x = ⊎_elim (λ h. rw (off-kept f x s h)) (λ h. inner-at f x s h) (le-or-lt 64 s)

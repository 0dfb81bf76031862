-- What a piece attacks and where it goes: only squares of the board, and only what stands on the board counts.
use Rattle.std.specs.Prelude.{◌≡◌, refl, Bool, cond, ◌⊎◌, ℕ, zero, suc, ◌^◌, ◌≤◌, ◌<◌, eqb}
use Rattle.std.proofs.Common.{sym, ◌∙◌, inr, ⊎_elim, arith, T_not}
use Rattle.std.proofs.Math.Path.{ap₂, subst}
use Rattle.std.proofs.Math.Bool.{true, false, not, ◌&&◌, ◌||◌}
use Rattle.std.proofs.Math.Dec.{T}
use Rattle.finite.specs.Truth.{or_cases, fails, le-or-lt}
use Rattle.finite.specs.Below.{all_below, all_below2, below2}
use Rattle.board.specs.Square.{stays, shift}
use Rattle.board.specs.Reach.{line, reaches}
use Rattle.board.specs.Sets.{has}
use Rattle.board.proofs.laws.SetLaws.{has-off}
use Rattle.board.proofs.laws.LineLaws.{line-squares, line_same, line-one, line-single}
use Rattle.board.proofs.laws.ReachLaws.{reaches-squares, reaches_same}
use Rattle.board.proofs.laws.Blocking.{reaches-fewer, reaches-own}
use Rattle.rules.specs.declared.Piece.{Piece}
use Rattle.rules.specs.Pawn.{pawn, forward, strides, pawn_hits, pawn_goes}
use Rattle.rules.specs.Rules.{attacks, goes_to}
use Rattle.rules.proofs.laws.CanMove.{goes-squares}

-- ---- off the board

pub hits-squares : (occ : ℕ → Bool) (c s t : ℕ) → T (pawn_hits occ c s t) → (s < 64) × (t < 64)
unfolding pawn_hits
hits-squares occ c s t h =
    ⊎_elim (λ r. line-squares occ 1 s 1 (forward c) t r) (λ r. line-squares occ 1 s 3 (forward c) t r)
    (or_cases (line occ 1 s 1 (forward c) t) (line occ 1 s 3 (forward c) t) h)

pub attacks-squares : (occ : ℕ → Bool) (a : Piece) (t : ℕ) → T (attacks occ a t) → (a.square < 64) × (t < 64)
unfolding attacks
attacks-squares occ a t h = go (pawn a) h
  where
    go : (x : Bool) → T (cond x (pawn_hits occ a.colour a.square t) (reaches occ a.kind a.square t))
        → (a.square < 64) × (t < 64)
    go true k = hits-squares occ a.colour a.square t k
    go false k = reaches-squares occ a.kind a.square t k

pub attacks-off : (occ : ℕ → Bool) (a : Piece) (t : ℕ) → (64 ≤ a.square) ⊎ (64 ≤ t) → attacks occ a t ≡ false
attacks-off occ a t h =
    fails (attacks occ a t)
    (λ r. let w = attacks-squares occ a t r in let s = w.0 in let u = w.1 in
    ⊎_elim (λ q. omega arith) (λ q. omega arith) h)

pub goes_to-off : (occ : ℕ → Bool) (a : Piece) (t : ℕ) → (64 ≤ a.square) ⊎ (64 ≤ t) → goes_to occ a t ≡ false
goes_to-off occ a t h =
    fails (goes_to occ a t)
    (λ r. let w = goes-squares occ a t r in let s = w.0 in let u = w.1 in
    ⊎_elim (λ q. omega arith) (λ q. omega arith) h)

-- ---- a pawn

pub attacks-pawn : (occ : ℕ → Bool) (a : Piece) (t : ℕ) → pawn a ≡ true
    → attacks occ a t ≡ pawn_hits occ a.colour a.square t
unfolding attacks
attacks-pawn occ a t e = rw e

pub goes-pawn : (occ : ℕ → Bool) (a : Piece) (t : ℕ) → pawn a ≡ true
    → goes_to occ a t ≡ pawn_goes occ a.colour a.square t
unfolding goes_to
goes-pawn occ a t e = rw e

-- what the set of the squares that it attacks holds, on the board and off it
pub hits-has : (occ : ℕ → Bool) (c s set t : ℕ) → set < 2 ^ 64
    → ((u : ℕ) → u < 64 → has set u ≡ pawn_hits occ c s u) → has set t ≡ pawn_hits occ c s t
hits-has occ c s set t l e =
    ⊎_elim
    (λ h. has-off set t h l
    ∙ sym (fails (pawn_hits occ c s t) (λ r. let w = (hits-squares occ c s t r).1 in omega arith)))
    (e t) (le-or-lt 64 t)

-- nothing stands in the way of its attack
pub hits-any : (occ occ' : ℕ → Bool) (c s t : ℕ) → pawn_hits occ c s t ≡ pawn_hits occ' c s t
unfolding pawn_hits
hits-any occ occ' c s t = ap₂ ◌||◌ (line-one occ occ' s 1 (forward c) t) (line-one occ occ' s 3 (forward c) t)

-- ---- only the board counts

module _ (occ occ' : ℕ → Bool) (same : (u : ℕ) → u < 64 → occ u ≡ occ' u) (a : Piece) (t : ℕ) where
  pub attacks-same : attacks occ a t ≡ attacks occ' a t
  unfolding attacks
  attacks-same =
      ap₂ (cond (pawn a)) (hits-any occ occ' a.colour a.square t) (reaches_same occ occ' same a.kind a.square t)

  goes_on : t < 64 → goes_to occ a t ≡ goes_to occ' a t
  unfolding goes_to pawn_goes
  goes_on h =
      ap₂ (cond (pawn a))
      (ap₂ ◌||◌ (ap₂ (λ (l o : Bool). l && not o)
      (line_same occ occ' same (strides a.colour a.square) a.square 2 (forward a.colour) t) (same t h))
      (ap₂ ◌&&◌ (hits-any occ occ' a.colour a.square t) (same t h)))
      (reaches_same occ occ' same a.kind a.square t)

  pub goes_to-same : goes_to occ a t ≡ goes_to occ' a t
  goes_to-same =
      ⊎_elim (λ h. goes_to-off occ a t (inr h) ∙ sym (goes_to-off occ' a t (inr h))) goes_on (le-or-lt 64 t)

-- ---- fewer squares occupied, the target apart: an attack stays

module _ (occ occ' : ℕ → Bool) (t : ℕ) (fewer : (u : ℕ) → (u ≡ t → ⊥) → T (occ' u) → T (occ u)) where
  pub attacks-fewer : (a : Piece) → T (attacks occ a t) → T (attacks occ' a t)
  unfolding attacks
  attacks-fewer a h = go (pawn a) h
    where
      go : (x : Bool)
          → T (cond x (pawn_hits occ a.colour a.square t) (reaches occ a.kind a.square t))
          → T (cond x (pawn_hits occ' a.colour a.square t) (reaches occ' a.kind a.square t))
      go true k = subst T (hits-any occ occ' a.colour a.square t) k
      go false k = reaches-fewer occ occ' t fewer a.kind a.square k

-- ---- no piece attacks its own square

-- a step aslant leads elsewhere, by one test over all squares and changes of rank
aslant : ℕ → ℕ → Bool
aslant dy s = not (eqb s (shift s 1 dy) || eqb s (shift s 3 dy))

all-aslant : T (all_below2 aslant 4 64)
unfolding all_below all_below2 aslant shift stays
all-aslant = tt

forward-lt : (c : ℕ) → forward c < 4
forward-lt zero = omega arith
forward-lt (suc zero) = omega arith
forward-lt (suc (suc n)) = omega arith

hits-own : (occ : ℕ → Bool) (c s : ℕ) → pawn_hits occ c s s ≡ false
unfolding pawn_hits aslant
hits-own occ c s =
    fails (pawn_hits occ c s s)
    (λ h. let l = (hits-squares occ c s s h).0 in
    T_not (eqb s (shift s 1 (forward c)) || eqb s (shift s 3 (forward c)))
    (below2 aslant 4 64 all-aslant (forward c) s (forward-lt c) l)
    (subst T (ap₂ ◌||◌ (line-single occ s 1 (forward c) s l) (line-single occ s 3 (forward c) s l)) h))

pub attacks-own : (occ : ℕ → Bool) (a : Piece) → attacks occ a a.square ≡ false
unfolding attacks
attacks-own occ a =
    rw (hits-own occ a.colour a.square, reaches-own occ a.kind a.square) (either (pawn a))
  where
    either : (x : Bool) → cond x false false ≡ false
    either true = refl
    either false = refl

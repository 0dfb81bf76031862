-- A byte weighed against the moves of a list, one turn of the loop, and what the outcome tells.
use Rattle.std.proofs.Math.Path.{◌≡◌, refl}
use Rattle.std.proofs.Common.{ap, arith}
use Rattle.std.specs.Prelude.{Bool, List, [], ◌∷◌, ℕ}
use Rattle.std.proofs.Math.Bool.{true, false, cond}
use Rattle.std.proofs.Math.Option.{Option, none, some}
use Rattle.std.specs.Prelude.{Option as Found, Some, None}
use Rattle.std.specs.Option.{option_or}
use Rattle.std.specs.Bool.{then_some}
use native.Mathlib.Nat.{}
use Rattle.std.proofs.Math.Dec.{T}
use Rattle.finite.specs.Members.{any, first}
use Rattle.theory.specs.Play.{suits}
use Rattle.theory.specs.Judge.{refutes}
use Rattle.rules.specs.declared.Move.{Move}
use Rattle.pawn_moves.specs.declared.Weighed.{Weighed}
use Rattle.pawn_moves.specs.PawnMoves.{or_else, met_by, weighed_on}

-- what the loop has found
abbrev pub found : Found Move → Option Move
found None = none
found (Some v) = some v

module _ (after : Move → ℕ) (c : ℕ) where
  pub weigh-end : (o : Option Move) → weighed_on after c [] o ≡ met_by o
  unfolding weighed_on any first
  weigh-end none = refl
  weigh-end (some v) = refl

  pub weigh-stop : (v : Move) (l : List Move) (o : Option Move) → refutes c (after v) ≡ true
      → weighed_on after c (v ∷ l) o ≡ Weighed.Refuted
  unfolding weighed_on any
  weigh-stop v l o e = rw e

  later : (best : Found Move) (s : Bool) (v : Move) (o : Option Move)
      → or_else (found best) (cond s (some v) o) ≡ or_else (found (option_or best (then_some s v))) o
  later (Some b) s v o = refl
  later None true v o = refl
  later None false v o = refl

  pub weigh-next : (v : Move) (l : List Move) (best : Found Move) → refutes c (after v) ≡ false
      → weighed_on after c (v ∷ l) (found best)
      ≡ weighed_on after c l (found (option_or best (then_some (suits c (after v)) v)))
  unfolding weighed_on any first
  weigh-next v l best e =
      rw e
      (ap (λ (o : Option Move). cond (any (λ v. refutes c (after v)) l) Weighed.Refuted (met_by o))
      (later best (suits c (after v)) v (first (λ v. suits c (after v)) l)))

  -- ---- what the outcome tells

  pub told-refuted : (l : List Move) → weighed_on after c l none ≡ Weighed.Refuted
      → T (any (λ v. refutes c (after v)) l)
  unfolding weighed_on
  told-refuted l e =
      go (any (λ v. refutes c (after v)) l) (first (λ v. suits c (after v)) l) e
    where
      go : (x : Bool) (o : Option Move) → cond x Weighed.Refuted (met_by (or_else none o)) ≡ Weighed.Refuted → T x
      go true o d = tt
      go false none d = let z : ◌≡◌ {A = ℕ} 0 1 = cc in absurd (omega arith)
      go false (some v) d = let z : ◌≡◌ {A = ℕ} 0 1 = cc in absurd (omega arith)

  pub told-met : (l : List Move) (v : Move) → weighed_on after c l none ≡ Weighed.Met v
      → (any (λ v. refutes c (after v)) l ≡ false) × (first (λ v. suits c (after v)) l ≡ some v)
  unfolding weighed_on
  told-met l v e =
      go (any (λ v. refutes c (after v)) l) (first (λ v. suits c (after v)) l) e
    where
      go : (x : Bool) (o : Option Move) → cond x Weighed.Refuted (met_by (or_else none o)) ≡ Weighed.Met v
          → (x ≡ false) × (o ≡ some v)
      go true o d = let z : ◌≡◌ {A = ℕ} 0 1 = cc in absurd (omega arith)
      go false none d = let z : ◌≡◌ {A = ℕ} 0 1 = cc in absurd (omega arith)
      go false (some w) d = (refl, (cc))

  pub told-unmet : (l : List Move) → weighed_on after c l none ≡ Weighed.Unmet
      → (any (λ v. refutes c (after v)) l ≡ false) × (first (λ v. suits c (after v)) l ≡ none)
  unfolding weighed_on
  told-unmet l e =
      go (any (λ v. refutes c (after v)) l) (first (λ v. suits c (after v)) l) e
    where
      go : (x : Bool) (o : Option Move) → cond x Weighed.Refuted (met_by (or_else none o)) ≡ Weighed.Unmet
          → (x ≡ false) × (o ≡ none)
      go true o d = let z : ◌≡◌ {A = ℕ} 0 1 = cc in absurd (omega arith)
      go false none d = (refl, refl)
      go false (some w) d = let z : ◌≡◌ {A = ℕ} 0 1 = cc in absurd (omega arith)

-- Attack and going over any set of occupied squares, and not only those that are.
use Rattle.std.specs.Prelude.{◌≡◌, Bool, false, ◌&&◌, ℕ, ◌<◌}
use Rattle.std.proofs.Math.Path.{ap}
use Rattle.std.proofs.Math.Bool.{and-false}
use Rattle.std.proofs.Math.Dec.{eqb}
use Rattle.std.proofs.Common.{eq-eqb, ne_eqb}
use Rattle.finite.specs.Members.{any_same}
use Rattle.rules.specs.declared.Piece.{Piece}
use Rattle.rules.specs.Rules.{Board, pieces, goes_to}
use Rattle.rules.proofs.laws.OnBoard.{attacks-same, goes_to-same}
use Rattle.position.specs.Over.{attacked_over, goes_from, goes_over, strikes}

-- only what stands on the board counts
module _ (occ occ' : ℕ → Bool) (same : (u : ℕ) → u < 64 → occ u ≡ occ' u) (b : Board) where
  pub attacked-same : (colour t : ℕ) → attacked_over occ b colour t ≡ attacked_over occ' b colour t
  unfolding attacked_over
  attacked-same colour t =
      any_same (strikes occ colour t) (strikes occ' colour t) (pieces b)
      (λ m i. ap (λ (r : Bool). eqb m.colour colour && r) (attacks-same occ occ' same m t))

  pub goes_same : (from t : ℕ) → goes_over occ b from t ≡ goes_over occ' b from t
  unfolding goes_over
  goes_same from t =
      any_same (goes_from occ b.side from t) (goes_from occ' b.side from t) (pieces b)
      (λ m i. ap (λ (r : Bool). eqb m.colour b.side && eqb m.square from && r)
      (goes_to-same occ occ' same m t))

-- ---- where a piece may go, by what it is found to be

module _ (occ : ℕ → Bool) (side from t : ℕ) (m : Piece) where
  pub goes_other : (m.colour ≡ side → ⊥) → goes_from occ side from t m ≡ false
  goes_other h = rw (ne_eqb m.colour side h)

  pub goes-elsewhere : (m.square ≡ from → ⊥) → goes_from occ side from t m ≡ false
  goes-elsewhere h = rw (ne_eqb m.square from h, and-false (eqb m.colour side))

  pub goes-own : m.colour ≡ side → m.square ≡ from → goes_from occ side from t m ≡ goes_to occ m t
  goes-own e q = rw (eq-eqb m.colour side e, eq-eqb m.square from q)

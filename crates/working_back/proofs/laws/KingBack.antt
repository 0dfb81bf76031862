-- A king put back: all others stand still, so that the place before is known by their squares and his.
use Rattle.std.specs.Prelude.{◌≡◌, Bool, cond, eqb}
use Rattle.std.proofs.Common.{sym, ap, ◌∙◌, arith, eq-eqb}
use Prim.Native.Nat.{ℕ, zero, suc, ◌-◌}
use Rattle.rules.specs.Rules.{carried}
use Rattle.position.specs.declared.Men.{Men}
use Rattle.position.specs.declared.Place.{Place}
use Rattle.index.specs.Moving.{king_on}
use Rattle.movegen.specs.Places.{square_after, place_after}
use Rattle.retracting.specs.Retracting.{LegalLeft, put_again, place_before}
use Rattle.retracting.proofs.laws.Back.{Free, king-stays, man-stays}
use Rattle.retracting.proofs.laws.Causes.{place-eq}

module _ (m : Men) (q : Place) (taken to s : ℕ) (g : LegalLeft m q taken) (f : Free q s) (x y : ℕ) (ex : x ≡ cond (eqb taken 1) to q.first)
    (ey : y ≡ cond (eqb taken 2) to q.second) where
  goes : (w : ℕ) → w ≡ to → carried to s w ≡ s
  goes w e = ap (λ (b : Bool). cond b s w) (eq-eqb w to e)

  men-stay : (q.first ≡ to → ⊥) → (q.second ≡ to → ⊥)
      → (cond (eqb taken 1) to (square_after to s q.first) ≡ x) × (cond (eqb taken 2) to (square_after to s q.second) ≡ y)
  men-stay a b = (
    ap (cond (eqb taken 1) to) (man-stays to s q.first f.first a) ∙ sym ex,
    ap (cond (eqb taken 2) to) (man-stays to s q.second f.second b) ∙ sym ey,
  )

  pub king-back : (mover : ℕ) → mover ≡ 1 - q.side → to ≡ cond (eqb mover 0) q.white q.black
      → place_before q taken s to ≡ king_on (eqb mover 0) q.white q.black x y mover s
  unfolding place_after put_again
  king-back zero e k =
      let w = men-stay (λ z. g.white-first (sym (z ∙ k))) (λ z. g.white-second (sym (z ∙ k))) in
      place-eq (sym e) (goes q.white (sym k)) (king-stays to s q.black (λ z. g.white-black (sym (z ∙ k)))) w.0 w.1
  king-back (suc zero) e k =
      let w = men-stay (λ z. g.black-first (sym (z ∙ k))) (λ z. g.black-second (sym (z ∙ k))) in
      place-eq (sym e) (king-stays to s q.white (λ z. g.white-black (z ∙ k))) (goes q.black (sym k)) w.0 w.1
  king-back (suc (suc n)) e k = absurd (omega arith)

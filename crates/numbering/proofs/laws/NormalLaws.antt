-- The reversals and then the exchange are one map; what the exchange leaves where it is.
use Rattle.std.specs.Prelude.{◌≡◌, refl, Bool, true, false, ℕ, ◌+◌, ◌*◌, ◌/◌, ◌%◌, T, ltb}
use Rattle.std.proofs.Common.{◌∙◌, arith, eqb→eq}
use Rattle.std.proofs.Math.Bool.{xor}
use Rattle.finite.specs.Truth.{by-test, cond-true, cond-false}
use Rattle.symmetry.specs.Symmetry.{mapped, composed}
use Rattle.numbering.specs.Kings.{on_diagonal}
use Rattle.numbering.specs.Normal.{turn}
use Rattle.numbering.specs.KingMaps.{swapping}

pub turn-then : (white : ℕ) (e : Bool)
    → composed (turn white) (swapping e) ≡ record { files = (turn white).files; ranks = (turn white).ranks; swap = e }
unfolding composed turn xor
turn-then white e =
    λ i. record {
      files = unchanged (ltb 3 (white % 8)) i;
      ranks = unchanged (ltb 3 (white / 8)) i;
      swap = from-none e i;
    }
  where
    unchanged : (x : Bool) → xor x false ≡ x
    unchanged true = refl
    unchanged false = refl

    from-none : (x : Bool) → xor false x ≡ x
    from-none true = refl
    from-none false = refl

-- ---- what the exchange leaves where it is

pub stays-diagonal : (e : Bool) (s : ℕ) → (T e → T (on_diagonal s)) → mapped (swapping e) s ≡ s
unfolding mapped
stays-diagonal true s d = let q = eqb→eq (s % 8) (s / 8) (d tt) in
    by-test (ltb s 64)
    (λ t. cond-true (ltb s 64) (s % 8 * 8 + s / 8) s t ∙ (let z : s % 8 * 8 + s / 8 ≡ s = omega arith in z))
    (λ f. cond-false (ltb s 64) (s % 8 * 8 + s / 8) s f)
stays-diagonal false s d =
    by-test (ltb s 64)
    (λ t. cond-true (ltb s 64) (s / 8 * 8 + s % 8) s t ∙ (let z : s / 8 * 8 + s % 8 ≡ s = omega arith in z))
    (λ f. cond-false (ltb s 64) (s / 8 * 8 + s % 8) s f)

-- Refusal 16 is given exactly where a legal position is asked of with more than 6 plies (02, P7).
use Rattle.std.specs.Prelude.{◌≡◌, true, false, ◌⊎◌, ◌↔◌, ℕ, ◌≤◌, ◌<◌, eqb, leb, Err, Ok, Result}
use Rattle.std.proofs.Math.Path.{refl}
use Rattle.std.proofs.Common.{sym, ap, ◌∙◌, inl, inr, arith, le-leb, eq-eqb, eqb-true}
use Rattle.std.proofs.Math.Bool.{Bool, cond}
use Rattle.std.proofs.lemmas.Bool.{lt-leb}
use Rattle.finite.specs.Truth.{le-or-lt}
use Rattle.theory.specs.Value.{won}
use Rattle.rules.specs.Rules.{Board}
use Rattle.rules.specs.Chess.{chess}
use Rattle.position.specs.declared.Position.{Position}
use Rattle.position.specs.Keyed.{board_of}
use Rattle.position.specs.Refusals.{standing_refusal}
use Rattle.position.proofs.laws.PlacedLaws.{standing-most}
use Rattle.search.specs.declared.Opinion.{Opinion}
use Rattle.search.specs.Opinions.{most, least_depth, searched, opinion_of, values_of}

-- the search itself refuses nothing
searched-answers : (b : Board) (k : ℕ) → (values_of (searched b k)).refusal ≡ 0
unfolding searched
searched-answers b k = go (leb (least_depth b k) k) (won chess (least_depth b k) b) (least_depth b k)
  where
    go : (x y : Bool) (n : ℕ)
        → (values_of (cond x (cond y (Ok (Opinion.Win n)) (Ok (Opinion.Loss n))) (Ok Opinion.NotWithin))).refusal ≡ 0
    go true true n = refl
    go true false n = refl
    go false y n = refl

module _ (p : Position) (k : ℕ) where
  pub sixteen-exactly : (opinion_of p k ≡ Err 16) ↔ ((standing_refusal p ≡ 0) × (most < k))
  unfolding opinion_of
  sixteen-exactly = (λ q. forth (eqb (standing_refusal p) 0) refl (le-or-lt k most) q, λ w. back w.0 w.1)
    where
      told : Bool → Result Opinion ℕ
      told x =
          cond x (cond (leb k most) (searched (board_of p) k) (Err 16)) (Err (standing_refusal p))

      forth : (x : Bool) → eqb (standing_refusal p) 0 ≡ x → (k ≤ most) ⊎ (most < k) → told x ≡ Err 16
          → (standing_refusal p ≡ 0) × (most < k)
      forth true e (inr h) q = (eqb-true (standing_refusal p) 0 e, h)
      forth true e (inl h) q =
          absurd (let z : ◌≡◌ {A = ℕ} 0 16 = sym (searched-answers (board_of p) k)
          ∙ ap (λ (o : Result Opinion ℕ). (values_of o).refusal) (rw (le-leb k most h) at q) in omega arith)
      forth false e h q =
          absurd (let z : standing_refusal p ≡ 16 = ap (λ (o : Result Opinion ℕ). (values_of o).refusal) q in
          omega (arith, standing-most p))

      back : standing_refusal p ≡ 0 → most < k → told (eqb (standing_refusal p) 0) ≡ Err 16
      back z h = rw (eq-eqb (standing_refusal p) 0 z, lt-leb k most h)

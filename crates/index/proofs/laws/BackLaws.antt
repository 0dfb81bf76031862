-- Numbers and positions, there and back: each used number leads back to a position that is placed and bears it; a
-- placed position's number is used, and what stands there is of its class; no position bears an unused number.
use Rattle.std.specs.Prelude.{◌≡◌, refl, ◌⊎◌, Bool, true, false, not, cond, ℕ, ◌%◌, ◌<◌, T, leb, eqb, Err, Ok, Result}
use Rattle.std.proofs.Math.Path.{ap}
use Rattle.std.proofs.Common.{subst, sym, ◌∙◌, inl, inr, arith}
use borrow.Author.Tests.{leb-false, lt-leb, lt-ltb}
use Rattle.finite.specs.Truth.{and_left, by-test, of-true, true_of, fails, true-not-false}
use Rattle.finite.specs.Members.{all}
use Rattle.rules.specs.Rules.{Board, pieces, apart, touching}
use Rattle.numbering.specs.Keys.{key_of, board_at}
use Rattle.numbering.specs.Men.{material_of}
use Rattle.numbering.specs.Number.{number_of, used}
use Rattle.numbering.proofs.laws.Numberable.{separate-touching, ruled-separate}
use Rattle.numbering.proofs.laws.AtLaws.{used-number, image-at, number-used}
use Rattle.position.specs.declared.Position.{Position}
use Rattle.position.specs.Keyed.{board_of, man_kind}
use Rattle.position.specs.Refusals.{placing_refusal}
use Rattle.position.proofs.laws.PlacedLaws.{WellPlaced, placed-facts, facts-placed, ending_with, placed-kind}
use Rattle.index.specs.Answers.{position_at, unused, placed_at}
use Rattle.index.proofs.laws.AnswerLaws.{numbered_is, board-at, kings-at, placed-used, unused-exactly}
use Rattle.index.specs.NumberLaws.{SameClass}
use Rattle.index.proofs.laws.NumberLaws.{board-has, number-below}
use Rattle.index.specs.BackLaws.{Bears, Located}

-- one man of White's is some board's material
material : (kind : ℕ) → material_of (ending_with kind) ≡ ending_with kind
unfolding material_of
material kind = refl

module _ (kind n : ℕ) (h : kind < 4) (k : n < 59136) (u : unused (position_at kind n) ≡ false) where
  used-at : T (used (board_of (position_at kind n)))
  used-at = of-true (unused-exactly kind n ∙ ap not u)

  at-facts : WellPlaced (position_at kind n)
  unfolding position_at touching board_of used all
  at-facts =
      let p = position_at kind n in
      let kings = kings-at kind n in
      let b = board_of p in
      record {
        men = rw (lt-leb 4 kind h);
        side = omega arith;
        squares = rw (
          lt-ltb b.white 64 kings.white,
          lt-ltb b.black 64 kings.black,
          lt-ltb (n % 64) 64 (omega arith),
        ) tt;
        distinct = and_left (apart (pieces b)) (eqb (number_of b) (key_of b)) used-at;
        colours = tt;
        kings = separate-touching b.white b.black (ruled-separate b.white b.black kings.ruled);
      }

  at-used : T (used (board_at (ending_with kind) n))
  at-used = subst (λ (b : Board). T (used b)) (board-at kind n) used-at

  -- what stands at a used number is placed and bears it
  pub used-bears : Bears kind n (position_at kind n)
  unfolding position_at
  used-bears = record {
    ending = refl;
    side = omega arith;
    placed = facts-placed (position_at kind n) at-facts;
    number = ap number_of (board-at kind n) ∙ used-number (material kind) n at-used;
  }

-- each number is unused, or its position is placed and bears it
pub each_number : (kind n : ℕ) → kind < 4 → n < 59136
    → (unused (position_at kind n) ≡ true) ⊎ Bears kind n (position_at kind n)
each_number kind n h k =
    by-test (unused (position_at kind n)) (λ t. inl (true_of t))
    (λ f. inr (used-bears kind n h k (fails (unused (position_at kind n)) f)))

-- ---- numbering back

found : (a b c : Bool) (p q : Position)
    → cond {A = Result Position ℕ} a (Err 1) (cond b (Err 8) (cond c (Err 9) (Ok q))) ≡ Ok p
    → (a ≡ false) × (b ≡ false) × (c ≡ false) × (q ≡ p)
found true b c p q e = let z : ◌≡◌ {A = ℕ} 0 1 = cc in absurd (omega arith)
found false true c p q e = let z : ◌≡◌ {A = ℕ} 0 1 = cc in absurd (omega arith)
found false false true p q e = let z : ◌≡◌ {A = ℕ} 0 1 = cc in absurd (omega arith)
found false false false p q e = let z : q ≡ p = cc in (refl, refl, refl, z)

-- demand 2: each used number leads back to a position that bears it
pub number-back : (kind n : ℕ) (p : Position) → placed_at kind n ≡ Ok p → Bears kind n p
unfolding placed_at
number-back kind n p e =
    let f = found (leb 4 kind) (leb 59136 n) (unused (position_at kind n)) p (position_at kind n) e in
    subst (Bears kind n) f.3 (used-bears kind n (leb-false 4 kind f.0) (leb-false 59136 n f.1) f.2)

-- ---- the position at a placed position's number

module _ (p : Position) (z : placing_refusal p ≡ 0) where
  abbrev own : ℕ
  own = number_of (board_of p)

  pub number-not-unused : unused (position_at (man_kind p) own) ≡ false
  number-not-unused =
      flipped (unused (position_at (man_kind p) own))
      (sym (unused-exactly (man_kind p) own) ∙ ap used (board-at (man_kind p) own)
      ∙ true_of (number-used (material (man_kind p)) (board_of p) (board-has p z) (placed-facts p z).distinct))
    where
      flipped : (b : Bool) → not b ≡ true → b ≡ false
      flipped true e = sym e
      flipped false e = refl

  pub number-class : SameClass p (position_at (man_kind p) own)
  number-class =
      let i = image-at (material (man_kind p)) (board_of p) (board-has p z) in (i.0, board-at (man_kind p) own ∙ i.1)

pub back-number : (p : Position) → placing_refusal p ≡ 0 → Located p (number_of (board_of p))
back-number p z = record {
  number = numbered_is p z;
  below = number-below p z;
  back = placed-used (man_kind p) (number_of (board_of p)) (placed-kind p (placed-facts p z).men) (number-below p z)
      (number-not-unused p z);
  class = number-class p z;
}

-- no position bears an unused number
pub unused-none : (p : Position) (n : ℕ) → placing_refusal p ≡ 0 → number_of (board_of p) ≡ n
    → unused (position_at (man_kind p) n) ≡ true → ⊥
unused-none p n z e u =
    true-not-false u (subst (λ (k : ℕ). unused (position_at (man_kind p) k) ≡ false) e (number-not-unused p z))

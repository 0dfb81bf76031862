-- What no refusal says of a position with one man or two, a lone pawn too, and that none is above 18.
use Rattle.std.specs.Prelude.{◌≡◌, refl, Bool, true, false, cond, ℕ, ◌≤◌, ◌<◌, leb, ltb, eqb}
use Rattle.std.proofs.Common.{arith, leb-false, eqb-true}
use Rattle.std.proofs.lemmas.Bool.{eqb-false}
use Rattle.finite.specs.Members.{all}
use Rattle.position.specs.declared.Position.{Position}
use Rattle.position.specs.Keyed.{board_of}
use Rattle.position.specs.Refusals.{bad_men_of, bad_side, bad_square, bad_pawn, shared_square, kings_touch, other_in_check, placing_with, standing_with}
use Rattle.position.proofs.laws.PlacedLaws.{either}

-- six tests in a chain of refusals: men, side, square, pawn's rank, shared square, touching kings
abbrev pub chain_with : Bool → Bool → Bool → Bool → Bool → Bool → ℕ
chain_with a b c r d e = cond a 1 (cond b 2 (cond c 3 (cond r 18 (cond d 4 (cond e 5 0)))))

pub six : (a b c r d e : Bool) → chain_with a b c r d e ≡ 0
    → (a ≡ false) × (b ≡ false) × (c ≡ false) × (r ≡ false) × (d ≡ false) × (e ≡ false)
six true b c r d e z = absurd (omega arith)
six false true c r d e z = absurd (omega arith)
six false false true r d e z = absurd (omega arith)
six false false false true d e z = absurd (omega arith)
six false false false false true e z = absurd (omega arith)
six false false false false false true z = absurd (omega arith)
six false false false false false false z = (refl, refl, refl, refl, refl, refl)

pub six-back : (a b c r d e : Bool) → a ≡ false → b ≡ false → c ≡ false → r ≡ false → d ≡ false → e ≡ false
    → chain_with a b c r d e ≡ 0
six-back a b c r d e p q s t u v = rw (p, q, s, t, u, v)

pub six-most : (a b c r d e : Bool) → chain_with a b c r d e ≤ 18
six-most true b c r d e = omega arith
six-most false true c r d e = omega arith
six-most false false true r d e = omega arith
six-most false false false true d e = omega arith
six-most false false false false true e = omega arith
six-most false false false false false true = omega arith
six-most false false false false false false = omega arith

-- what stands is placed
pub standing-placed-with : (p : Position) → standing_with p ≡ 0 → placing_with p ≡ 0
unfolding standing_with
standing-placed-with p z = eqb-true (placing_with p) 0 (go (eqb (placing_with p) 0) refl z)
  where
    go : (a : Bool) → eqb (placing_with p) 0 ≡ a → cond a (cond (other_in_check p) 6 0) (placing_with p) ≡ 0 → a ≡ true
    go true e z = refl
    go false e z = absurd (eqb-false (placing_with p) 0 e z)

pub placed-men-with : (p : Position) → placing_with p ≡ 0 → bad_men_of p.first p.second ≡ false
unfolding placing_with
placed-men-with p z =
    (six (bad_men_of p.first p.second) (bad_side p) (bad_square p) (bad_pawn p) (shared_square p) (kings_touch p) z).0

pub placed-side-with : (p : Position) → placing_with p ≡ 0 → p.side < 2
unfolding placing_with bad_side
placed-side-with p z =
    let t = six (bad_men_of p.first p.second) (bad_side p) (bad_square p) (bad_pawn p) (shared_square p) (kings_touch p)
    z in
    leb-false 2 p.side
    (either (leb 2 p.side) (all (λ m. ltb m.colour 2) (board_of p).men) t.1).0

pub placing-with-most : (p : Position) → placing_with p ≤ 18
unfolding placing_with
placing-with-most p =
    six-most (bad_men_of p.first p.second) (bad_side p) (bad_square p) (bad_pawn p) (shared_square p) (kings_touch p)

pub standing-with-most : (p : Position) → standing_with p ≤ 18
unfolding standing_with
standing-with-most p = or-six (eqb (placing_with p) 0) (other_in_check p) (placing_with p) (placing-with-most p)
  where
    or-six : (a b : Bool) (n : ℕ) → n ≤ 18 → cond a (cond b 6 0) n ≤ 18
    or-six true true n h = omega arith
    or-six true false n h = omega arith
    or-six false b n h = omega arith

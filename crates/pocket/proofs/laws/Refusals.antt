-- When the pocket look-up refuses with 11, and that each of its answers tells something of its own.
use Rattle.std.specs.Prelude.{◌≡◌, refl, Bool, true, false, cond, not, ◌↔◌, List, ℕ, ◌≤◌, eqb, length, Err, Ok, Result}
use Rattle.std.proofs.Common.{ap, arith}
use borrow.Author.Tests.{eq-eqb, eqb-true}
use Rattle.position.specs.declared.Position.{Position}
use Rattle.position.specs.Keyed.{board_of}
use Rattle.position.specs.Refusals.{standing_refusal}
use Rattle.position.proofs.laws.PlacedLaws.{standing-most}
use Rattle.numbering.specs.Number.{number_of}
use Rattle.pocket.specs.declared.PocketAnswer.{PocketAnswer}
use Rattle.pocket.specs.Pocket.{pocket_size, entry_at, Told, win, loss, draw, refusing, told_by, entry_tells, pocket_look_up_of}

-- ---- "gives 11 exactly when a legal position's entry is 0"

refused-zero : entry_tells 0 ≡ refusing 11
unfolding entry_tells
refused-zero = refl

eleven-entry : (n : ℕ) → (entry_tells n).refusal ≡ 11 → n ≡ 0
unfolding entry_tells
eleven-entry n e = go (eqb n 0) refl (eqb n 1) (eqb n 2) e
  where
    go : (a : Bool) → eqb n 0 ≡ a → (b c : Bool) → (cond a (refusing 11) (cond b draw (cond c win loss))).refusal ≡ 11
        → n ≡ 0
    go true z b c e = eqb-true n 0 z
    go false z true c e = absurd (omega arith)
    go false z false true e = absurd (omega arith)
    go false z false false e = absurd (omega arith)

eleven-by : (s n : ℕ) (a l : Bool) → s ≤ 6
    → (cond (not a) (refusing s) (cond (not l) (refusing 7) (entry_tells n))).refusal ≡ 11
    → (a ≡ true) × (l ≡ true) × (n ≡ 0)
eleven-by s n false l h e = absurd (omega arith)
eleven-by s n true false h e = absurd (omega arith)
eleven-by s n true true h e = (refl, refl, eleven-entry n e)

module _ (pocket : List ℕ) (p : Position) where
  pub eleven-exactly : (pocket_look_up_of pocket p ≡ refusing 11) ↔ ((standing_refusal p ≡ 0)
      × (length pocket ≡ pocket_size) × (entry_at pocket (number_of (board_of p)) ≡ 0))
  unfolding pocket_look_up_of
  eleven-exactly = (
    λ e. let r =
        eleven-by (standing_refusal p) (entry_at pocket (number_of (board_of p))) (eqb (standing_refusal p) 0)
        (eqb (length pocket) pocket_size) (standing-most p) (ap (λ (t : Told). t.refusal) e) in
        (eqb-true (standing_refusal p) 0 r.0, eqb-true (length pocket) pocket_size r.1, r.2),
    back,
  )
    where
      back : (standing_refusal p ≡ 0) × (length pocket ≡ pocket_size) × (entry_at pocket (number_of (board_of p)) ≡ 0)
          → pocket_look_up_of pocket p ≡ refusing 11
      back x = rw (eq-eqb (standing_refusal p) 0 x.0, eq-eqb (length pocket) pocket_size x.1, x.2) refused-zero

-- ---- what is told determines the answer

value_of : {s t : Told} → s ≡ t → s.value ≡ t.value
value_of e = ap (λ (x : Told). x.value) e

pub told-one : (a b : Result PocketAnswer ℕ) → told_by a ≡ told_by b → a ≡ b
told-one (Ok PocketAnswer.Win) (Ok PocketAnswer.Win) e = refl
told-one (Ok PocketAnswer.Win) (Ok PocketAnswer.Loss) e = absurd (omega (arith, value_of e))
told-one (Ok PocketAnswer.Win) (Ok PocketAnswer.Draw) e = absurd (omega (arith, value_of e))
told-one (Ok PocketAnswer.Win) (Err n) e = absurd (omega (arith, value_of e))
told-one (Ok PocketAnswer.Loss) (Ok PocketAnswer.Win) e = absurd (omega (arith, value_of e))
told-one (Ok PocketAnswer.Loss) (Ok PocketAnswer.Loss) e = refl
told-one (Ok PocketAnswer.Loss) (Ok PocketAnswer.Draw) e = absurd (omega (arith, value_of e))
told-one (Ok PocketAnswer.Loss) (Err n) e = absurd (omega (arith, value_of e))
told-one (Ok PocketAnswer.Draw) (Ok PocketAnswer.Win) e = absurd (omega (arith, value_of e))
told-one (Ok PocketAnswer.Draw) (Ok PocketAnswer.Loss) e = absurd (omega (arith, value_of e))
told-one (Ok PocketAnswer.Draw) (Ok PocketAnswer.Draw) e = refl
told-one (Ok PocketAnswer.Draw) (Err n) e = absurd (omega (arith, value_of e))
told-one (Err n) (Ok PocketAnswer.Win) e = absurd (omega (arith, value_of e))
told-one (Err n) (Ok PocketAnswer.Loss) e = absurd (omega (arith, value_of e))
told-one (Err n) (Ok PocketAnswer.Draw) e = absurd (omega (arith, value_of e))
told-one (Err n) (Err m) e = ap Err (ap (λ (x : Told). x.refusal) e)

-- Refusals by number: none has 0, and each has its own.
use Rattle.std.specs.Prelude.{◌≡◌, cond, ℕ, eqb, Result, Ok, Err}
use Rattle.std.proofs.Common.{sym, ap, ◌∙◌, arith, ne_eqb}
use Rattle.desk_refusals.specs.declared.Refusal.{Refusal}
use Rattle.desk_refusals.specs.Numbers.{number_of, by_number, refused}

pub some-number : (r : Refusal) → number_of r ≡ 0 → ⊥
some-number Refusal.BadMan e = omega (arith, e)
some-number Refusal.BadSide e = omega (arith, e)
some-number Refusal.BadSquare e = omega (arith, e)
some-number Refusal.SharedSquare e = omega (arith, e)
some-number Refusal.KingsTouch e = omega (arith, e)
some-number Refusal.OtherInCheck e = omega (arith, e)
some-number Refusal.TableLength e = omega (arith, e)
some-number Refusal.NumberTooHigh e = omega (arith, e)
some-number Refusal.NumberUnused e = omega (arith, e)
some-number Refusal.TooDeep e = omega (arith, e)
some-number Refusal.Inconsistent e = omega (arith, e)
some-number Refusal.BadLine e = omega (arith, e)
some-number Refusal.BadCheck e = omega (arith, e)
some-number Refusal.WrongSet e = omega (arith, e)
some-number Refusal.NotInSet e = omega (arith, e)
some-number Refusal.TooManyPlies e = omega (arith, e)
some-number Refusal.NotAccepted e = omega (arith, e)
some-number Refusal.BadPawn e = omega (arith, e)
some-number Refusal.TooManyQuiet e = omega (arith, e)

-- nothing is refused exactly where the number is 0
pub none-refused : {A : Type 0} (r : Result A Refusal) (x : A) → r ≡ Ok x → refused r ≡ 0
none-refused r x e = ap refused e

pub some-refused : {A : Type 0} (r : Result A Refusal) (e : Refusal) → r ≡ Err e → refused r ≡ number_of e
some-refused r e q = ap refused q

-- what follows a refusal is not asked
pub stays-refused : {A : Type 0} (e : Refusal) (n : ℕ) (x y : A) → n ≡ number_of e → y ≡ cond (eqb n 0) x y
stays-refused e n x y q = sym (rw (ne_eqb n 0 (λ z. some-number e (sym q ∙ z))))

-- an answer that hands on what the call s was refused by, whose number is n
pub handed-on : {A B : Type 0} (r : Result A Refusal) (s : Result B Refusal) (d e : Refusal) (n : ℕ) → s ≡ Err e → refused s ≡ n
    → r ≡ Err d → d ≡ e → (by_number r ≡ Err n) × (refused r ≡ n) × (n ≡ 0 → ⊥)
handed-on r s d e n q k f g =
    let m = sym (some-refused s e q) ∙ k in (
      ap by_number f ∙ ap Err (ap number_of g ∙ m),
      ap refused f ∙ ap number_of g ∙ m,
      λ z. some-number e (m ∙ z),
    )

-- two refusals have two numbers
pub one-number : (r s : Refusal) → number_of r ≡ number_of s → r ≡ s
one-number = grind arith

-- and two answers that are one by number are one
pub one-answer : {A : Type 0} (r s : Result A Refusal) → by_number r ≡ by_number s → r ≡ s
one-answer (Ok x) (Ok y) e = grind arith
one-answer (Ok x) (Err s) e = grind arith
one-answer (Err r) (Ok y) e = grind arith
one-answer (Err r) (Err s) e = grind arith

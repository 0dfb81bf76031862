-- What filling promises for every ending, and working back for those of pieces, on any input. Definitions only.
use Rattle.std.specs.Prelude.{◌≡◌, false, cond, List, ℕ, T, Err, Option, Result}
use Rattle.table_theory.specs.Tables.{Outcome}
use Rattle.endings.specs.Answers.{result_of, Fill}
use Rattle.numbering.specs.declared.Material.{Material}
use Rattle.numbering.specs.Material.{known, given}
use Rattle.four_men.specs.Lending.{Lent}
use Rattle.four_men.specs.Answers.{lengths_fit, lent_accepted, fill_with}
use Rattle.four_men.specs.Truth.{FillTrueOf}

-- what the passes come to, given as an answer and left in the table
pub record Fills (o : Outcome) (answer : Result (Option ℕ) ℕ) (bytes : List ℕ) : Type 0 where
  pub answered : answer ≡ result_of o.result
  pub left : bytes ≡ o.bytes

-- Its answer and the table's bytes by their definition, and beside it what is true of them: "the large table stays as
-- it was" where 1, 7 or 17 is given; 10 leaves it all zero.
pub record FillPromiseWith (m : Material) (l : Lent) (t : List ℕ) (answer : Result (Option ℕ) ℕ) (bytes : List ℕ) : Type 0 where
  pub answered : answer ≡ (fill_with m l t).answer
  pub left : bytes ≡ (fill_with m l t).bytes
  pub refused-1 : given m ≡ false → (answer ≡ Err 1) × (bytes ≡ t)
  pub refused-7 : T (given m) → lengths_fit m l t ≡ false → (answer ≡ Err 7) × (bytes ≡ t)
  pub refused-17 : T (given m) → T (lengths_fit m l t) → lent_accepted m l ≡ false → (answer ≡ Err 17) × (bytes ≡ t)
  pub else-true : T (given m) → T (lengths_fit m l t) → T (lent_accepted m l) → FillTrueOf m (record { answer = answer; bytes = bytes })

-- Working back (P11) is for pieces: king and pawn is refused 1, "except in the parts of P1, P4, P7 and P11".
unfoldable pub fill_back_with : Material → Lent → List ℕ → Fill
fill_back_with m l t = cond (known m) (fill_with m l t) (record { answer = Err 1; bytes = t })

-- the same promises, of endings of pieces
pub record FillBackPromise (m : Material) (l : Lent) (t : List ℕ) (answer : Result (Option ℕ) ℕ) (bytes : List ℕ) : Type 0 where
  pub answered : answer ≡ (fill_back_with m l t).answer
  pub left : bytes ≡ (fill_back_with m l t).bytes
  pub refused-1 : known m ≡ false → (answer ≡ Err 1) × (bytes ≡ t)
  pub pieces : T (known m) → FillPromiseWith m l t answer bytes

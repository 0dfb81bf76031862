-- After a fill every legal position's byte is its true value and depth; the checker accepts it; refusal 10 is given exactly where a depth
-- exceeds 253, and leaves the table all zero (demand 2).
use Rattle.std.specs.Prelude.{◌≡◌, refl, not, ◌↔◌, List, ℕ, ◌<◌, ◌≤◌, T, length, get_or, Ok, Err, Result, Some, None, Option}
use Rattle.std.proofs.Common.{sym, ap₂, subst, ◌∙◌, inr, arith}
use borrow.Author.Tests.{lt-leb, le-leb, eq-eqb, ne_eqb}
use Rattle.theory.proofs.laws.TrueBytes.{byte-is}
use Rattle.table_theory.specs.Tables.{Result as FillEnd, undecided, deepest, too_deep, Outcome, filled}
use Rattle.table_theory.proofs.laws.Acceptance.{one-true-table}
use Rattle.table_theory.proofs.laws.Filling.{SomeDepth, FillRight, fill-right, filled-small, filled-length}
use Rattle.rules.specs.declared.Piece.{Piece}
use Rattle.rules.specs.Rules.{empty}
use Rattle.rules.specs.Chess.{chess}
use Rattle.numbering.specs.Number.{number_of}
use Rattle.answers.specs.declared.Checked.{Checked}
use Rattle.endings.specs.Ending.{table_size, ending}
use Rattle.endings.proofs.laws.EndingLaws.{has-man, lawful, outer-true, outer-drawn}
use Rattle.endings.specs.Truth.{TrueTable}
use Rattle.endings.specs.Answers.{check_of, result_of, fill_of}
use Rattle.endings.proofs.laws.Checking.{true-chess, accepts-true-only}
use Rattle.endings.specs.FilledTrue.{Decided, FillTrue, FillPromise, Shallow}

module _ (kind : ℕ) (t : List ℕ) (known : kind < 4) (long : length t ≡ table_size) where
  abbrev outcome : Outcome
  outcome = filled chess (ending kind) t

  fill_is : fill_of kind t ≡ record { answer = result_of outcome.result; bytes = outcome.bytes }
  unfolding fill_of
  fill_is = rw (lt-leb 4 kind known, eq-eqb (length t) table_size long)

  pub filled-true : FillTrue kind (fill_of kind t)
  unfolding ending lawful FillRight
  filled-true =
      rw fill_is
      (go outcome.result outcome.bytes
      (fill-right chess (ending kind) (lawful kind) (outer-true kind) (outer-drawn kind) t long))
    where
      there : (n : ℕ) → SomeDepth chess (ending kind) (lawful kind) n → Decided kind n
      there n x = (x.0, x.1.legality, has-man kind x.0 x.1 x.2, x.3)

      back : (n : ℕ) → Decided kind n → SomeDepth chess (ending kind) (lawful kind) n
      back n d = (
        d.0,
        record { legality = d.1; men = inr d.2 },
        subst (λ (l : List Piece). T (not (empty l))) (sym d.2.1.1) tt,
        d.3,
      )

      go : (r : FillEnd) (u : List ℕ) → FillRight chess (ending kind) (lawful kind) r u
          → FillTrue kind (record { answer = result_of r; bytes = u })
      go undecided u w = FillTrue.none-decided refl ((true-chess kind u).0 w.0) (λ n d. w.1 n (back n d))
      go (deepest n) u w =
          FillTrue.greatest n refl ((true-chess kind u).0 w.0) (there n w.1) (λ m d. w.2 m (back m d)) w.3
      go too_deep u w = FillTrue.too-deep refl w.0 w.1.0 w.1.1 (there w.1.0 w.1.2)

  -- what it leaves is bytes
  pub fill-small : (n : ℕ) → get_or (fill_of kind t).bytes n 0 < 256
  fill-small n = rw fill_is (filled-small chess (ending kind) t n)

  pub fill-keeps-length : length (fill_of kind t).bytes ≡ table_size
  fill-keeps-length = rw fill_is (filled-length chess (ending kind) t ∙ long)

  -- 10 is given exactly where a depth exceeds 253
  pub refused-10 : ((fill_of kind t).answer ≡ Err 10) ↔ ((n : ℕ) × (253 < n) × Decided kind n)
  refused-10 = (forth filled-true, back filled-true)
    where
      forth : FillTrue kind (fill_of kind t) → (fill_of kind t).answer ≡ Err 10
          → (n : ℕ) × (253 < n) × Decided kind n
      forth (FillTrue.greatest n e w d m l) f = let z : ◌≡◌ {A = ℕ} 0 1 = cc in absurd (omega arith)
      forth (FillTrue.none-decided e w d) f = let z : ◌≡◌ {A = ℕ} 0 1 = cc in absurd (omega arith)
      forth (FillTrue.too-deep e z n h d) f = (n, h, d)

      back : FillTrue kind (fill_of kind t) → (n : ℕ) × (253 < n) × Decided kind n
          → (fill_of kind t).answer ≡ Err 10
      back (FillTrue.greatest n e w d m l) x = absurd (omega (arith, m x.0 x.2, x.1))
      back (FillTrue.none-decided e w d) x = absurd (d x.0 x.2)
      back (FillTrue.too-deep e z n h d) x = e

  -- a table that filling wrote is accepted
  pub filled-accepted : ((fill_of kind t).answer ≡ Err 10 → ⊥)
      → check_of kind (fill_of kind t).bytes ≡ Ok Checked.Accepted
  filled-accepted no? = go filled-true
    where
      accept : TrueTable kind (fill_of kind t).bytes → check_of kind (fill_of kind t).bytes ≡ Ok Checked.Accepted
      accept w = (accepts-true-only kind (fill_of kind t).bytes).1 (known, fill-keeps-length, w)

      go : FillTrue kind (fill_of kind t) → check_of kind (fill_of kind t).bytes ≡ Ok Checked.Accepted
      go (FillTrue.greatest n e w d m l) = accept w
      go (FillTrue.none-decided e w d) = accept w
      go (FillTrue.too-deep e z n h d) = absurd (no? e)

-- where a true table is bytes, no depth exceeds 253
pub true-shallow : (kind : ℕ) (t : List ℕ) → TrueTable kind t → ((n : ℕ) → get_or t n 0 < 256) → Shallow kind
true-shallow kind t w small n h d =
    let e = (byte-is chess d.0 (get_or t (number_of d.0) 0) n (w.legal-true d.0 d.1 d.2)).1 d.3 in
    omega (arith, small (number_of d.0), e, h)

-- the checker accepts one table for each ending
pub one-accepted : (kind : ℕ) (t u : List ℕ) → check_of kind t ≡ Ok Checked.Accepted → check_of kind u ≡ Ok Checked.Accepted
    → t ≡ u
unfolding ending
one-accepted kind t u a b =
    let x = (accepts-true-only kind t).0 a in
    let y = (accepts-true-only kind u).0 b in
    one-true-table chess (ending kind) t u x.1 y.1 ((true-chess kind t).1 x.2) ((true-chess kind u).1 y.2)

-- ---- on any input

pub fill-man : (kind : ℕ) (t : List ℕ) → 4 ≤ kind
    → (Err 1 ≡ (fill_of kind t).answer) × (t ≡ (fill_of kind t).bytes)
unfolding fill_of
fill-man kind t h = (sym (rw (le-leb 4 kind h)), sym (rw (le-leb 4 kind h)))

pub fill-length : (kind : ℕ) (t : List ℕ) → kind < 4 → (length t ≡ table_size → ⊥)
    → (Err 7 ≡ (fill_of kind t).answer) × (t ≡ (fill_of kind t).bytes)
unfolding fill_of
fill-length kind t h n = (
  sym (rw (lt-leb 4 kind h, ne_eqb (length t) table_size n)),
  sym (rw (lt-leb 4 kind h, ne_eqb (length t) table_size n)),
)

-- what filling is by its definition, it is in truth
pub fill-promised : (kind : ℕ) (t : List ℕ) (a : Result (Option ℕ) ℕ) (u : List ℕ) → a ≡ (fill_of kind t).answer
    → u ≡ (fill_of kind t).bytes → FillPromise kind t a u
fill-promised kind t a u e f = record {
  answered = e;
  left = f;
  refused-1 = λ h. let w = fill-man kind t h in (e ∙ sym w.0, f ∙ sym w.1);
  refused-7 = λ h n. let w = fill-length kind t h n in (e ∙ sym w.0, f ∙ sym w.1);
  else-true = λ h l. subst (FillTrue kind)
      (ap₂ (λ (x : Result (Option ℕ) ℕ) (y : List ℕ). record { answer = x; bytes = y }) (sym e) (sym f))
      (filled-true kind t h l);
}

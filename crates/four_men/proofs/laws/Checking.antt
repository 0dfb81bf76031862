-- Checking accepts a table exactly when it is the true one and the lent ones are accepted; 17 is given exactly where
-- one of these is not (demand 2).
use Rattle.std.specs.Prelude.{◌≡◌, refl, Bool, true, false, cond, not, ◌↔◌, List, ℕ, ◌≤◌, ltb, eqb, length, get_or, Err, Ok, Result}
use Rattle.std.proofs.Common.{sym, ◌∙◌, eqb→eq, le-ltb, ltb-false}
use Rattle.std.proofs.Math.Path.{subst}
use Rattle.std.proofs.Math.Logic.{inl}
use native.Mathlib.Omega.{arith}
use Rattle.std.proofs.Math.Dec.{T}
use Rattle.finite.specs.Truth.{and_left, fails, refuted, of-true, true_of}
use Rattle.finite.specs.Lowest.{lowest, lowest-none, lowest-le}
use Rattle.theory.specs.Value.{TrueByte}
use Rattle.table_theory.specs.Tables.{wrong_at, Accepted, True}
use Rattle.table_theory.proofs.laws.Acceptance.{accepted-true, true-accepted, true-reads, reads-inside, one-true-table}
use Rattle.rules.specs.Chess.{chess}
use Rattle.answers.specs.declared.Checked.{Checked}
use Rattle.endings.specs.Ending.{table_size}
use Rattle.numbering.specs.declared.Material.{Material}
use Rattle.numbering.specs.Material.{given, large_size, size_of}
use Rattle.pawn_numbers.specs.PawnNumber.{pawn_size}
use Rattle.index.specs.Endings.{board_for}
use Rattle.four_men.specs.Lending.{Lent}
use Rattle.four_men.specs.Reading.{numbered}
use Rattle.four_men.specs.Answers.{lengths_fit, lent_accepted, check_with}
use Rattle.four_men.specs.Truth.{TrueTableOf}
use Rattle.four_men.specs.CheckedTrue.{CheckPromiseWith}
use Rattle.four_men.proofs.laws.Materials.{full-of}
use Rattle.four_men.proofs.laws.Captures.{own_of}
use Rattle.four_men.proofs.laws.Given.{live-at-for, lawful_for, outer-true-for}

-- the lengths that fit
pub long_of : (m : Material) (l : Lent) (t : List ℕ) → T (lengths_fit m l t) → length t ≡ size_of m
long_of (Material.One kind) l t h = eqb→eq (length t) table_size h
long_of Material.Pawn l t h = eqb→eq (length t) pawn_size (and_left (eqb (length t) pawn_size) _ h)
long_of (Material.Two j k r) l t h = eqb→eq (length t) large_size (and_left (eqb (length t) large_size) _ h)

module _ (m : Material) (w : T (given m)) (l : Lent) (t : List ℕ) (ok : T (lent_accepted m l)) where
  -- the true table in the words of chess and of `table_theory`
  pub true-chess-with : True chess (numbered m l) t ↔ TrueTableOf m t
  unfolding numbered lawful_for
  true-chess-with = (forth, back)
    where
      forth : True chess (numbered m l) t → TrueTableOf m t
      forth v = record {
        legal-true =
            λ b g e. subst (TrueByte chess b) (reads-inside chess (numbered m l) t b (full-of m b.men e))
            (true-reads chess (numbered m l) (lawful_for m w l) t (outer-true-for m w l ok) v b
            (record { legality = g; men = inl e }));
        others-zero = v.others-zero;
      }

      back : TrueTableOf m t → True chess (numbered m l) t
      back v = record {
        legal-true = λ n h g. let a = live-at-for m w n h g in
            subst (λ (k : ℕ). TrueByte chess (board_for m n) (get_or t k 0)) a.2
            (v.legal-true (board_for m n) a.0.legality (own_of m (board_for m n) a.0 a.1));
        others-zero = v.others-zero;
      }

-- ---- the checker's answer

accepted-by : (a b c d : Bool) (n : ℕ)
    → cond {A = (Result Checked ℕ)} (not a) (Err 1)
    (cond (not b) (Err 7)
    (cond (not c) (Err 17) (cond d (Ok (Checked.Wrong n)) (Ok Checked.Accepted)))) ≡ Ok Checked.Accepted
    → (a ≡ true) × (b ≡ true) × (c ≡ true) × (d ≡ false)
accepted-by false b c d n e = let z : ◌≡◌ {A = ℕ} 0 1 = cc in absurd (omega arith)
accepted-by true false c d n e = let z : ◌≡◌ {A = ℕ} 0 1 = cc in absurd (omega arith)
accepted-by true true false d n e = let z : ◌≡◌ {A = ℕ} 0 1 = cc in absurd (omega arith)
accepted-by true true true true n e = let z : ◌≡◌ {A = ℕ} 0 1 = cc in absurd (omega arith)
accepted-by true true true false n e = (refl, refl, refl, refl)

seventeen-by : (a b c d : Bool) (n : ℕ)
    → cond {A = (Result Checked ℕ)} (not a) (Err 1)
    (cond (not b) (Err 7)
    (cond (not c) (Err 17) (cond d (Ok (Checked.Wrong n)) (Ok Checked.Accepted)))) ≡ Err 17
    → (a ≡ true) × (b ≡ true) × (c ≡ false)
seventeen-by false b c d n e = let z : ◌≡◌ {A = ℕ} 1 17 = cc in absurd (omega arith)
seventeen-by true false c d n e = let z : ◌≡◌ {A = ℕ} 7 17 = cc in absurd (omega arith)
seventeen-by true true false d n e = (refl, refl, refl)
seventeen-by true true true true n e = let z : ◌≡◌ {A = ℕ} 0 1 = cc in absurd (omega arith)
seventeen-by true true true false n e = let z : ◌≡◌ {A = ℕ} 0 1 = cc in absurd (omega arith)

module _ (m : Material) (l : Lent) (t : List ℕ) where
  abbrev low : ℕ
  low = lowest (wrong_at chess (numbered m l) t) (size_of m)

  none-wrong : (size_of m ≤ low) ↔ Accepted chess (numbered m l) t
  unfolding numbered
  none-wrong = (
    λ e n h. fails (wrong_at chess (numbered m l) t n)
        (λ w. omega (arith, lowest-le (wrong_at chess (numbered m l) t) (size_of m) n h w)),
    λ ok. let e = lowest-none (wrong_at chess (numbered m l) t) (size_of m) (λ n h w. refuted (ok n h) w) in omega arith,
  )

  pub accepted-with : check_with m l t ≡ Ok Checked.Accepted
      → T (given m) × T (lengths_fit m l t) × T (lent_accepted m l) × Accepted chess (numbered m l) t
  unfolding check_with
  accepted-with e =
      let r = accepted-by (given m) (lengths_fit m l t) (lent_accepted m l) (ltb low (size_of m)) low e in
      (of-true r.0, of-true r.1, of-true r.2, none-wrong.0 (ltb-false low (size_of m) r.3))

  -- CHECKING ACCEPTS A TABLE IF AND ONLY IF IT IS THE TRUE ONE, the lent tables being accepted.
  pub accepts-true-with : (check_with m l t ≡ Ok Checked.Accepted)
      ↔ (T (given m) × T (lengths_fit m l t) × T (lent_accepted m l) × TrueTableOf m t)
  unfolding check_with
  accepts-true-with = (forth, back)
    where
      forth : check_with m l t ≡ Ok Checked.Accepted
          → T (given m) × T (lengths_fit m l t) × T (lent_accepted m l) × TrueTableOf m t
      forth e =
          let r = accepted-with e in (
            r.0,
            r.1,
            r.2,
            (true-chess-with m r.0 l t r.2).0
                (accepted-true chess (numbered m l) (lawful_for m r.0 l) t (outer-true-for m r.0 l r.2)
                r.3),
          )

      back : T (given m) × T (lengths_fit m l t) × T (lent_accepted m l) × TrueTableOf m t
          → check_with m l t ≡ Ok Checked.Accepted
      back x =
          rw (
            true_of {b = given m} x.0,
            true_of {b = lengths_fit m l t} x.1,
            true_of {b = lent_accepted m l} x.2,
            le-ltb low (size_of m)
                (none-wrong.1
                (true-accepted chess (numbered m l) (lawful_for m x.0 l) t (outer-true-for m x.0 l x.2)
                ((true-chess-with m x.0 l t x.2).1 x.3))),
          )

  -- 17 IS GIVEN EXACTLY WHERE A LENT TABLE IS NOT ACCEPTED, 1 and 7 not refusing.
  pub checked-17 : (check_with m l t ≡ Err 17)
      ↔ (T (given m) × T (lengths_fit m l t) × (lent_accepted m l ≡ false))
  unfolding check_with
  checked-17 = (
    λ e. let r = seventeen-by (given m) (lengths_fit m l t) (lent_accepted m l) (ltb low (size_of m)) low e in
        (of-true r.0, of-true r.1, r.2),
    λ x. rw (true_of {b = given m} x.0, true_of {b = lengths_fit m l t} x.1, x.2),
  )

  -- the definition's answer keeps the promise
  pub check-promised-with : (r : Result Checked ℕ) → r ≡ check_with m l t → CheckPromiseWith m l t r
  check-promised-with r e = record {
    answered = e;
    true-only = (λ a. accepts-true-with.0 (sym e ∙ a), λ x. e ∙ accepts-true-with.1 x);
    not-accepted = (λ a. checked-17.0 (sym e ∙ a), λ x. e ∙ checked-17.1 x);
  }

-- the checker accepts one table for each ending
pub one-accepted-with : (m : Material) (l : Lent) (t u : List ℕ) → check_with m l t ≡ Ok Checked.Accepted
    → check_with m l u ≡ Ok Checked.Accepted → t ≡ u
unfolding numbered
one-accepted-with m l t u a b =
    let x = (accepts-true-with m l t).0 a in
    let y = (accepts-true-with m l u).0 b in
    one-true-table chess (numbered m l) t u (long_of m l t x.1) (long_of m l u y.1)
    ((true-chess-with m x.0 l t x.2).1 x.3) ((true-chess-with m y.0 l u y.2).1 y.3)

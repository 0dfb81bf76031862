-- After a fill every legal position's byte is its true value and depth; 17, like 1 and 7, leaves the table as it was
-- (demand 2).
use Rattle.std.specs.Prelude.{◌≡◌, refl, Bool, true, false, cond, not, ◌↔◌, List, ℕ, ◌<◌, T, length, Err, Ok}
use Rattle.std.proofs.Math.Path.{ap}
use Rattle.std.proofs.Common.{inl, arith}
use Rattle.finite.specs.Truth.{true_of, of-true}
use Rattle.table_theory.specs.Tables.{Result as FillEnd, undecided, deepest, too_deep, Outcome}
use Rattle.table_theory.specs.Lending.{filled_until}
use Rattle.table_theory.proofs.laws.Filling.{SomeDepth, FillRight}
use Rattle.table_theory.proofs.laws.LentFilling.{lent-fill-right, lent-fill-length}
use Rattle.rules.specs.Chess.{chess}
use Rattle.answers.specs.declared.Checked.{Checked}
use Rattle.endings.specs.Answers.{result_of, Fill}
use Rattle.numbering.specs.declared.Material.{Material}
use Rattle.numbering.specs.Material.{given}
use Rattle.four_men.specs.Lending.{Lent, borrowed}
use Rattle.four_men.specs.Reading.{numbered, holds_depth}
use Rattle.four_men.specs.Answers.{lengths_fit, lent_accepted, check_with, fill_with}
use Rattle.four_men.specs.Truth.{TrueTableOf, DecidedOf, FillTrueOf, LentBytes}
use Rattle.four_men.proofs.laws.Materials.{full-of}
use Rattle.four_men.proofs.laws.Captures.{own_of}
use Rattle.four_men.proofs.laws.Given.{lawful_for, outer-true-for, lent-held-for}
use Rattle.four_men.proofs.laws.Lent.{bytes-end}
use Rattle.four_men.proofs.laws.Checking.{long_of, true-chess-with, accepts-true-with}

-- filling itself gives no 17
never-17 : (r : FillEnd) → result_of r ≡ Err 17 → ⊥
never-17 undecided e = let z : ◌≡◌ {A = ℕ} 0 1 = cc in omega arith
never-17 (deepest n) e = let z : ◌≡◌ {A = ℕ} 0 1 = cc in omega arith
never-17 too_deep e = let z : ◌≡◌ {A = ℕ} 10 17 = cc in omega arith

seventeen-by : (a b c : Bool) (t : List ℕ) (o : Outcome)
    → (cond {A = Fill} (not a) (record { answer = Err 1; bytes = t })
    (cond (not b) (record { answer = Err 7; bytes = t })
    (cond (not c) (record { answer = Err 17; bytes = t })
    (record { answer = result_of o.result; bytes = o.bytes })))).answer ≡ Err 17
    → (a ≡ true) × (b ≡ true) × (c ≡ false)
seventeen-by false b c t o e = let z : ◌≡◌ {A = ℕ} 1 17 = cc in absurd (omega arith)
seventeen-by true false c t o e = let z : ◌≡◌ {A = ℕ} 7 17 = cc in absurd (omega arith)
seventeen-by true true false t o e = (refl, refl, refl)
seventeen-by true true true t o e = absurd (never-17 o.result e)

module _ (m : Material) (l : Lent) (t : List ℕ) where
  -- ---- what is refused leaves the table as it was

  pub filled-1 : given m ≡ false → fill_with m l t ≡ record { answer = Err 1; bytes = t }
  unfolding fill_with
  filled-1 e = rw e

  pub filled-7 : T (given m) → lengths_fit m l t ≡ false
      → fill_with m l t ≡ record { answer = Err 7; bytes = t }
  unfolding fill_with
  filled-7 w e = rw (true_of {b = given m} w, e)

  pub filled-17 : T (given m) → T (lengths_fit m l t) → lent_accepted m l ≡ false
      → fill_with m l t ≡ record { answer = Err 17; bytes = t }
  unfolding fill_with
  filled-17 w h e = rw (true_of {b = given m} w, true_of {b = lengths_fit m l t} h, e)

  -- 17 IS GIVEN EXACTLY WHERE A LENT TABLE IS NOT ACCEPTED, 1 and 7 not refusing.
  pub filled-17-exactly : ((fill_with m l t).answer ≡ Err 17)
      ↔ (T (given m) × T (lengths_fit m l t) × (lent_accepted m l ≡ false))
  unfolding fill_with
  filled-17-exactly = (
    λ e. let o = filled_until chess (numbered m l) (holds_depth (borrowed m l)) t in
        let x = seventeen-by (given m) (lengths_fit m l t) (lent_accepted m l) t o e in
        (of-true x.0, of-true x.1, x.2),
    λ x. ap (λ (f : Fill). f.answer) (filled-17 x.0 x.1 x.2),
  )

  module _ (w : T (given m)) (long : T (lengths_fit m l t)) (ok : T (lent_accepted m l)) where
    abbrev outcome : Outcome
    outcome = filled_until chess (numbered m l) (holds_depth (borrowed m l)) t

    pub fill-with-is : fill_with m l t ≡ record { answer = result_of outcome.result; bytes = outcome.bytes }
    unfolding fill_with
    fill-with-is = rw (true_of {b = given m} w, true_of {b = lengths_fit m l t} long, true_of {b = lent_accepted m l} ok)

    pub sized : length t ≡ (numbered m l).size
    unfolding numbered
    sized = long_of m l t long

    -- FILLING LEAVES THE TRUE TABLE and gives the greatest depth settled, or says that none is decided, or gives 10 and
    -- clears it.
    pub filled-true-with : LentBytes m l → FillTrueOf m (fill_with m l t)
    unfolding numbered lawful_for FillRight
    filled-true-with small =
        rw fill-with-is
        (go outcome.result outcome.bytes
        (lent-fill-right chess (numbered m l) (lawful_for m w l) (outer-true-for m w l ok) (holds_depth (borrowed m l))
        (lent-held-for m w l ok) (bytes-end m l small) t sized))
      where
        there : (n : ℕ) → SomeDepth chess (numbered m l) (lawful_for m w l) n → DecidedOf m n
        there n x = (x.0, x.1.legality, own_of m x.0 x.1 x.2, x.3)

        back : (n : ℕ) → DecidedOf m n → SomeDepth chess (numbered m l) (lawful_for m w l) n
        back n d = (
          d.0,
          record { legality = d.1; men = inl d.2 },
          full-of m d.0.men d.2,
          d.3,
        )

        go : (r : FillEnd) (u : List ℕ) → FillRight chess (numbered m l) (lawful_for m w l) r u
            → FillTrueOf m (record { answer = result_of r; bytes = u })
        go undecided u v =
            FillTrueOf.none-decided refl ((true-chess-with m w l u ok).0 v.0) (λ n d. v.1 n (back n d))
        go (deepest n) u v =
            FillTrueOf.greatest n refl ((true-chess-with m w l u ok).0 v.0) (there n v.1)
            (λ k d. v.2 k (back k d)) v.3
        go too_deep u v = FillTrueOf.too-deep refl v.0 v.1.0 v.1.1 (there v.1.0 v.1.2)

    pub fill-with-length : length (fill_with m l t).bytes ≡ length t
    fill-with-length = rw fill-with-is (lent-fill-length chess (numbered m l) (holds_depth (borrowed m l)) t)

    -- a table that filling wrote is accepted
    pub filled-accepted-with : LentBytes m l → ((fill_with m l t).answer ≡ Err 10 → ⊥)
        → check_with m l (fill_with m l t).bytes ≡ Ok Checked.Accepted
    filled-accepted-with small no? = go (filled-true-with small)
      where
        fits : (m : Material) (u : List ℕ) → length u ≡ length t → T (lengths_fit m l t) → T (lengths_fit m l u)
        fits (Material.One kind) u e h = rw e h
        fits (Material.Two j k r) u e h = rw e h
        fits Material.Pawn u e h = rw e h

        accept : TrueTableOf m (fill_with m l t).bytes → check_with m l (fill_with m l t).bytes ≡ Ok Checked.Accepted
        accept v = (accepts-true-with m l (fill_with m l t).bytes).1
            (w, fits m (fill_with m l t).bytes fill-with-length long, ok, v)

        go : FillTrueOf m (fill_with m l t) → check_with m l (fill_with m l t).bytes ≡ Ok Checked.Accepted
        go (FillTrueOf.greatest n e v d x h) = accept v
        go (FillTrueOf.none-decided e v d) = accept v
        go (FillTrueOf.too-deep e z n h d) = absurd (no? e)

    -- 10 is given exactly where a depth exceeds 253
    pub refused-10-with : LentBytes m l
        → ((fill_with m l t).answer ≡ Err 10) ↔ ((n : ℕ) × (253 < n) × DecidedOf m n)
    refused-10-with small = (forth (filled-true-with small), back (filled-true-with small))
      where
        forth : FillTrueOf m (fill_with m l t) → (fill_with m l t).answer ≡ Err 10
            → (n : ℕ) × (253 < n) × DecidedOf m n
        forth (FillTrueOf.greatest n e v d x h) f = let z : ◌≡◌ {A = ℕ} 0 1 = cc in absurd (omega arith)
        forth (FillTrueOf.none-decided e v d) f = let z : ◌≡◌ {A = ℕ} 0 1 = cc in absurd (omega arith)
        forth (FillTrueOf.too-deep e z n h d) f = (n, h, d)

        back : FillTrueOf m (fill_with m l t) → (n : ℕ) × (253 < n) × DecidedOf m n
            → (fill_with m l t).answer ≡ Err 10
        back (FillTrueOf.greatest n e v d x h) y = absurd (omega (arith, x y.0 y.2, y.1))
        back (FillTrueOf.none-decided e v d) y = absurd (d y.0 y.2)
        back (FillTrueOf.too-deep e z n h d) y = e

-- Filling in steps with lent tables (02, P8 and P10): when a step says done, and what a run from a start comes to.
use Rattle.std.specs.Prelude.{◌≡◌, Bool, true, false, ◌⊎◌, ◌↔◌, List, T, length, get_or, Err}
use Rattle.std.proofs.Math.Path.{refl, sym, ap}
use Rattle.std.proofs.Common.{◌∙◌, inl, inr, arith}
use Prim.Native.Nat.{ℕ, zero, suc, ◌<◌, ◌≤◌, min}
use borrow.Author.Tests.{eq-eqb}
use Rattle.finite.specs.Truth.{true_of, le-or-lt}
use Rattle.finite.specs.Mapped.{length-map_from}
use Rattle.theory.proofs.laws.Passes.{Settled}
use Rattle.table_theory.specs.declared.Progress.{Progress}
use Rattle.table_theory.specs.Tables.{Result as FillEnd, undecided, deepest, too_deep, ended, some_settles, start_byte}
use Rattle.table_theory.specs.Steps.{Said, settled, ends, Stepped, started, last_before, step_at, step_from, steps}
use Rattle.table_theory.proofs.laws.StepLaws.{step-done, step-more, step_skip, step-deep, from-going, from-length}
use Rattle.table_theory.proofs.laws.StepsTrue as runs
use Rattle.rules.specs.Chess.{chess}
use Rattle.endings.specs.Answers.{result_of, Fill}
use Rattle.numbering.specs.declared.Material.{Material}
use Rattle.numbering.specs.Material.{given, size_of}
use Rattle.index.specs.Endings.{board_for}
use Rattle.four_men.specs.Lending.{Lent, borrowed}
use Rattle.four_men.specs.Reading.{legal_number_of, numbered, holds_depth}
use Rattle.four_men.specs.Answers.{lengths_fit, lent_accepted, fill_with}
use Rattle.four_men.specs.Steps.{Call, start_with, step_with, steps_with}
use Rattle.four_men.specs.Truth.{LentBytes}
use Rattle.four_men.proofs.laws.Given.{lawful_for, outer-true-for, lent-held-for}
use Rattle.four_men.proofs.laws.Lent.{bytes-end}
use Rattle.four_men.proofs.laws.Checking.{long_of}
use Rattle.four_men.proofs.laws.Filling.{fill-with-is, sized}

module _ (m : Material) (l : Lent) (t : List ℕ) (p : Progress) (w : T (given m)) (long : T (lengths_fit m l t)) where
  pub step-with-is : step_with m l t p ≡ Call.made (step_from chess (numbered m l) (holds_depth (borrowed m l)) p t)
  unfolding step_with
  step-with-is = rw (true_of {b = given m} w, true_of {b = lengths_fit m l t} long)

-- ---- on any bytes

module _ (m : Material) (l : Lent) (t : List ℕ) (p : Progress) (on : p.stage ≡ 0) where
  abbrev k : ℕ
  k = min p.next 254

  abbrev deeper : ℕ → Bool
  deeper = holds_depth (borrowed m l)

  abbrev step : Stepped
  step = step_from chess (numbered m l) deeper p t

  said-is : (s : Stepped) → step_at chess (numbered m l) deeper k p.last t ≡ s → step.said ≡ s.said
  said-is s e = ap (λ (x : Stepped). x.said) (from-going chess (numbered m l) deeper p t on ∙ e)

  -- A STEP SAYS DONE EXACTLY WHEN IT SETTLES NONE AND NO LENT TABLE HOLDS A DEPTH OF k OR MORE, whatever the bytes and
  -- the progress.
  pub done-exactly : ((r : FillEnd) × (step.said ≡ ends r) × (r ≡ too_deep → ⊥))
      ↔ ((some_settles chess (numbered m l) k t ≡ false) × (holds_depth (borrowed m l) k ≡ false))
  done-exactly = (
    λ x. forth x.0 x.1 x.2 (some_settles chess (numbered m l) k t) refl (deeper k) refl (le-or-lt 254 k),
    λ x. let last = last_before chess (numbered m l) deeper k p.last in (
      ended last,
      said-is _ (step-done chess (numbered m l) deeper k p.last t x.0 x.1),
      never last,
    ),
  )
    where
      never : (last : ℕ) → ended last ≡ too_deep → ⊥
      never zero e = let z : ◌≡◌ {A = ℕ} 0 1 = cc in omega arith
      never (suc n) e = let z : ◌≡◌ {A = ℕ} 0 1 = cc in omega arith

      not-settled : (n : ℕ) (r : FillEnd) → settled n ≡ ends r → ⊥
      not-settled n r e = let z : ◌≡◌ {A = ℕ} 0 1 = cc in omega arith

      same_end : (r : FillEnd) → ends too_deep ≡ ends r → r ≡ too_deep
      same_end r e = cc

      forth : (r : FillEnd) → step.said ≡ ends r → (r ≡ too_deep → ⊥) → (a : Bool)
          → some_settles chess (numbered m l) k t ≡ a → (d : Bool) → deeper k ≡ d → (254 ≤ k) ⊎ (k < 254)
          → (some_settles chess (numbered m l) k t ≡ false) × (deeper k ≡ false)
      forth r e no? false f false g x = (f, g)
      forth r e no? false f true g x =
          absurd (not-settled _ r (sym (said-is _ (step_skip chess (numbered m l) deeper k p.last t f g)) ∙ e))
      forth r e no? true f d g (inl h) =
          absurd
          (no? (same_end r (sym (said-is _ (step-deep chess (numbered m l) deeper k p.last t h f)) ∙ e)))
      forth r e no? true f d g (inr h) =
          absurd (not-settled _ r (sym (said-is _ (step-more chess (numbered m l) deeper k p.last t h f)) ∙ e))

-- ---- from a start

module _ (m : Material) (l : Lent) (t : List ℕ) (w : T (given m)) (long : T (lengths_fit m l t)) where
  abbrev pub ran : ℕ → Stepped
  ran n = steps chess (numbered m l) (holds_depth (borrowed m l)) n (started chess (numbered m l) t)

  fits : (m : Material) (u : List ℕ) → length u ≡ length t → T (lengths_fit m l t) → T (lengths_fit m l u)
  fits (Material.One kind) u e h = rw e h
  fits (Material.Two first second rivals) u e h = rw e h
  fits Material.Pawn u e h = rw e h

  steps-with-is : (n : ℕ) (s : Stepped) → length s.bytes ≡ length t
      → steps_with m l n (Call.made s) ≡ Call.made (steps chess (numbered m l) (holds_depth (borrowed m l)) n s)
  unfolding steps
  steps-with-is zero s e = refl
  steps-with-is (suc n) s e =
      ap (steps_with m l n) (step-with-is m l s.bytes s.progress w (fits m s.bytes e long))
      ∙ steps-with-is n (step_from chess (numbered m l) (holds_depth (borrowed m l)) s.progress s.bytes)
      (from-length chess (numbered m l) (holds_depth (borrowed m l)) s.progress s.bytes ∙ e)

  start-with-is : start_with m t ≡ Call.made (started chess (numbered m l) t)
  unfolding start_with started numbered
  start-with-is = rw (true_of {b = given m} w, eq-eqb (length t) (size_of m) (long_of m l t long))

  start-long : length (started chess (numbered m l) t).bytes ≡ length t
  unfolding started
  start-long = length-map_from (start_byte chess (numbered m l)) 0 t

  -- n steps from a start
  pub run-with-is : (n : ℕ) → steps_with m l n (start_with m t) ≡ Call.made (ran n)
  run-with-is n = ap (steps_with m l n) start-with-is ∙ steps-with-is n (started chess (numbered m l) t) start-long

  module _ (ok : T (lent_accepted m l)) (small : LentBytes m l) where
    -- A RUN THAT SAYS DONE LEAVES WHAT THE SINGLE FILL LEAVES, answer and every byte; so does one that gives 10.
    pub steps-fill-with : (n : ℕ) (r : FillEnd) → (ran n).said ≡ ends r
        → (result_of r ≡ (fill_with m l t).answer) × ((ran n).bytes ≡ (fill_with m l t).bytes)
    unfolding numbered lawful_for
    steps-fill-with n r e =
        let f = fill-with-is m l t w long ok in
        let v = runs.steps-fill chess (numbered m l) (lawful_for m w l) (holds_depth (borrowed m l))
        (outer-true-for m w l ok) (lent-held-for m w l ok) (bytes-end m l small) t (sized m l t w long ok) n r e in
        (ap result_of v.0 ∙ sym (ap (λ (o : Fill). o.answer) f), v.1 ∙ sym (ap (λ (o : Fill). o.bytes) f))

    -- 255 steps have ended.
    pub steps-end-with : (n k : ℕ) → 254 < n → (ran n).said ≡ settled k → ⊥
    unfolding numbered lawful_for
    steps-end-with n k h e =
        runs.steps-end chess (numbered m l) (lawful_for m w l) (holds_depth (borrowed m l)) (outer-true-for m w l ok)
        (lent-held-for m w l ok) (bytes-end m l small) t (sized m l t w long ok) n k h e

    -- THE SINGLE FILL GIVES 10 EXACTLY WHERE A RUN DOES.
    pub steps-ten-with : ((fill_with m l t).answer ≡ Err 10) ↔ ((n : ℕ) × ((ran n).said ≡ ends too_deep))
    steps-ten-with = (
      λ e. (255, go e (ran 255).said refl),
      λ x. sym (steps-fill-with x.0 too_deep x.1).0,
    )
      where
        ten : (r : FillEnd) → result_of r ≡ Err 10 → r ≡ too_deep
        ten undecided e = let z : ◌≡◌ {A = ℕ} 0 1 = cc in absurd (omega arith)
        ten (deepest n) e = let z : ◌≡◌ {A = ℕ} 0 1 = cc in absurd (omega arith)
        ten too_deep e = refl

        go : (fill_with m l t).answer ≡ Err 10 → (a : Said) → (ran 255).said ≡ a
            → (ran 255).said ≡ ends too_deep
        go e (settled k) f = absurd (steps-end-with 255 k (omega arith) f)
        go e (ends r) f = f ∙ ap ends (ten r ((steps-fill-with 255 r f).0 ∙ e))

    -- STEPS PAST THE END CHANGE NOTHING.
    pub steps-past-with : (n : ℕ) (r : FillEnd) → (ran n).said ≡ ends r → (k : ℕ)
        → steps chess (numbered m l) (holds_depth (borrowed m l)) k (ran n) ≡ ran n
    unfolding numbered lawful_for
    steps-past-with n r e k =
        runs.steps-past chess (numbered m l) (lawful_for m w l) (holds_depth (borrowed m l)) (outer-true-for m w l ok)
        (lent-held-for m w l ok) (bytes-end m l small) t (sized m l t w long ok) n r e k

    module _ (n : ℕ) (no-ten : (ran n).said ≡ ends too_deep → ⊥) (i : ℕ) (h : i < size_of m) where
      -- AFTER n STEPS A LEGAL NUMBER HOLDS ITS TRUE BYTE WHERE THE DEPTH IS LESS THAN n, and 1 elsewhere.
      pub steps-true-with : T (legal_number_of m i) → Settled chess n (board_for m i) (get_or (ran n).bytes i 0)
      unfolding numbered lawful_for
      steps-true-with v =
          runs.steps-true chess (numbered m l) (lawful_for m w l) (holds_depth (borrowed m l))
          (outer-true-for m w l ok) (lent-held-for m w l ok) (bytes-end m l small) t (sized m l t w long ok) n no-ten i h v

      -- Every other number holds 0.
      pub steps-zero-with : legal_number_of m i ≡ false → get_or (ran n).bytes i 0 ≡ 0
      unfolding numbered lawful_for
      steps-zero-with v =
          runs.steps-zero chess (numbered m l) (lawful_for m w l) (holds_depth (borrowed m l))
          (outer-true-for m w l ok) (lent-held-for m w l ok) (bytes-end m l small) t (sized m l t w long ok) n no-ten i h v

-- Laws by which the code of a step, of the calls over it and of the fill is proved.
use Rattle.std.specs.Prelude.{◌≡◌, refl, Bool, true, false, cond, not, ◌⊎◌, List, ℕ, zero, suc, ◌+◌, ◌-◌, ◌<◌, ◌≤◌, min, leb, eqb, length, Err, Option, Result}
use Rattle.std.proofs.Common.{sym, ap₂, subst, ◌∙◌, inl, inr, add-one, arith, le-leb, ne_eqb}
use Rattle.std.proofs.Math.Path.{ap, subst⁻¹, fun_ext}
use Rattle.std.proofs.lemmas.Bool.{lt-leb}
use Rattle.finite.specs.Truth.{le-or-lt}
use Rattle.finite.specs.Mapped.{map_from}
use Rattle.table_theory.specs.declared.Progress.{Progress}
use Rattle.table_theory.specs.Tables.{Numbering, Outcome, ended, some_settles, passed}
use Rattle.table_theory.specs.Lending.{passes_until}
use Rattle.table_theory.proofs.laws.LendingLaws.{until-done, until-more, until_skip, until-deep}
use Rattle.table_theory.specs.Steps.{going_on, said_done, gave_ten, settled_by, last_before, step_from}
use Rattle.table_theory.proofs.laws.StepLaws.{settled-some, step-done, step-more, step_skip, step-deep, from-going, from-done, from-ten}
use Rattle.rules.specs.Chess.{chess}
use Rattle.endings.specs.Answers.{result_of}
use Rattle.filling.specs.Steps.{Stepped, Step, Taken, Hands, taken_of, refusing}
use Rattle.filling.specs.Stepping.{deeper_than, last_of, step_over}
use Rattle.working_back.specs.Trying.{Ready}
use Rattle.filling.proofs.laws.Laws.{passed_none}
use Rattle.working_back.proofs.laws.Won.{ready-next}

abbrev says : Stepped → Progress → List ℕ → Taken
says a p t = record { step = record { said = a; progress = p }; bytes = t }

-- what the code hands back, part by part
hands : (a b : Stepped) (p q : Progress) (t u : List ℕ) (o : Taken) → o ≡ says a p t → b ≡ a → q ≡ p → u ≡ t
    → Hands o (record { said = b; progress = q }) u
hands a b p q t u o e f g h = rw (e, f, g, h) (record { step = refl; bytes = refl })

-- ---- what counts as the last depth settled

pub last-first : (k last deepest : ℕ) → k ≡ 0 → 0 ≡ last_of k last deepest
last-first k last deepest e = sym (rw e)

pub last-own : (k last deepest : ℕ) → (k ≡ 0 → ⊥) → deepest < 1 + k → k ≡ last_of k last deepest
last-own zero last deepest n h = absurd (n refl)
last-own (suc k) last deepest n h =
    sym (ap (λ (b : Bool). cond b last (suc k)) (lt-leb (2 + k) deepest (omega arith)))

pub last-kept : (k last deepest : ℕ) → (k ≡ 0 → ⊥) → 1 + k ≤ deepest → last ≡ last_of k last deepest
last-kept zero last deepest n h = absurd (n refl)
last-kept (suc k) last deepest n h =
    sym (ap (λ (b : Bool). cond b last (suc k)) (le-leb (2 + k) deepest (omega arith)))

-- ---- the step for a depth, by what its pass settles and by the greatest byte lent

module _ (N : Numbering chess) (deepest k last : ℕ) (t : List ℕ) where
  abbrev before : ℕ
  before = last_of k last deepest

  last-is : last_before chess N (deeper_than deepest) k last ≡ before
  last-is = go k
    where
      go : (k : ℕ) → last_before chess N (deeper_than deepest) k last ≡ last_of k last deepest
      go zero = refl
      go (suc j) = refl

  over_done : some_settles chess N k t ≡ false → deepest < 2 + k
      → step_over N deepest k last t ≡ says (Stepped.Says (result_of (ended before))) (said_done k before) t
  unfolding step_over
  over_done e d =
      ap taken_of (step-done chess N (deeper_than deepest) k last t e (lt-leb (2 + k) deepest d)) ∙ rw last-is

  over_skip : some_settles chess N k t ≡ false → 2 + k ≤ deepest
      → step_over N deepest k last t
      ≡ says (Stepped.Settled (settled_by chess N k t)) (going_on (suc k) before) (passed chess N k t)
  unfolding step_over
  over_skip e d =
      ap taken_of (step_skip chess N (deeper_than deepest) k last t e (le-leb (2 + k) deepest d)) ∙ rw last-is

  over-more : k < 254 → some_settles chess N k t ≡ true
      → step_over N deepest k last t
      ≡ says (Stepped.Settled (settled_by chess N k t)) (going_on (suc k) (suc k)) (passed chess N k t)
  unfolding step_over
  over-more h e = ap taken_of (step-more chess N (deeper_than deepest) k last t h e)

  over-deep : 254 ≤ k → some_settles chess N k t ≡ true
      → step_over N deepest k last t
      ≡ says (Stepped.Says (Err 10)) (gave_ten k before) (map_from (λ n b. 0) 0 t)
  unfolding step_over
  over-deep h e = ap taken_of (step-deep chess N (deeper_than deepest) k last t h e) ∙ rw last-is

  -- as the code has it
  some_of : (n : ℕ) → n ≡ settled_by chess N k t → (n ≡ 0 → ⊥) → some_settles chess N k t ≡ true
  some_of n e h = settled-some chess N k t ∙ ap (λ (m : ℕ). not (eqb m 0)) (sym e) ∙ ap not (ne_eqb n 0 h)

  none_of : (n : ℕ) → n ≡ settled_by chess N k t → n ≡ 0 → some_settles chess N k t ≡ false
  none_of n e z = settled-some chess N k t ∙ ap (λ (m : ℕ). not (eqb m 0)) (sym e ∙ z)

  pub code-more : (n : ℕ) (w : List ℕ) (p : Progress) → k < 254 → n ≡ settled_by chess N k t → (n ≡ 0 → ⊥)
      → w ≡ passed chess N k t → p ≡ going_on (k + 1) (k + 1)
      → Hands (step_over N deepest k last t) (record { said = Stepped.Settled n; progress = p }) w
  code-more n w p h e z q b =
      hands _ _ _ _ _ _ _ (over-more h (some_of n e z)) (ap Stepped.Settled e)
      (b ∙ ap (λ (j : ℕ). going_on j j) (add-one k)) q

  pub code-done : (n : ℕ) (w : List ℕ) (so : ℕ) (r : Result (Option ℕ) ℕ) (p : Progress) → length t ≡ N.size
      → n ≡ settled_by chess N k t → n ≡ 0 → w ≡ passed chess N k t → deepest < 2 + k → so ≡ before
      → r ≡ result_of (ended so) → p ≡ said_done k so
      → Hands (step_over N deepest k last t) (record { said = Stepped.Says r; progress = p }) w
  code-done n w so r p l e z q d s a b =
      hands _ _ _ _ _ _ _ (over_done (none_of n e z) d)
      (ap Stepped.Says (a ∙ ap (λ (j : ℕ). result_of (ended j)) s)) (b ∙ ap (said_done k) s)
      (q ∙ passed_none chess N k t l (none_of n e z))

  pub code-skip : (n : ℕ) (w : List ℕ) (so : ℕ) (p : Progress) → n ≡ settled_by chess N k t → n ≡ 0
      → w ≡ passed chess N k t → 2 + k ≤ deepest → so ≡ before → p ≡ going_on (k + 1) so
      → Hands (step_over N deepest k last t) (record { said = Stepped.Settled 0; progress = p }) w
  code-skip n w so p e z q d s b =
      hands _ _ _ _ _ _ _ (over_skip (none_of n e z) d) (ap Stepped.Settled (sym z ∙ e))
      (b ∙ ap₂ (λ (i j : ℕ). going_on i j) (add-one k) s) q

-- ---- the step that no byte holds

module _ (N : Numbering chess) (deepest last : ℕ) (t : List ℕ) where
  pub code-deep : (s : Bool) (w : List ℕ) (so : ℕ) (p : Progress) → s ≡ some_settles chess N 254 t → s ≡ true
      → w ≡ map_from (λ (n b : ℕ). 0) 0 t → so ≡ last_of 254 last deepest → p ≡ gave_ten 254 so
      → Hands (step_over N deepest 254 last t) (record { said = Stepped.Says (Err 10); progress = p }) w
  code-deep s w so p e z q f b =
      hands _ _ _ _ _ _ _ (over-deep N deepest 254 last t (omega arith) (sym e ∙ z)) refl (b ∙ ap (gave_ten 254) f) q

  pub code-last : (s : Bool) (so : ℕ) (r : Result (Option ℕ) ℕ) (p : Progress) → s ≡ some_settles chess N 254 t → s ≡ false
      → deepest < 256 → so ≡ last_of 254 last deepest → r ≡ result_of (ended so) → p ≡ said_done 254 so
      → Hands (step_over N deepest 254 last t) (record { said = Stepped.Says r; progress = p }) t
  code-last s so r p e z d f a b =
      hands _ _ _ _ _ _ _ (over_done N deepest 254 last t (sym e ∙ z) d)
      (ap Stepped.Says (a ∙ ap (λ (j : ℕ). result_of (ended j)) f)) (b ∙ ap (said_done 254) f) refl

  pub step-254 : (k : ℕ) (r : Step) (w : List ℕ) → k ≤ 254 → 254 ≤ k → Hands (step_over N deepest 254 last t) r w
      → Hands (step_over N deepest k last t) r w
  step-254 k r w a b h = let z : 254 ≡ k = omega arith in
      subst (λ (j : ℕ). Hands (step_over N deepest j last t) r w) z h

-- ---- a step by its progress

module _ (N : Numbering chess) (deeper : ℕ → Bool) (p : Progress) (t : List ℕ) where
  pub from-going-code : (deepest k : ℕ) (r : Step) (w : List ℕ) → ((j : ℕ) → deeper j ≡ leb (2 + j) deepest)
      → p.stage ≡ 0 → k ≡ min p.next 254 → Hands (step_over N deepest k p.last t) r w
      → Hands (taken_of (step_from chess N deeper p t)) r w
  unfolding step_over
  from-going-code deepest k r w d e z h =
      let f : deeper ≡ deeper_than deepest = fun_ext d in
      rw (from-going chess N deeper p t e, f, ← z) h

  pub from-done-code : (r : Result (Option ℕ) ℕ) → p.stage ≡ 1 → r ≡ result_of (ended p.last)
      → Hands (taken_of (step_from chess N deeper p t)) (record { said = Stepped.Says r; progress = p }) t
  from-done-code r e a =
      hands _ _ _ _ _ _ _ (ap taken_of (from-done chess N deeper p t e)) (ap Stepped.Says a) refl refl

  pub from-ten-code : (r : Step) → (p.stage ≡ 0 → ⊥) → (p.stage ≡ 1 → ⊥) → r ≡ refusing 10 p
      → Hands (taken_of (step_from chess N deeper p t)) r t
  from-ten-code r a b e =
      subst (λ (s : Step). Hands (taken_of (step_from chess N deeper p t)) s t) (sym e)
      (hands _ _ _ _ _ _ _ (ap taken_of (from-ten chess N deeper p t a b)) refl refl refl)

-- ---- the fill over steps

module _ (N : Numbering chess) (deepest k last : ℕ) (t : List ℕ) (low : k ≤ 254) (byte : deepest < 256)
    (so : last_of k last deepest ≡ last) (r : Step) (w : List ℕ) (h : Hands (step_over N deepest k last t) r w) where
  abbrev deeper : ℕ → Bool
  deeper = deeper_than deepest

  abbrev left : Outcome
  left = passes_until chess N deeper (254 - k) k (ended last) t

  one_left : k < 254 → 254 - k ≡ suc (254 - suc k)
  one_left x = omega arith

  said : (a : Stepped) (p : Progress) (u : List ℕ) → step_over N deepest k last t ≡ says a p u → r.said ≡ a
  said a p u e = ap (λ (s : Step). s.said) h.step ∙ ap (λ (o : Taken). o.step.said) e

  left-more : k < 254 → some_settles chess N k t ≡ true
      → left ≡ passes_until chess N deeper (254 - suc k) (suc k) (ended (suc k)) (passed chess N k t)
  left-more x e = rw (one_left x) (until-more chess N deeper k (ended last) t (254 - suc k) e)

  left-skip : k < 254 → some_settles chess N k t ≡ false → 2 + k ≤ deepest
      → left ≡ passes_until chess N deeper (254 - suc k) (suc k) (ended last) (passed chess N k t)
  left-skip x e d = rw (one_left x)
      (until_skip chess N deeper k (ended last) t (254 - suc k) e (le-leb (2 + k) deepest d))

  -- a step that does not say how filling ends: the passes left, from what it leaves, give the same
  pub record Went (next : ℕ) : Type 0 where
    pub below : k < 254
    pub last-so : last_of next r.progress.last deepest ≡ r.progress.last
    pub same : passes_until chess N deeper (254 - next) next (ended r.progress.last) w ≡ left
    pub bytes : w ≡ passed chess N k t

  pub step_went : (m : ℕ) → r.said ≡ Stepped.Settled m → Went (k + 1)
  step_went m f =
      subst Went (sym (add-one k)) (go (some_settles chess N k t) refl (le-or-lt 254 k) (le-or-lt (2 + k) deepest))
    where
      no : (a : Result (Option ℕ) ℕ) (p : Progress) (u : List ℕ) → step_over N deepest k last t ≡ says (Stepped.Says a) p u → ⊥
      no a p u e = let g : Stepped.Says a ≡ Stepped.Settled m = sym (said (Stepped.Says a) p u e) ∙ f in
          let z : ◌≡◌ {A = ℕ} 0 1 = cc in omega arith

      last-after : (a : Stepped) (j x : ℕ) (u : List ℕ) → step_over N deepest k last t ≡ says a (going_on j x) u
          → r.progress.last ≡ x
      last-after a j x u e = ap (λ (s : Step). s.progress.last) h.step
          ∙ ap (λ (o : Taken). o.step.progress.last) e

      went : (a : Stepped) (x : ℕ) → k < 254
          → step_over N deepest k last t ≡ says a (going_on (suc k) x) (passed chess N k t)
          → last_of (suc k) x deepest ≡ x
          → left ≡ passes_until chess N deeper (254 - suc k) (suc k) (ended x) (passed chess N k t) → Went (suc k)
      went a x below e y z =
          let q = last-after a (suc k) x (passed chess N k t) e in
          let v : w ≡ passed chess N k t = h.bytes ∙ ap (λ (o : Taken). o.bytes) e in
          record {
            below = below;
            last-so = rw q y;
            same = rw (q, v) (sym z);
            bytes = v;
          }

      again : (b : Bool) → cond b (suc k) (suc k) ≡ suc k
      again true = refl
      again false = refl

      go : (b : Bool) → some_settles chess N k t ≡ b → (254 ≤ k) ⊎ (k < 254) → (2 + k ≤ deepest) ⊎ (deepest < 2 + k)
          → Went (suc k)
      go false e x (inr d) = absurd (no _ _ _ (over_done N deepest k last t e d))
      go false e (inl x) (inl d) = absurd (omega arith)
      go false e (inr x) (inl d) =
          went (Stepped.Settled (settled_by chess N k t)) last x
          (over_skip N deepest k last t e d
          ∙ ap (λ (j : ℕ). says (Stepped.Settled (settled_by chess N k t)) (going_on (suc k) j) (passed chess N k t)) so)
          (ap (λ (b : Bool). cond b last (suc k)) (le-leb (2 + k) deepest d)) (left-skip x e d)
      go true e (inl x) d = absurd (no _ _ _ (over-deep N deepest k last t x e))
      go true e (inr x) d =
          went _ (suc k) x (over-more N deepest k last t x e) (again (leb (2 + k) deepest)) (left-more x e)

  -- a step that says how filling ends
  pub step-ended : (f : Result (Option ℕ) ℕ) → r.said ≡ Stepped.Says f → (f ≡ result_of left.result) × (w ≡ left.bytes)
  step-ended f g = go (some_settles chess N k t) refl (le-or-lt 254 k) (le-or-lt (2 + k) deepest)
    where
      same : (a : Result (Option ℕ) ℕ) (p : Progress) (u : List ℕ) (o : Outcome) → step_over N deepest k last t ≡ says (Stepped.Says a) p u
          → left ≡ o → a ≡ result_of o.result → u ≡ o.bytes → (f ≡ result_of left.result) × (w ≡ left.bytes)
      same a p u o e q x y =
          let z : Stepped.Says f ≡ Stepped.Says a = sym g ∙ said (Stepped.Says a) p u e in
          let v : f ≡ a = cc in (
            v ∙ x ∙ sym (ap (λ (c : Outcome). result_of c.result) q),
            h.bytes ∙ ap (λ (c : Taken). c.bytes) e ∙ y
                ∙ sym (ap (λ (c : Outcome). c.bytes) q),
          )

      no : (n : ℕ) (p : Progress) (u : List ℕ) → step_over N deepest k last t ≡ says (Stepped.Settled n) p u → ⊥
      no n p u e = let q : Stepped.Says f ≡ Stepped.Settled n = sym g ∙ said (Stepped.Settled n) p u e in
          let z : ◌≡◌ {A = ℕ} 0 1 = cc in omega arith

      go : (b : Bool) → some_settles chess N k t ≡ b → (254 ≤ k) ⊎ (k < 254) → (2 + k ≤ deepest) ⊎ (deepest < 2 + k)
          → (f ≡ result_of left.result) × (w ≡ left.bytes)
      go false e x (inr d) =
          same _ _ _ _ (over_done N deepest k last t e d)
          (until-done chess N deeper k (ended last) t (254 - k) e (lt-leb (2 + k) deepest d))
          (ap (λ (j : ℕ). result_of (ended j)) so) refl
      go false e (inl x) (inl d) = absurd (omega arith)
      go false e (inr x) (inl d) = absurd (no _ _ _ (over_skip N deepest k last t e d))
      go true e (inl x) d =
          let z : 254 - k ≡ 0 = omega arith in
          same _ _ _ _ (over-deep N deepest k last t x e)
          (ap (λ (j : ℕ). passes_until chess N deeper j k (ended last) t) z
          ∙ until-deep chess N deeper k (ended last) t e) refl refl
      go true e (inr x) d = absurd (no _ _ _ (over-more N deepest k last t x e))

-- after a pass nothing is left to settle below the next depth
pub ready-after : (N : Numbering chess) (k : ℕ) (t u : List ℕ) → u ≡ passed chess N k t → Ready chess N k t → Ready chess N (k + 1) u
ready-after N k t u e r =
    subst⁻¹ (λ (l : List ℕ). Ready chess N (k + 1) l) e
    (subst (λ (j : ℕ). Ready chess N j (passed chess N k t)) (sym (add-one k)) (ready-next chess N k t r))

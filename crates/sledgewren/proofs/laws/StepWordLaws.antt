-- Laws for the words of filling in steps: a progress crosses the boundary unchanged, so a refused step hands its word
-- back; and the answer's parts as the code has them.
use Rattle.std.specs.Prelude.{◌≡◌, Bool, cond, not, ◌&&◌, List, ℕ, suc, min, ◌*◌, ◌^◌, ◌<◌, ◌≤◌, eqb, length}
use Rattle.std.proofs.Common.{sym, ap, subst, ◌∙◌}
use Rattle.std.proofs.Math.Bool.{true, false}
use native.Mathlib.Omega.{arith}
use Rattle.std.proofs.Math.Dec.{leb}
use Rattle.finite.specs.Mapped.{map_from}
use Rattle.table_theory.specs.declared.Progress.{Progress}
use Rattle.table_theory.specs.Tables.{Numbering, too_deep, ended, some_settles, passed}
use Rattle.table_theory.specs.Lending.{done_at}
use Rattle.table_theory.specs.Steps as over
use Rattle.table_theory.specs.Steps.{going_on, said_done, gave_ten, settled, ends, last_before, settled_by, started, step_at, step_from}
use Rattle.table_theory.proofs.laws.StepLaws.{settled-most}
use Rattle.rules.specs.Chess.{chess}
use Rattle.numbering.specs.declared.Material.{Material}
use Rattle.numbering.specs.Material.{given, size_of}
use Rattle.four_men.specs.Lending.{Lent, borrowed}
use Rattle.four_men.specs.Reading.{numbered, holds_depth}
use Rattle.four_men.specs.Answers.{lengths_fit}
use Rattle.four_men.specs.Steps.{Call, nothing, start_with, step_with}
use Rattle.filling.specs.Steps.{Stepped, Step, Taken, Hands, said_of, settled_of}
use Rattle.filling.specs.Handed.{handed}
use Rattle.sledgewren.specs.StepWord.{progress_of, progress_word, said_word, step_word, start_for, step_for}

-- A WORD COMES BACK AS IT WAS.
pub word_kept : (w : ℕ) → w < 2 ^ 32 → progress_word (progress_of w) ≡ w
word_kept w h = omega arith

pub settled-word : (s : Stepped) (n : ℕ) → s ≡ Stepped.Settled n → settled_of s ≤ 3784704
    → (n * 256 ≡ said_word s) × (n * 256 < 2 ^ 32)
settled-word s n e h =
    let low : n ≤ 3784704 = subst (λ (x : Stepped). settled_of x ≤ 3784704) e h in (sym (ap said_word e), omega arith)

-- ---- no call settles more numbers than there are

module _ (N : Numbering chess) (deeper : ℕ → Bool) (few : N.size ≤ 3784704) (t : List ℕ) where
  at_most : (k last : ℕ) → settled_of (said_of (step_at chess N deeper k last t).said) ≤ 3784704
  unfolding step_at
  at_most k last = go (done_at chess N deeper k t) (some_settles chess N k t && leb 254 k)
    where
      go : (a b : Bool)
          → (let before = last_before chess N deeper k last in
          settled_of (said_of
          (cond {A = over.Stepped} a (record { said = ends (ended before); progress = said_done k before; bytes = t })
          (cond b (record { said = ends too_deep; progress = gave_ten k before; bytes = map_from (λ n b. 0) 0 t })
          (record {
            said = settled (settled_by chess N k t);
            progress = going_on (suc k) (cond (some_settles chess N k t) (suc k) before);
            bytes = passed chess N k t;
          }))).said) ≤ 3784704)
      go true b = omega arith
      go false true = omega arith
      go false false = omega (arith, settled-most chess N k t, few)

  from-most : (p : Progress) → settled_of (said_of (step_from chess N deeper p t).said) ≤ 3784704
  unfolding step_from
  from-most p = go (eqb p.stage 0) (eqb p.stage 1)
    where
      go : (a b : Bool)
          → settled_of
          (said_of (cond {A = over.Stepped} a (step_at chess N deeper (min p.next 254) p.last t)
          (cond b (record { said = ends (ended p.last); progress = p; bytes = t })
          (record { said = ends too_deep; progress = p; bytes = t }))).said) ≤ 3784704
      go true b = at_most (min p.next 254) p.last
      go false true = omega arith
      go false false = omega arith

size-most : (m : Material) (l : Lent) → (numbered m l).size ≤ 3784704
unfolding numbered
size-most (Material.One kind) l = omega arith
size-most (Material.Two j k r) l = omega arith
size-most Material.Pawn l = omega arith

-- refusals settle none
refused-most : (a b : Bool) (t : List ℕ) (p : Progress) (s : over.Stepped) → settled_of (said_of s.said) ≤ 3784704
    → settled_of (handed t p (cond (not a) (Call.refused 1) (cond (not b) (Call.refused 7) (Call.made s)))).step.said
    ≤ 3784704
refused-most false b t p s h = omega arith
refused-most true false t p s h = omega arith
refused-most true true t p s h = h

start-most : (m : Material) (t : List ℕ) → settled_of (start_for m t).step.said ≤ 3784704
unfolding start_with started
start-most m t =
    refused-most (given m) (eqb (length t) (size_of m)) t (going_on 0 0) (started chess (numbered m nothing) t)
    (omega arith)

step-most : (m : Material) (p : Progress) (l : Lent) (t : List ℕ) → settled_of (step_for m p l t).step.said ≤ 3784704
unfolding step_with
step-most m p l t =
    refused-most (given m) (lengths_fit m l t) t p (step_from chess (numbered m l) (holds_depth (borrowed m l)) p t)
    (from-most (numbered m l) (holds_depth (borrowed m l)) (size-most m l) t p)

-- ---- as the code has it

module _ (r : Step) (w : List ℕ) where
  pub fits : (o : Taken) → settled_of o.step.said ≤ 3784704 → Hands o r w → settled_of r.said ≤ 3784704
  fits o h g = subst (λ (x : Step). settled_of x.said ≤ 3784704) (sym g.step) h

  pub start_fits : (m : Material) (t : List ℕ) → Hands (start_for m t) r w → settled_of r.said ≤ 3784704
  start_fits m t h = fits (start_for m t) (start-most m t) h

  pub step_fits : (m : Material) (p : Progress) (l : Lent) (t : List ℕ) → Hands (step_for m p l t) r w
      → settled_of r.said ≤ 3784704
  step_fits m p l t h = fits (step_for m p l t) (step-most m p l t) h

  handed-so : (word : ℕ) (o u : Taken) → o ≡ u → Hands o r w → word ≡ step_word r
      → (word ≡ step_word u.step) × (w ≡ u.bytes)
  handed-so word o u z h e = (
    e ∙ ap step_word h.step ∙ ap (λ (x : Taken). step_word x.step) z,
    h.bytes ∙ ap (λ (x : Taken). x.bytes) z,
  )

  pub start-handed : (word : ℕ) (m n : Material) (t : List ℕ) → m ≡ n → Hands (start_for m t) r w → word ≡ step_word r
      → (word ≡ step_word (start_for n t).step) × (w ≡ (start_for n t).bytes)
  start-handed word m n t z h e = handed-so word (start_for m t) (start_for n t) (ap (λ (x : Material). start_for x t) z) h e

  pub step-handed : (word : ℕ) (m n : Material) (p q : Progress) (l : Lent) (t : List ℕ) → m ≡ n → p ≡ q
      → Hands (step_for m p l t) r w → word ≡ step_word r
      → (word ≡ step_word (step_for n q l t).step) × (w ≡ (step_for n q l t).bytes)
  step-handed word m n p q l t y z h e =
      handed-so word (step_for m p l t) (step_for n q l t)
      (ap (λ (x : Material). step_for x p l t) y ∙ ap (λ (x : Progress). step_for n x l t) z) h e

-- Laws by which the calls for one man and for two are proved: refusals, and what is made where there is none.
use Rattle.std.specs.Prelude.{◌≡◌, Bool, true, false, List, ℕ, ◌<◌, T, length}
use Rattle.std.proofs.Math.Path.{refl, subst⁻¹}
use Rattle.std.proofs.Common.{sym, ap, subst, ◌∙◌}
use borrow.Author.Tests.{eq-eqb, ne_eqb}
use Rattle.finite.specs.Truth.{of-true}
use Rattle.finite.specs.Mapped.{map_from}
use Rattle.table_theory.specs.declared.Progress.{Progress}
use Rattle.table_theory.specs.Tables.{start_byte}
use Rattle.table_theory.specs.Steps.{going_on, started, step_from}
use Rattle.rules.specs.Chess.{chess}
use Rattle.numbering.specs.declared.Material.{Material}
use Rattle.numbering.specs.Material.{known, given, size_of}
use Rattle.position.specs.declared.Men.{Men}
use Rattle.position.specs.Posed.{material_for}
use Rattle.four_men.specs.Lending.{lent, borrowed}
use Rattle.four_men.specs.Reading.{numbered, holds_depth}
use Rattle.four_men.specs.Answers.{lengths_fit}
use Rattle.four_men.specs.Steps.{Call, nothing, start_with, step_with}
use Rattle.four_men.proofs.laws.Steps.{step-with-is}
use Rattle.filling.specs.Steps.{Stepped, Step, Hands, taken_of, refusing}
use Rattle.filling.specs.Handed.{handed}
use Rattle.working_back.specs.Admitted.{over, Admitted}
use Rattle.working_back.proofs.laws.Admitted.{admitted_of}

-- a refusal hands the progress back, and leaves the table
refused-call : (k : ℕ) (t : List ℕ) (p : Progress) (a : Call) (q : Progress) (r : Step) → a ≡ Call.refused k → q ≡ p
    → r ≡ refusing k q → Hands (handed t p a) r t
refused-call k t p a q r e f g = rw (e, g, f) (record { step = refl; bytes = refl })

module _ (m : Material) (t : List ℕ) (p : Progress) (e : p ≡ going_on 0 0) where
  abbrev answer : Call
  answer = start_with m t

  pub start-1 : (r : Step) → given m ≡ false → r ≡ refusing 1 p → Hands (handed t (going_on 0 0) (start_with m t)) r t
  start-1 r w f = refused-call 1 t (going_on 0 0) answer p r (unfold start_with in rw w) e f

  pub start-7 : (s : ℕ) (r : Step) → given m ≡ true → s ≡ size_of m → (length t ≡ s → ⊥) → r ≡ refusing 7 p
      → Hands (handed t (going_on 0 0) (start_with m t)) r t
  start-7 s r w z n f =
      refused-call 7 t (going_on 0 0) answer p r
      (unfold start_with in rw (w, ← z, ne_eqb (length t) s n)) e f

  pub start-made : (s : ℕ) (men : Men) (w : List ℕ) → given m ≡ true → s ≡ size_of m → length t ≡ s
      → material_for men ≡ m → w ≡ map_from (start_byte chess (numbered (material_for men) nothing)) 0 t
      → Hands (handed t (going_on 0 0) (start_with m t)) (record { said = Stepped.Settled 0; progress = p }) w
  start-made s men w k z l f g =
      let h : start_with m t ≡ Call.made (started chess (numbered m nothing) t) =
      unfold start_with in rw (k, ← z, eq-eqb (length t) s l) in
      rw (h, g, f, e) (unfold started in record { step = refl; bytes = refl })

module _ (m : Material) (first second t : List ℕ) (p : Progress) where
  pub step-1 : (r : Step) → given m ≡ false → r ≡ refusing 1 p
      → Hands (handed t p (step_with m (lent first second) t p)) r t
  step-1 r w f = refused-call 1 t p (step_with m (lent first second) t p) p r (unfold step_with in rw w) refl f

  pub step-7 : (r : Step) → given m ≡ true → lengths_fit m (lent first second) t ≡ false → r ≡ refusing 7 p
      → Hands (handed t p (step_with m (lent first second) t p)) r t
  step-7 r w n f = refused-call 7 t p (step_with m (lent first second) t p) p r (unfold step_with in rw (w, n)) refl f

  pub step-made : (men : Men) (r : Step) (w : List ℕ) → given m ≡ true → lengths_fit m (lent first second) t ≡ true
      → material_for men ≡ m
      → Hands (taken_of (step_from chess (over men first second)
      (holds_depth (borrowed (material_for men) (lent first second))) p t)) r w
      → Hands (handed t p (step_with m (lent first second) t p)) r w
  step-made men r w k n e h =
      rw (step-with-is m (lent first second) t p (of-true k) (of-true n))
      (subst (λ (x : Material). Hands
      (taken_of (step_from chess (numbered x (lent first second)) (holds_depth (borrowed x (lent first second))) p t)) r w)
      e h)

-- what is tested is admitted
pub admitted-by : (m : Material) (men : Men) (first second t : List ℕ) (a b : Bool) → a ≡ given m → a ≡ true
    → b ≡ lengths_fit m (lent first second) t → b ≡ true
    → (T (given m) → (material_for men ≡ m) × (men.colour < 2)) → Admitted men first second t
admitted-by m men first second t a b e k f n g =
    let w = of-true (sym e ∙ k) in admitted_of m men first second t (g w) w (of-true (sym f ∙ n))

-- .. and of pieces, if the ending is
pub known_by : (m : Material) (men : Men) (a : Bool) → a ≡ given m → a ≡ true
    → (T (given m) → (material_for men ≡ m) × (men.colour < 2)) → T (known m) → T (known (material_for men))
known_by m men a e k g w = subst⁻¹ (λ (x : Material). T (known x)) (g (of-true (sym e ∙ k))).0 w

pub start-given : (m : Material) (men : Men) (t : List ℕ) (s : ℕ) → given m ≡ true → s ≡ size_of m → length t ≡ s
    → (T (given m) → (material_for men ≡ m) × (men.colour < 2))
    → T (given (material_for men)) × (men.colour < 2) × (length t ≡ size_of (material_for men))
start-given m men t s k z l g = let e = g (of-true k) in (
  subst⁻¹ (λ (x : Material). T (given x)) e.0 (of-true k),
  e.1,
  l ∙ z ∙ sym (ap size_of e.0),
)

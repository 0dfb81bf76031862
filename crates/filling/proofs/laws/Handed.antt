-- A start and a step of one man are those for both sizes, handed back.
use Rattle.std.specs.Prelude.{◌≡◌, refl, Bool, true, false, cond, not, List, ℕ, leb, eqb, length}
use Rattle.std.proofs.Common.{sym, ap, ◌∙◌}
use Rattle.std.proofs.Math.Path.{subst⁻¹}
use Rattle.table_theory.specs.declared.Progress.{Progress}
use Rattle.table_theory.specs.Steps as over
use Rattle.table_theory.specs.Steps.{going_on, started, step_from}
use Rattle.rules.specs.Chess.{chess}
use Rattle.endings.specs.Ending.{table_size, ending}
use Rattle.numbering.specs.declared.Material.{Material}
use Rattle.four_men.specs.Lending.{Lent, lent}
use Rattle.four_men.specs.Steps.{Call, start_with, step_with}
use Rattle.four_men.proofs.laws.Alone.{start-alone, step-alone}
use Rattle.filling.specs.Steps.{Step, Taken, Hands, taken_of, refused, admitted, none_deeper, start_of, step_of}
use Rattle.filling.specs.Handed.{handed}

-- the refusals are asked alike
admitted-handed : (kind : ℕ) (t : List ℕ) (p : Progress) (s : over.Stepped)
    → admitted kind t p (taken_of s)
    ≡ handed t p (cond (leb 4 kind) (Call.refused 1)
    (cond (not (eqb (length t) table_size)) (Call.refused 7) (Call.made s)))
unfolding admitted
admitted-handed kind t p s = go (leb 4 kind) (not (eqb (length t) table_size))
  where
    go : (a b : Bool)
        → cond a (refused 1 t p) (cond b (refused 7 t p) (taken_of s))
        ≡ handed t p (cond a (Call.refused 1) (cond b (Call.refused 7) (Call.made s)))
    go true b = refl
    go false true = refl
    go false false = refl

pub start-handed : (kind : ℕ) (t : List ℕ)
    → start_of kind t ≡ handed t (going_on 0 0) (start_with (Material.One kind) t)
unfolding start_of
start-handed kind t =
    admitted-handed kind t (going_on 0 0) (started chess (ending kind) t)
    ∙ ap (handed t (going_on 0 0)) (sym (start-alone kind t))

pub step-handed : (kind : ℕ) (l : Lent) (t : List ℕ) (p : Progress)
    → step_of kind t p ≡ handed t p (step_with (Material.One kind) l t p)
unfolding step_of
step-handed kind l t p =
    admitted-handed kind t p (step_from chess (ending kind) none_deeper p t)
    ∙ ap (handed t p) (sym (step-alone kind l t p))

-- as the code has it
pub start-one : (kind : ℕ) (t : List ℕ) (r : Step) (w : List ℕ)
    → Hands (handed t (going_on 0 0) (start_with (Material.One kind) t)) r w → Hands (start_of kind t) r w
start-one kind t r w h = subst⁻¹ (λ (o : Taken). Hands o r w) (start-handed kind t) h

pub step-one : (kind : ℕ) (first second t : List ℕ) (p : Progress) (r : Step) (w : List ℕ)
    → Hands (handed t p (step_with (Material.One kind) (lent first second) t p)) r w → Hands (step_of kind t p) r w
step-one kind first second t p r w h =
    subst⁻¹ (λ (o : Taken). Hands o r w) (step-handed kind (lent first second) t p) h

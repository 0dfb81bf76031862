-- One step of one man, by what its pass settles, and where 1 and 7 do not refuse.
use Rattle.std.specs.Prelude.{◌≡◌, refl, true, false, List, ℕ, suc, ◌<◌, min, length}
use Rattle.std.proofs.Math.Path.{ap}
use Rattle.std.proofs.Common.{◌∙◌}
use borrow.Author.Tests.{lt-leb, eq-eqb}
use Rattle.table_theory.specs.declared.Progress.{Progress}
use Rattle.table_theory.specs.Tables.{ended, some_settles, passed}
use Rattle.table_theory.specs.Steps.{going_on, said_done, settled_by, started, step_at, step_from}
use Rattle.table_theory.proofs.laws.StepLaws.{step-done, step-more, from-going, last-alone}
use Rattle.rules.specs.Chess.{chess}
use Rattle.endings.specs.Ending.{table_size, ending}
use Rattle.endings.specs.Answers.{result_of}
use Rattle.filling.specs.Steps.{Stepped, Taken, taken_of, admitted, none_deeper, start_of, step_alone, step_of}

pub size_is : (kind : ℕ) → (ending kind).size ≡ table_size
unfolding ending
size_is kind = refl

abbrev says : Stepped → Progress → List ℕ → Taken
says a p t = record { step = record { said = a; progress = p }; bytes = t }

-- ---- the step for a depth

module _ (kind k : ℕ) (t : List ℕ) where
  -- what the progress holds as last does not count
  alone-any : (last : ℕ) → taken_of (step_at chess (ending kind) none_deeper k last t) ≡ step_alone kind k t
  unfolding step_alone step_at
  alone-any last = rw (last-alone chess (ending kind) k last, last-alone chess (ending kind) k k)

  pub alone-done : some_settles chess (ending kind) k t ≡ false
      → step_alone kind k t ≡ says (Stepped.Says (result_of (ended k))) (said_done k k) t
  unfolding step_alone
  alone-done e =
      ap taken_of (step-done chess (ending kind) none_deeper k k t e refl) ∙ rw (last-alone chess (ending kind) k k)

  pub alone-more : k < 254 → some_settles chess (ending kind) k t ≡ true
      → step_alone kind k t
      ≡ says (Stepped.Settled (settled_by chess (ending kind) k t)) (going_on (suc k) (suc k))
      (passed chess (ending kind) k t)
  unfolding step_alone
  alone-more h e = ap taken_of (step-more chess (ending kind) none_deeper k k t h e)

-- ---- where 1 and 7 do not refuse

module _ (kind : ℕ) (t : List ℕ) (h : kind < 4) (l : length t ≡ table_size) where
  admitted-on : (p : Progress) (s : Taken) → admitted kind t p s ≡ s
  unfolding admitted
  admitted-on p s = rw (lt-leb 4 kind h, eq-eqb (length t) table_size l)

  pub start_is : start_of kind t ≡ taken_of (started chess (ending kind) t)
  unfolding start_of
  start_is = admitted-on _ _

  module _ (p : Progress) where
    pub step_is : step_of kind t p ≡ taken_of (step_from chess (ending kind) none_deeper p t)
    unfolding step_of
    step_is = admitted-on p _

    -- going on: the step for the progress's depth, whatever it holds as last
    pub step-going : p.stage ≡ 0 → step_of kind t p ≡ step_alone kind (min p.next 254) t
    step-going e = step_is ∙ ap taken_of (from-going chess (ending kind) none_deeper p t e)
        ∙ alone-any kind (min p.next 254) t p.last

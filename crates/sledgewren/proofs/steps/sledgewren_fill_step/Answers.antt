-- `sledgewren::sledgewren_fill_step` meets its contract.
use borrow.Author.Rules.{rules}
use Rattle.sledgewren.proofs.laws.StepWordLaws.{step_fits, step-handed}
use Rattle.sledgewren.proofs.steps.sledgewren_fill_step.Goals as goal

pub step_word-requires : goal.step_word-requires
step_word-requires c = step_fits _ _ _ _ _ _ c.step_with-s.ensures

pub returns : goal.returns
returns c =
    step-handed _ _ _ _ _ _ _ _ _ c.material_read-m.ensures c.progress_of-p.ensures c.step_with-s.ensures
    c.step_word.ensures

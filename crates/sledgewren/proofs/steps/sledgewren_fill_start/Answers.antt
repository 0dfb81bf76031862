-- `sledgewren::sledgewren_fill_start` meets its contract.
use borrow.Author.Rules.{rules}
use Rattle.sledgewren.proofs.laws.StepWordLaws.{start_fits, start-handed}
use Rattle.sledgewren.proofs.steps.sledgewren_fill_start.Goals as goal

pub step_word-requires : goal.step_word-requires
step_word-requires c = start_fits _ _ _ _ c.start_with-s.ensures

pub returns : goal.returns
returns c =
    start-handed _ _ _ _ _ _ c.material_read-m.ensures c.start_with-s.ensures c.step_word.ensures

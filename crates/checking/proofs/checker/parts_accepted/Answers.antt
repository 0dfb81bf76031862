-- `checking::parts_accepted` meets its contract.
use borrow.Author.Rules.{rules}
use mathlib.Core.Path.{refl}
use Rattle.std.proofs.lemmas.Iterator.{YieldsList-from_range}
use Rattle.std.proofs.lemmas.Iterator.Search.{all_from_yields_List}
use Rattle.finite.specs.Members.{all}
use Rattle.endings.specs.Answers.{check_of}
use Rattle.four_men.specs.Lending.{part_of}
use Rattle.four_men.specs.Answers.{accepts}
use Rattle.checking.proofs.checker.parts_accepted.Goals as goal

pub returns : goal.returns
unfolding all
returns c =
    all_from_yields_List (λ kind. accepts (check_of kind (part_of kind c.args.run.now))) _ _ _ c.all.ensures.ran
    (YieldsList-from_range 0 4 4 refl refl) (λ x b q k. search rules)

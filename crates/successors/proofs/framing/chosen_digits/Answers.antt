-- `successors::chosen_digits` meets its contract.
use Rattle.successors.proofs.laws.FramingLaws.{chosen_plain, chosen-turned, chosen_less, chosen_more}
use Rattle.successors.proofs.framing.chosen_digits.Goals as goal

pub returns-then-exchange-eq0 : goal.returns-then-exchange-eq0
returns-then-exchange-eq0 c = chosen_plain _ _ _ _ _ c.if-exchange-eq0.true c.men_digits.ensures

pub returns-then-exchange-eq1 : goal.returns-then-exchange-eq1
returns-then-exchange-eq1 c =
    chosen-turned _ _ _ _ _ _ _ c.transposed.ensures c.transposed-2.ensures c.men_digits-t.ensures
    c.if-exchange-eq0.false c.if-exchange-eq1.true

pub returns-then-t-s : goal.returns-then-t-s
returns-then-t-s c =
    chosen_less _ _ _ _ _ _ _ c.transposed.ensures c.transposed-2.ensures c.men_digits-t.ensures
    c.if-exchange-eq0.false _ c.if-exchange-eq1.false c.men_digits-s.ensures c.if-t-s.true

pub returns : goal.returns
returns c =
    chosen_more _ _ _ _ _ _ _ c.transposed.ensures c.transposed-2.ensures c.men_digits-t.ensures
    c.if-exchange-eq0.false _ c.if-exchange-eq1.false c.men_digits-s.ensures c.if-t-s.false

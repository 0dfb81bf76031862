-- `successors::verdict_over` meets its contract.
use Rattle.successors.proofs.laws.PlaceVerdicts.{end-right, end-wrong, place-side}
use Rattle.successors.proofs.verdicts.verdict_over.Goals as goal

pub returns-then-byte-end_byte : goal.returns-then-byte-end_byte
returns-then-byte-end_byte c = λ w. end-right _ _ _ _ (place-side _ _) (c.end_byte.ensures w) c.if-byte-end_byte.true

pub returns : goal.returns
returns c = λ w. end-wrong _ _ _ _ (place-side _ _) (c.end_byte.ensures w) c.if-byte-end_byte.false

-- `fifty::marked_at` meets its contract.
use Rattle.fifty.proofs.laws.MarkLaws.{marked-with}
use Rattle.fifty.proofs.marked_at.Goals as goal

pub returns : goal.returns
returns c = marked-with c.args.free _ _ _ _ c.at_count-answer.ensures c.is_marked.ensures

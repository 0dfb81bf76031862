-- Each arm is a word of the list; the last is past its end.
use mathlib.Core.Path.{sym}
use lib.ListN.{get_or-eq_default}
use borrow.Author.Rules.{rules}
use Rattle.constants.proofs.laws.MatchLaws.{past}
use Rattle.packed_pairs.specs.Packed.{eight_blacks}
use Rattle.packed_pairs.proofs.eight_blacks.Goals as goal

pub returns-in_default : goal.returns-in_default
returns-in_default c = sym (get_or-eq_default eight_blacks 0 (past 58 c.args.i c.in_default.in_default-own.rest))

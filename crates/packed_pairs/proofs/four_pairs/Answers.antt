-- Each arm is a word of the list; the last is past its end.
use mathlib.Core.Path.{sym}
use lib.ListN.{get_or-eq_default}
use borrow.Author.Rules.{rules}
use Rattle.constants.proofs.laws.MatchLaws.{past}
use Rattle.packed_pairs.specs.Packed.{four_pairs}
use Rattle.packed_pairs.proofs.four_pairs.Goals as goal

pub returns-in_default : goal.returns-in_default
returns-in_default c = sym (get_or-eq_default four_pairs 0 (past 160 c.args.i c.in_default.in_default-own.rest))

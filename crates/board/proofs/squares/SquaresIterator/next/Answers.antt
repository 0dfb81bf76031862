-- `Squares::next` meets its contract: the lowest square comes, and the others are left.
use Rattle.std.proofs.Common.{rules, ap, ◌∙◌, ◌≡◌, []}
use Rattle.board.specs.Sets.{members}
use Rattle.board.proofs.laws.SetLaws.{members-none}
use Rattle.board.proofs.laws.LowestLaws.{lowest-beyond}
use Rattle.board.proofs.squares.SquaresIterator.next.Goals as goal

pub returns-then-self-eq0-clause-steps : goal.returns-then-self-eq0-clause-steps
returns-then-self-eq0-clause-steps c =
    let e : members c.args.self.now.left ≡ [] = ap members c.if-self-eq0.true ∙ members-none in (e, e)

pub returns-clause-steps : goal.returns-clause-steps
returns-clause-steps c = (lowest-beyond c.args.self.now.left _ _ (search rules) c.if-self-eq0.false c.lowest-s.ensures c.beyond_lowest-self.ensures).first

pub returns-clause-goes : goal.returns-clause-goes
returns-clause-goes c =
    let fewer = (lowest-beyond c.args.self.now.left _ _ (search rules) c.if-self-eq0.false c.lowest-s.ensures c.beyond_lowest-self.ensures).fewer in
    search rules

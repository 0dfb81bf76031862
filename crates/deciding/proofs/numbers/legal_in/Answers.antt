-- `numbers::legal_in` meets its contract: king and pawn; pieces not used, in check, or legal.
use Rattle.std.specs.Prelude.{Some}
use mathlib.Core.Path.{sym, ◌∙◌}
use Rattle.finite.specs.Truth.{of-true}
use Rattle.index.proofs.laws.CompleteLaws.{used-complete}
use Rattle.successors.proofs.laws.NumberLaws.{found-unused, found-illegal, found-legal, checked-other}
use Rattle.deciding.proofs.laws.PawnLaws.{given-pawn, given-known}
use Rattle.deciding.proofs.laws.StandingLaws.{pieces-standing}
use Rattle.deciding.proofs.numbers.legal_in.Goals as goal

pub returns-then-m-eq-PAWN : goal.returns-then-m-eq-PAWN
returns-then-m-eq-PAWN c = λ g f. c.legal_of_pawn.ensures c.args.m (given-pawn c.args.m g c.if-m-eq-PAWN.true)

pub returns-then-not-is_used : goal.returns-then-not-is_used
returns-then-not-is_used c =
    λ g f. let k = given-known c.args.m g c.if-m-eq-PAWN.false in
    let s = c.in_row-q.ensures (f k) in
    found-unused _ _ _ k s.board (sym (c.is_used.ensures s) ∙ c.if-not-is_used.true)

pub returns-then-checked : goal.returns-then-checked
returns-then-checked c =
    λ g f. let k = given-known c.args.m g c.if-m-eq-PAWN.false in
    let s = c.in_row-q.ensures (f k) in
    let u = sym (c.is_used.ensures s) ∙ c.if-not-is_used.false in
    let w = used-complete _ _ _ s (of-true u) in
    found-illegal _ _ _ k s.board u w
    (checked-other _ _ _ _ _ c.other.ensures (c.checked.ensures w) c.if-checked.true)

pub returns : goal.returns
returns c =
    λ g f. let a = c.args in
    let k = given-known a.m g c.if-m-eq-PAWN.false in
    let s = c.in_row-q.ensures (f k) in
    let u = sym (c.is_used.ensures s) ∙ c.if-not-is_used.false in
    let w = used-complete _ _ _ s (of-true u) in
    pieces-standing a.m a.n (Some c.in_row-q.result) k (found-legal _ _ _ k s.board u w
    (checked-other _ _ _ _ _ c.other.ensures (c.checked.ensures w) c.if-checked.false))

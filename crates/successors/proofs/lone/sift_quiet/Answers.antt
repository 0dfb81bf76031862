-- `successors::sift_quiet` meets its contract: at a row of pairs, or each number by itself.
use mathlib.Core.Path.{◌≡◌, refl, sym, ◌∙◌}
use Prim.Native.Nat.{◌+◌, ◌*◌, ◌%◌}
use lib.Count.{ones}
use lib.ListN.{get_or}
use Rattle.board.specs.SetLaws.{bit}
use Rattle.finite.specs.Truth.{of-true}
use Rattle.numbering.specs.Number.{number_of}
use Rattle.position.specs.Keyed.{board_of, one_man}
use Rattle.position.proofs.laws.PosedLaws.{complete-spread}
use Rattle.successors.proofs.laws.LoneBytes.{black-step, row_step}
use borrow.Author.Rules.{rules}
use Rattle.successors.proofs.lone.sift_quiet.Goals as goal

pub returns-then-is_at_home : goal.returns-then-is_at_home
returns-then-is_at_home c =
    λ m w h s e first second. c.sift.ensures _ _ _ _ e
    (λ t r l z p.
    let d : r ≡ get_or c.args.table.now (c.first_of.result * 64 + c.args.q.first + ones (c.partners_of-row.result % bit t) * 64) 0 = search rules in
    d ∙ row_step m _ w h first second _ s _ _ _ (of-true (sym c.is_at_home.ensures ∙ c.if-is_at_home.true)) c.partners_of-row.ensures
    c.partners_of-row.type_inv c.first_of.ensures.0 c.first_of.ensures.1 refl t z)

pub returns : goal.returns
returns c =
    λ m w h s e first second. let q = c.args.q in
    let white = (complete-spread w).white in let man = (complete-spread w).first in
    c.sift-2.ensures _ _ _ _ e
    (λ t r l z p.
    let d : r ≡ get_or c.args.table.now (number_of (board_of (one_man m.first 0 0 q.white q.first t))) 0 = search rules in
    d ∙ black-step m _ w h first second _ s t z)

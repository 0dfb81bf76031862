-- `successors::sift_white` meets its contract.
use mathlib.Core.Path.{◌≡◌, ◌∙◌}
use lib.ListN.{get_or}
use Rattle.numbering.specs.Number.{number_of}
use Rattle.position.specs.Keyed.{board_of, one_man}
use Rattle.position.proofs.laws.PosedLaws.{complete-spread}
use Rattle.successors.proofs.laws.LoneBytes.{white-step}
use borrow.Author.Rules.{rules}
use Rattle.successors.proofs.lone.sift_white.Goals as goal

pub returns : goal.returns
returns c =
    λ m w h s e first second. let q = c.args.q in
    let black = (complete-spread w).black in let man = (complete-spread w).first in
    c.sift.ensures _ _ _ _ e
    (λ t r l z p.
    let d : r ≡ get_or c.args.table.now (number_of (board_of (one_man m.first 0 1 t q.first q.black))) 0 = search rules in
    d ∙ white-step m _ w h first second _ s t z)

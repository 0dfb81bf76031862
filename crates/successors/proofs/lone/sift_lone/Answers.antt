-- `successors::sift_lone` meets its contract: a row of the man's squares, or one by one.
use mathlib.Core.Path.{◌≡◌, sym, ◌∙◌}
use Prim.Native.Nat.{◌+◌}
use lib.ListN.{get_or}
use Rattle.finite.specs.Truth.{of-true}
use Rattle.successors.proofs.laws.LoneBytes.{man-step}
use borrow.Author.Rules.{rules}
use Rattle.successors.proofs.lone.sift_lone.Goals as goal

pub returns-then-is_settled : goal.returns-then-is_settled
returns-then-is_settled c =
    λ w h s e. let f = of-true (sym c.is_settled.ensures ∙ c.if-is_settled.true) in
    c.sift.ensures _ _ _ _ e
    (λ t r l z p. let d : r ≡ get_or c.args.table.now (c.base_of-base.result + t) 0 = search rules in
    d ∙ man-step _ _ w h _ _ _ s _ f c.base_of-base.ensures.0 t z)

pub returns : goal.returns
returns c = λ w h s e. c.sift_each.ensures w _ e (λ t u. u)

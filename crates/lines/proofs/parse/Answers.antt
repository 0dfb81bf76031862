-- `lines::parse` meets its contract: each return by the shapes that were tested.
use Rattle.std.specs.Prelude.{Ok}
use mathlib.Core.Path.{sym, ap, ◌∙◌}
use Rattle.lines.specs.declared.Request.{Request}
use Rattle.lines.specs.Grammar.{request_of}
use Rattle.lines.proofs.laws.Shapes.{shape-length}
use Rattle.lines.proofs.parse.Goals as goal

pub keyed-requires : goal.keyed-requires
keyed-requires c = shape-length _ _ (sym c.shaped.ensures ∙ c.if-shaped.true)

pub returns-then-shaped : goal.returns-then-shaped
unfolding request_of
returns-then-shaped c = rw (sym c.shaped.ensures ∙ c.if-shaped.true) (ap (λ x0. Ok (Request.LookUp x0)) c.keyed.ensures)

pub number_request-requires : goal.number_request-requires
number_request-requires c = shape-length _ _ (sym c.shaped-2.ensures ∙ c.if-shaped-2.true)

pub returns-then-shaped-2 : goal.returns-then-shaped-2
unfolding request_of
returns-then-shaped-2 c =
    rw (
      sym c.shaped.ensures
          ∙ c.if-shaped.false,
      sym c.shaped-2.ensures ∙ c.if-shaped-2.true,
    )
    c.number_request.ensures

pub returns : goal.returns
unfolding request_of
returns c =
    rw (
      sym c.shaped.ensures
          ∙ c.if-shaped.false,
      sym c.shaped-2.ensures ∙ c.if-shaped-2.false,
    )

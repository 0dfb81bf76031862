-- `successors::sift` meets its contract.
use mathlib.Core.Path.{sym, ◌∙◌}
use native.Mathlib.Omega.{arith}
use Rattle.board.proofs.laws.LowestLaws.{lowest-first}
use Rattle.successors.proofs.laws.SiftLaws.{sift-start, sift-refuted, sift-turn, sift-end}
use Rattle.successors.proofs.sifting.sift.Goals as goal

pub loop-to-init : goal.loop-to-init
loop-to-init g c =
    (omega arith, λ bytes b from goes e h. sift-start _ _ _ _ _ _ (rw (c.into_iter-to-iterator.ensures.into_iter_gives, c.squares_of-to-items.ensures) e))

pub read-c-requires : goal.read-c-requires
read-c-requires g c = c.requires _ (lowest-first _ _ _ c.in-Some.ensures.steps).square

pub returns-then-refutes : goal.returns-then-refutes
returns-then-refutes g c =
    λ bytes b from goes e h. let v = c.loop-to.invariant.1 bytes b from goes e h in
    let low = lowest-first _ _ _ c.in-Some.ensures.steps in
    sift-refuted _ _ _ _ _ _ _ _ _ _ low v (h _ _ low.square (v.legal-rest _ low.square low.here) c.read-c.ensures)
    (sym c.refutes.ensures ∙ c.if-refutes.true)

pub loop-to-preserved-then-suits : goal.loop-to-preserved-then-suits
loop-to-preserved-then-suits g c = (
  c.with-found.type_inv,
  λ bytes b from goes e h. let v = c.loop-to.invariant.1 bytes b from goes e h in
      let low = lowest-first _ _ _ c.in-Some.ensures.steps in
      sift-turn _ _ _ _ _ _ _ _ _ _ low v (h _ _ low.square (v.legal-rest _ low.square low.here) c.read-c.ensures) _
      (sym c.refutes.ensures ∙ c.if-refutes.false)
      (c.with-found.ensures ∙ sym (rw (sym c.suits.ensures ∙ c.if-suits.true))),
)

pub loop-to-preserved : goal.loop-to-preserved
loop-to-preserved g c = (
  c.loop-to.invariant.0,
  λ bytes b from goes e h. let v = c.loop-to.invariant.1 bytes b from goes e h in
      let low = lowest-first _ _ _ c.in-Some.ensures.steps in
      sift-turn _ _ _ _ _ _ _ _ _ _ low v (h _ _ low.square (v.legal-rest _ low.square low.here) c.read-c.ensures) _
      (sym c.refutes.ensures ∙ c.if-refutes.false)
      (sym (rw (sym c.suits.ensures ∙ c.if-suits.false))),
)

pub returns : goal.returns
returns g c =
    λ bytes b from goes e h. sift-end _ _ _ _ _ _ _ c.loop-to.invariant.0 c.in-None.ensures.steps.0
    (c.loop-to.invariant.1 bytes b from goes e h)

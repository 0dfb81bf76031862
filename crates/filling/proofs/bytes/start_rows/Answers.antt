-- `filling::start_rows` meets its contract. The loop's invariant: the bytes below n are started, the others as they were,
-- and the row's set is kept.
use mathlib.Core.Path.{◌≡◌, refl, ◌∙◌}
use mathlib.Core.Bool.{cond}
use native.Mathlib.Omega.{arith}
use borrow.Author.Rules.{rules}
use Rattle.finite.specs.Mapped.{upto-none, upto-more, upto_all}
use Rattle.position.specs.Posed.{material_for}
use Rattle.deciding.proofs.laws.RowSets.{legal-in-row, legal-next}
use Rattle.working_back.proofs.laws.Admitted.{size-most}
use Rattle.filling.proofs.laws.Code.{start-byte}
use Rattle.filling.proofs.bytes.start_rows.Goals as goal

pub loop-n-init : goal.loop-n-init
loop-n-init c = (upto-none _ _, λ z. absurd (z refl))

pub overflow_cast-n : goal.overflow_cast-n
overflow_cast-n c =
    let u = c.loop-n.invariant.0 in
    omega (
      arith,
      c.loop-n-test.true,
      u.same_length,
      c.requires.2,
      size-most (material_for c.args.m),
    )

pub loop-n-preserved : goal.loop-n-preserved
loop-n-preserved c =
    let i = c.loop-n.invariant in
    let u = i.0 in
    let t = c.loop-n-test.true in
    let p = c.requires in
    let m = c.args.m in
    let byte : c.from.result ≡ cond c.has.result 1 0 = search rules in
    let row = c.legal_row_at-legal.ensures p.0 p.1 (omega (arith, t, u.same_length, p.2)) i.1 in (
      upto-more _ _ _ _ _ u (omega (arith, u.same_length, t))
          (byte ∙ start-byte _ _ 0 _ (c.has.ensures ∙ legal-in-row m _ _ row)),
      λ z. legal-next m _ _ z row,
    )

pub shape_of-table : goal.shape_of-table
shape_of-table c = c.loop-n.invariant.0.same_length

pub returns : goal.returns
returns c = let u = c.loop-n.invariant.0 in upto_all _ _ _ _ u (omega (arith, u.same_length))

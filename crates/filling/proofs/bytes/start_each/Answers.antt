-- `filling::start_each` meets its contract. The loop's invariant: the bytes below n are started, the others as they were.
use mathlib.Core.Path.{◌≡◌, ◌∙◌}
use mathlib.Core.Bool.{cond}
use native.Mathlib.Omega.{arith}
use borrow.Author.Rules.{rules}
use Rattle.finite.specs.Mapped.{upto-none, upto-more, upto_all}
use Rattle.position.specs.Posed.{material_for}
use Rattle.working_back.proofs.laws.Admitted.{size-most}
use Rattle.filling.proofs.laws.Code.{start-byte}
use Rattle.filling.proofs.bytes.start_each.Goals as goal

pub loop-n-init : goal.loop-n-init
loop-n-init c = upto-none _ _

pub overflow_cast-n : goal.overflow_cast-n
overflow_cast-n c =
    let u = c.loop-n.invariant in
    omega (
      arith,
      c.loop-n-test.true,
      u.same_length,
      c.requires.2,
      size-most (material_for c.args.m),
    )

pub loop-n-preserved : goal.loop-n-preserved
loop-n-preserved c =
    let u = c.loop-n.invariant in
    let h = c.loop-n-test.true in
    let p = c.requires in
    let byte : c.from.result ≡ cond c.is_legal_number.result 1 0 = search rules in
    upto-more _ _ _ _ _ u (omega (arith, u.same_length, h))
    (byte ∙ start-byte _ _ 0 _ (c.is_legal_number.ensures p.0 p.1 (omega (arith, h, u.same_length, p.2))))

pub shape_of-table : goal.shape_of-table
shape_of-table c = c.loop-n.invariant.same_length

pub returns : goal.returns
returns c = let u = c.loop-n.invariant in upto_all _ _ _ _ u (omega (arith, u.same_length))

-- `working_back::base_of` meets its contract.
use mathlib.Core.Path.{sym, ◌∙◌, ap}
use Prim.Native.Nat.{ℕ, ◌+◌, ◌*◌}
use lib.Bits.{bit_xor}
use borrow.Author.Tests.{le-leb, lt-leb, eq-eqb, ne_eqb}
use Rattle.working_back.proofs.lines.base_of.Goals as goal

pub returns-then-m-ge4 : goal.returns-then-m-ge4
returns-then-m-ge4 c = (c.base_of_one.ensures.0 ∙ sym (rw (le-leb _ _ c.if-m-ge4.true)), c.base_of_one.ensures.1)

pub returns-then-q-to : goal.returns-then-q-to
returns-then-q-to c = (
  c.base_of_first.ensures.0 ∙ ap (λ (y : ℕ). c.args.f.kings * 4096 + bit_xor y c.args.f.flip) c.again.ensures
      ∙ sym (rw (lt-leb _ _ c.if-m-ge4.false, eq-eqb _ _ c.if-q-to.true)),
  c.base_of_first.ensures.1,
)

pub returns : goal.returns
returns c = (
  c.base_of_second.ensures.0 ∙ ap (λ (y : ℕ). c.args.f.kings * 4096 + bit_xor y c.args.f.flip * 64) c.again-2.ensures
      ∙ sym (rw (lt-leb _ _ c.if-m-ge4.false, ne_eqb _ _ c.if-q-to.false)),
  c.base_of_second.ensures.1,
)

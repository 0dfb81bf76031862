-- `index::keys::turned` meets its contract.
use native.Mathlib.Omega.{arith}
use Rattle.index.proofs.laws.KeyLaws.{turned-three, turned-four}
use Rattle.index.proofs.keys.turned.Goals as goal

pub overflow_mul-result : goal.overflow_mul-result
overflow_mul-result c = omega (arith, c.reversing-flip.ensures.1)

pub returns-then-single : goal.returns-then-single
returns-then-single c =
    let e = c.reversing-flip.ensures in
    λ w b x y s. turned-three _ _ _ _ _ _ _ s e.1 e.0 c.if-single.true

pub overflow_mul-result-2 : goal.overflow_mul-result-2
overflow_mul-result-2 c = omega (arith, c.reversing-flip.ensures.1)

pub returns : goal.returns
returns c =
    let e = c.reversing-flip.ensures in
    λ w b x y s. turned-four _ _ _ _ _ _ _ s e.1 e.0 c.if-single.false

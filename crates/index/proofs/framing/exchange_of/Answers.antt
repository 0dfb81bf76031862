-- `index::exchange_of` meets its contract: each return by the tests that led there.
use borrow.Author.Tests.{lt-ltb, le-ltb, eq-eqb, ne_eqb}
use Rattle.index.specs.Least.{exchange_of}
use Rattle.index.proofs.framing.exchange_of.Goals as goal

pub returns-then-white : goal.returns-then-white
unfolding exchange_of
returns-then-white c = simp (lt-ltb _ _ c.if-white.true)

pub returns-then-white-2 : goal.returns-then-white-2
unfolding exchange_of
returns-then-white-2 c = simp (le-ltb _ _ c.if-white.false, ne_eqb _ _ c.if-white-2.true)

pub returns-then-black : goal.returns-then-black
unfolding exchange_of
returns-then-black c =
    simp (le-ltb _ _ c.if-white.false, eq-eqb _ _ c.if-white-2.false, lt-ltb _ _ c.if-black.true)

pub returns-then-black-2 : goal.returns-then-black-2
unfolding exchange_of
returns-then-black-2 c =
    simp (
      le-ltb _ _ c.if-white.false,
      eq-eqb _ _ c.if-white-2.false,
      le-ltb _ _ c.if-black.false,
      ne_eqb _ _ c.if-black-2.true,
    )

pub returns : goal.returns
unfolding exchange_of
returns c =
    simp (
      le-ltb _ _ c.if-white.false,
      eq-eqb _ _ c.if-white-2.false,
      le-ltb _ _ c.if-black.false,
      eq-eqb _ _ c.if-black-2.false,
    )

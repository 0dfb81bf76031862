-- `Position::swaps` meets its contract: each return by the tests that led there.
use mathlib.Core.Path.{◌≡◌, ◌∙◌}
use mathlib.Core.Bool.{Bool, true, false, ◌&&◌, ◌||◌}
use borrow.Author.Tests.{le-ltb, lt-ltb, eq-eqb, ne_eqb}
use Rattle.numbering.specs.Normal.{swaps_kings}
use Rattle.position.specs.Keyed.{board_of}
use Rattle.position.proofs.Position.swaps.Goals as goal

-- both kings on the diagonal: the men tell
last : (a d b e m : Bool) → a ≡ false → d ≡ true → b ≡ false → e ≡ true → m ≡ (a || (d && (b || (e && m))))
last a d b e m p q r s = simp (p, q, r, s)

pub returns-then-white : goal.returns-then-white
unfolding swaps_kings board_of
returns-then-white c = simp (lt-ltb _ _ c.if-white.true)

pub returns-then-white-2 : goal.returns-then-white-2
unfolding swaps_kings board_of
returns-then-white-2 c = simp (le-ltb _ _ c.if-white.false, ne_eqb _ _ c.if-white-2.true)

pub returns-then-black : goal.returns-then-black
unfolding swaps_kings board_of
returns-then-black c =
    simp (le-ltb _ _ c.if-white.false, eq-eqb _ _ c.if-white-2.false, lt-ltb _ _ c.if-black.true)

pub returns-then-black-2 : goal.returns-then-black-2
unfolding swaps_kings board_of
returns-then-black-2 c =
    simp (
      le-ltb _ _ c.if-white.false,
      eq-eqb _ _ c.if-white-2.false,
      le-ltb _ _ c.if-black.false,
      ne_eqb _ _ c.if-black-2.true,
    )

pub returns : goal.returns
unfolding swaps_kings board_of
returns c =
    c.men_above.ensures
    ∙ last _ _ _ _ _ (le-ltb _ _ c.if-white.false)
    (eq-eqb _ _ c.if-white-2.false) (le-ltb _ _ c.if-black.false)
    (eq-eqb _ _ c.if-black-2.false)

-- `index::place::place_at` meets its contract.
use mathlib.Core.Path.{subst⁻¹}
use Rattle.index.specs.Seats.{StandsAt}
use Rattle.index.proofs.laws.PlaceLaws.{stands_one, stands-two}
use Rattle.index.proofs.place.place_at.Goals as goal

pub returns-then-m-ge4 : goal.returns-then-m-ge4
returns-then-m-ge4 c =
    λ w d h.
    let a = c.args in
    subst⁻¹ (StandsAt a.m a.n) c.seat_of.ensures (stands_one a.m w d a.n h c.if-m-ge4.true)

pub returns : goal.returns
returns c =
    λ w d h.
    let a = c.args in
    subst⁻¹ (StandsAt a.m a.n) c.seat_of-2.ensures (stands-two a.m w d a.n h c.if-m-ge4.false)

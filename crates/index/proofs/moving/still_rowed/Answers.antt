-- `index::moving::still_rowed` meets its contract.
use mathlib.Core.Path.{refl, subst}
use Prim.Native.Nat.{ℕ, ◌≤◌}
use native.Mathlib.Omega.{arith}
use lib.Dec.{leb}
use Rattle.index.proofs.laws.MovingLaws.{row-stands, lifted-key, row-base}
use Rattle.index.proofs.moving.still_rowed.Goals as goal

pub overflow_cast-first : goal.overflow_cast-first
overflow_cast-first c = omega (arith, c.first_of-first.ensures.1)

pub returns : goal.returns
returns c =
    let x = c.args in
    let p = c.requires in
    row-stands x.m x.q.white x.q.first x.q.second _ c.alike-like.ensures refl p.0 c.ranges.row.fits c.pair_scale.ensures
    (row-base (leb 64 x.q.second) c.alike-like.result _ _ _ _ _ _ _ c.first_of-first.ensures.0 (lifted-key x.q p.2 _ c.key_at.ensures.0)
    c.rising_key.ensures c.number_by.ensures)
    p.1 (subst (λ (i : ℕ). i ≤ 432) c.first_of-first.ensures.0 c.first_of-first.ensures.1)

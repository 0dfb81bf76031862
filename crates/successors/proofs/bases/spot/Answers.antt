-- `successors::spot` meets its contract.
use Prim.Native.Nat.{ℕ, ◌*◌, ◌^◌, ◌<◌, ◌≤◌}
use native.Mathlib.Nat.{mul-le-mul}
use native.Mathlib.Omega.{arith}
use lib.Bits.{bit_xor, xor_lt}
use Rattle.successors.proofs.bases.spot.Goals as goal

least : (a b : ℕ) → a < 2 ^ 8 → b < 2 ^ 8 → bit_xor a b ≤ 255
least a b h k = omega (arith, xor_lt 8 a b h k)

product : (a b s : ℕ) → a < 2 ^ 8 → b < 2 ^ 8 → s < 2 ^ 8 → bit_xor a b * s ≤ 255 * 255
product a b s h k l =
    let u : bit_xor a b ≤ 255 = least a b h k in
    let v : s ≤ 255 = omega arith in mul-le-mul u v

pub overflow_cast-result : goal.overflow_cast-result
overflow_cast-result c = let a = c.args in omega (arith, least a.s a.flip c.ranges.s.fits c.ranges.flip.fits)

pub overflow_mul-result : goal.overflow_mul-result
overflow_mul-result c =
    let a = c.args in
    omega (arith, product a.s a.flip a.scale c.ranges.s.fits c.ranges.flip.fits c.ranges.scale.fits)

pub overflow_add-result : goal.overflow_add-result
overflow_add-result c =
    let a = c.args in
    omega (arith, product a.s a.flip a.scale c.ranges.s.fits c.ranges.flip.fits c.ranges.scale.fits)

-- `index::moving::still_number` meets its contract.
use mathlib.Core.Path.{ap, ◌∙◌}
use Prim.Native.Nat.{ℕ, ◌+◌, ◌*◌, ◌^◌, ◌<◌, ◌≤◌}
use native.Mathlib.Omega.{arith}
use native.Mathlib.Nat.{mul-le-mul}
use Rattle.index.proofs.laws.KeyLaws.{number-by-key}
use Rattle.index.proofs.moving.still_number.Goals as goal

stepped : (s unit : ℕ) → s < 64 → unit ≤ 262144 → s * unit ≤ 64 * 262144
stepped s unit h k = let u : s ≤ 64 = omega arith in mul-le-mul u k

scaled : (side below unit : ℕ) → side < 2 ^ 8 → below ≤ 64 → unit ≤ 262144 → (side * 462 + below) * unit ≤ 131072 * 262144
scaled side below unit h k l = let u : side * 462 + below ≤ 131072 = omega arith in mul-le-mul u l

pub overflow_mul-s : goal.overflow_mul-s
overflow_mul-s c = omega (arith, stepped _ _ c.requires.0 c.requires.2)

pub overflow_add-l : goal.overflow_add-l
overflow_add-l c =
    let p = c.requires in
    omega (arith, stepped _ _ p.0 p.2, p.1)

pub returns-then-row-eq0 : goal.returns-then-row-eq0
returns-then-row-eq0 c =
    λ m place st i apart.
    let side = c.args.side in
    let s = c.args.s in
    number-by-key m (place side s) i _ _ _ _ _ (st.alone-is side s c.requires.0) st.like_is (st.side-is side s) (st.key-is c.if-row-eq0.true side s c.requires.0)
    c.number_keyed.ensures

pub count_before-requires : goal.count_before-requires
count_before-requires c = c.requires.0

pub overflow_mul-result : goal.overflow_mul-result
overflow_mul-result c = omega (arith, scaled _ _ _ c.ranges.side.fits c.count_before.ensures.1 c.requires.2)

pub overflow_add-result : goal.overflow_add-result
overflow_add-result c =
    omega (arith, scaled _ _ _ c.ranges.side.fits c.count_before.ensures.1 c.requires.2, c.requires.1)

pub returns : goal.returns
returns c =
    λ m place st i apart.
    ap (λ (n : ℕ). (c.args.side * 462 + n) * c.args.l.unit + c.args.l.base) c.count_before.ensures.0
    ∙ st.row_is c.if-row-eq0.false _ _ c.requires.0 i apart

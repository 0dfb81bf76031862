-- The place in the list of kings packed as one number, the white king in the triangle.
use Rattle.std.specs.Prelude.{◌≡◌, Bool, ℕ, ◌+◌, ◌-◌, ◌*◌, ◌/◌, ◌%◌, ◌<◌, ◌≤◌, T, leb, eqb, get_or}
use Rattle.std.proofs.Common.{ap, subst, ◌∙◌, arith, eqb→eq, leb→le}
use Rattle.finite.specs.Truth.{implies, implied}
use Rattle.finite.specs.Below.{all_below, below}
use Rattle.numbering.specs.Kings.{in_triangle, pair_of}
use Rattle.pairs.specs.Tables.{slot_of, pairs}
use Rattle.pairs.proofs.laws.TableLaws.{slot-in, in-triangle, entry-pair}

-- ---- the squares left out before a rank

small : ℕ → Bool
small rank = leb (rank * (rank + 9)) (rank * 16)

all_small : T (all_below small 8)
unfolding all_below small
all_small = tt

pub skipped-small : (rank : ℕ) → rank < 8 → rank * (rank + 9) ≤ rank * 16
unfolding small
skipped-small rank h = leb→le (rank * (rank + 9)) (rank * 16) (below small 8 all_small rank h)

index-right : ℕ → Bool
index-right w = implies (in_triangle w) (eqb (slot_of w * 64 + w / 8 * (w / 8 + 9) * 32) (w * 64))

all-index : T (all_below index-right 28)
unfolding all_below index-right slot_of
all-index = tt

-- ---- the entry

left_over : (k w b p s : ℕ) → k ≡ w * 64 + b → s * 64 + p ≡ w * 64 → k - p ≡ s * 64 + b
left_over k w b p s e f = omega arith

module _ (k : ℕ) (t : T (in_triangle (k / 64))) where
  at-index : k - k / 64 / 8 * (k / 64 / 8 + 9) * 32 ≡ slot_of (k / 64) * 64 + k % 64
  unfolding index-right
  at-index =
      left_over k (k / 64) (k % 64) (k / 64 / 8 * (k / 64 / 8 + 9) * 32) (slot_of (k / 64)) (omega arith)
      (eqb→eq (slot_of (k / 64) * 64 + k / 64 / 8 * (k / 64 / 8 + 9) * 32) (k / 64 * 64)
      (implied (in_triangle (k / 64)) (eqb (slot_of (k / 64) * 64 + k / 64 / 8 * (k / 64 / 8 + 9) * 32) (k / 64 * 64))
      (below index-right 28 all-index (k / 64) (in-triangle (k / 64) t)) t))

  pub index-lt : k - k / 64 / 8 * (k / 64 / 8 + 9) * 32 < 640
  index-lt = let s = slot-in (k / 64) t in let e = at-index in omega (arith, e, s)

  pub index-pair : get_or pairs (k - k / 64 / 8 * (k / 64 / 8 + 9) * 32) 0 ≡ pair_of (k / 64) (k % 64)
  index-pair =
      ap (λ (i : ℕ). get_or pairs i 0) at-index ∙ entry-pair (k / 64) (k % 64) (omega arith) (slot-in (k / 64) t)

-- ---- as code finds it, on any number

ranks-lt : (w : ℕ) → w < 64 → w / 8 < 8
ranks-lt w h = omega arith

pub rank_lt : (k : ℕ) → k % 4096 / 64 / 8 < 8
rank_lt k = ranks-lt (k % 4096 / 64) (omega arith)

fits : (k w r p : ℕ) → w * 64 ≤ k → r * 8 ≤ w → p ≤ r * 16 → p * 32 ≤ k
fits k w r p a b c = omega arith

pub skipped-fits : (k : ℕ) → k % 4096 / 64 / 8 * (k % 4096 / 64 / 8 + 9) * 32 ≤ k % 4096
skipped-fits k =
    fits (k % 4096) (k % 4096 / 64) (k % 4096 / 64 / 8) (k % 4096 / 64 / 8 * (k % 4096 / 64 / 8 + 9)) (omega arith)
    (omega arith) (skipped-small (k % 4096 / 64 / 8) (rank_lt k))

module _ (kings : ℕ) (h : kings < 4096) (t : T (in_triangle (kings / 64))) where
  same : kings ≡ kings % 4096
  same = omega arith

  pub packed_lt : kings % 4096 - kings % 4096 / 64 / 8 * (kings % 4096 / 64 / 8 + 9) * 32 < 640
  packed_lt = subst (λ (k : ℕ). k - k / 64 / 8 * (k / 64 / 8 + 9) * 32 < 640) same (index-lt kings t)

  pub packed-pair : get_or pairs (kings % 4096 - kings % 4096 / 64 / 8 * (kings % 4096 / 64 / 8 + 9) * 32) 0
      ≡ pair_of (kings / 64) (kings % 64)
  packed-pair =
      subst (λ (k : ℕ). get_or pairs (k - k / 64 / 8 * (k / 64 / 8 + 9) * 32) 0 ≡ pair_of (kings / 64) (kings % 64)) same
      (index-pair kings t)

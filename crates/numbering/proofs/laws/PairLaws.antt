-- The 462 pairs of kings: a pair has one number, and a number one pair.
use Rattle.std.specs.Prelude.{◌≡◌, refl, ℕ, ◌+◌, ◌*◌, ◌/◌, ◌%◌, ◌<◌, T}
use Rattle.std.proofs.Math.Path.{ap}
use Rattle.std.proofs.Common.{sym, ◌∙◌}
use native.Mathlib.Omega.{arith}
use Rattle.finite.specs.Truth.{cond-true}
use Rattle.finite.specs.Members.{any}
use Rattle.finite.specs.Numbers.{numbers}
use Rattle.finite.specs.Ranked.{rank, select, rank_rises, selected, select-rank}
use Rattle.board.specs.Square.{stays, shift}
use Rattle.board.specs.Reach.{line, reaches}
use Rattle.numbering.specs.Kings.{cornered, separate, king_rule, king_pair, pair_of, kings_of}

pub pair-count : rank king_pair 4096 ≡ 462
unfolding rank king_pair king_rule cornered separate reaches any numbers line shift stays
pair-count = refl

-- kings by the rule, as two squares of the board
module _ (white black : ℕ) (hw : white < 64) (hk : black < 64) (t : T (king_rule white black)) where
  pub pair-passes : T (king_pair (white * 64 + black))
  unfolding king_pair
  pair-passes =
      let q : (white * 64 + black) / 64 ≡ white = omega arith in
      let r : (white * 64 + black) % 64 ≡ black = omega arith in
      rw (q, r) t

  pub pair-rank : pair_of white black ≡ rank king_pair (white * 64 + black)
  unfolding pair_of
  pair-rank = cond-true (king_rule white black) (rank king_pair (white * 64 + black)) 65535 t

  pub pair_lt : pair_of white black < 462
  pair_lt = rw (pair-rank, ← pair-count) (rank_rises king_pair (white * 64 + black) 4096 pair-passes (omega arith))

  -- the pair leads back to the kings
  pub kings-back : kings_of (pair_of white black) ≡ white * 64 + black
  unfolding kings_of
  kings-back =
      ap (select king_pair 4096) pair-rank ∙ select-rank king_pair 4096 (white * 64 + black) pair-passes (omega arith)

-- the kings of a pair
pub record KingsOf (q : ℕ) : Type 0 where
  pub white : kings_of q / 64 < 64
  pub black : kings_of q % 64 < 64
  pub ruled : T (king_rule (kings_of q / 64) (kings_of q % 64))
  pub bears : pair_of (kings_of q / 64) (kings_of q % 64) ≡ q

pub kings-of : (q : ℕ) → q < 462 → KingsOf q
unfolding kings_of king_pair
kings-of q h =
    let s = selected king_pair 4096 q (rw pair-count h) in
    let u = s.under in
    let k = select king_pair 4096 q in
    let hw : k / 64 < 64 = omega arith in
    let hk : k % 64 < 64 = omega arith in
    let e : k / 64 * 64 + k % 64 ≡ k = omega arith in
    record {
      white = hw;
      black = hk;
      ruled = s.passes;
      bears = pair-rank (k / 64) (k % 64) hw hk s.passes
          ∙ ap (rank king_pair) e ∙ s.ranked;
    }

-- two pairs with one number are one
pub pair_one : (white black white' black' : ℕ) → white < 64 → black < 64 → white' < 64 → black' < 64
    → T (king_rule white black) → T (king_rule white' black') → pair_of white black ≡ pair_of white' black'
    → (white ≡ white') × (black ≡ black')
pair_one white black white' black' hw hk hw' hk' t t' e =
    let k : white * 64 + black ≡ white' * 64 + black' = sym (kings-back white black hw hk t) ∙ ap kings_of e
    ∙ kings-back white' black' hw' hk' t' in
    (omega arith, omega arith)

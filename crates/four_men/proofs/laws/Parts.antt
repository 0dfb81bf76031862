-- A kind's table among the four that a pawn's ending borrows.
use Rattle.std.specs.Prelude.{◌⊎◌, List, ℕ, ◌+◌, ◌*◌, ◌<◌, ◌≤◌, length, take, drop, get_or}
use Rattle.std.proofs.Common.{inl, inr, arith, length-take, get_or-take, get_or-drop}
use Rattle.std.proofs.Math.ListN.{get_or-eq_default}
use Rattle.finite.specs.Truth.{le-or-lt}
use Rattle.four_men.specs.Lending.{part_of}

-- it is of bytes where they all are
pub part-byte : (kind : ℕ) (run : List ℕ) → ((n : ℕ) → get_or run n 0 < 256) → (n : ℕ) → get_or (part_of kind run) n 0 < 256
unfolding part_of
part-byte kind run f n = go (le-or-lt 59136 n)
  where
    go : (59136 ≤ n) ⊎ (n < 59136) → get_or (take 59136 (drop (kind * 59136) run)) n 0 < 256
    go (inl h) =
        let z = length-take 59136 (drop (kind * 59136) run) in
        let g : length (take 59136 (drop (kind * 59136) run)) ≤ n = omega (arith, z) in
        rw (get_or-eq_default (take 59136 (drop (kind * 59136) run)) 0 g) (omega arith)
    go (inr h) = rw (get_or-take, get_or-drop) (f (kind * 59136 + n))

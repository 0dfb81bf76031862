-- The number by its frame: what the kings and the side to move fix of it, whatever squares the men stand on. A frame is
-- made once for all the moves of a man. Definitions only.
use Rattle.std.specs.Prelude.{Bool, cond, ℕ, ◌+◌, ◌*◌, ◌/◌, ltb, eqb}
use Rattle.std.specs.Int.Bits.{bit_xor}
use Rattle.symmetry.specs.Symmetry.{mapped, exchange}
use Rattle.numbering.specs.Kings.{pair_of}
use Rattle.numbering.specs.KingMaps.{swapping}
use Rattle.index.specs.Least.{flip_of, exchange_of}
use Rattle.index.specs.Least.{men_digits}
use Rattle.successors.specs.declared.Frame.{Frame}

unfoldable pub frame_for : ℕ → ℕ → ℕ → Frame
frame_for side white black =
    let flip = flip_of white in
    let w = bit_xor white flip in
    let b = bit_xor black flip in
    let e = exchange_of w b in
    let swap = swapping (eqb e 1) in
    record { kings = side * 462 + pair_of (mapped swap w) (mapped swap b); flip = flip; exchange = e }

-- the men's digits, with file and rank exchanged as the kings ask, or where that is less
unfoldable pub chosen_digits : ℕ → Bool → ℕ → ℕ → ℕ
chosen_digits e like x y =
    let s = men_digits like x y in
    let t = men_digits like (mapped exchange x) (mapped exchange y) in
    cond (eqb e 0) s (cond (eqb e 1) t (cond (ltb t s) t s))

unfoldable pub number_on : Frame → Bool → Bool → ℕ → ℕ → ℕ
number_on f single like first second =
    cond single (f.kings * 64 + chosen_digits f.exchange like (bit_xor first f.flip) 0 / 64)
    (f.kings * 4096 + chosen_digits f.exchange like (bit_xor first f.flip) (bit_xor second f.flip))

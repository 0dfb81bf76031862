-- `pawn_numbers::square_flipped` meets its contract: on the board and off it.
use mathlib.Core.Path.{ap, sym, ◌∙◌}
use Prim.Native.Nat.{ℕ}
use lib.Bits.{bit_xor}
use Rattle.symmetry.proofs.laws.SymmetryLaws.{mapped-off}
use Rattle.rules.specs.Changed.{keeping}
use Rattle.pawn_numbers.proofs.laws.PlaceLaws.{bits-turn}
use Rattle.pawn_numbers.proofs.flips.square_flipped.Goals as goal

pub returns-then-s-ge64 : goal.returns-then-s-ge64
returns-then-s-ge64 c = sym (mapped-off (keeping c.args.files c.args.colours) _ c.if-s-ge64.true)

pub returns : goal.returns
returns c =
    let a = c.args in
    ap (λ (t : ℕ). bit_xor a.s t) c.flip_bits.ensures
    ∙ bits-turn a.files a.colours a.s c.if-s-ge64.false

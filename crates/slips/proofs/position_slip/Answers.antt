-- `slips::position_slip` meets its contract, part by part.
use Rattle.std.specs.Prelude.{Ok}
use Rattle.slips.specs.Slip.{square_name, gapped, placed_text, placed_slip}
use Rattle.slips.proofs.laws.Appending.{first_byte, then, gap_same}
use Rattle.slips.proofs.laws.Padding.{finished}
use Rattle.slips.proofs.laws.Lengths.{placed-line}
use borrow.Author.Rules.{rules}
use Rattle.slips.proofs.position_slip.Goals as goal

pub returns : goal.returns
unfolding square_name gapped placed_text placed_slip
returns c =
    let side = first_byte _ _ _ _ _ c.blank.ensures
    c.side_letter.ensures
    c.with_byte-side.ensures in
    let white = then _ _ _ _ _ side c.with_gap-white.ensures in
    let man = then _ _ _ _ _ white
    (gap_same c.with_gap-white.result c.with_gap-man.result
    c.man_in.result _ c.man_in.ensures
    c.with_gap-man.ensures) in
    let black = then _ _ _ _ _ man c.with_gap-black.ensures in
    finished _ _ _ black c.with_byte.ensures
    (placed-line (Ok c.args.p)).most

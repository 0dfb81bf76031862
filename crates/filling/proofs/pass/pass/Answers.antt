-- `filling::pass` meets its contract.
use Rattle.filling.proofs.pass.pass.Goals as goal

pub pass_halves-requires : goal.pass_halves-requires
pass_halves-requires c =
    let p = c.requires in
    (p.0, p.1, record { in-white = c.white_may-white.ensures; in-black = c.black_may-black.ensures })

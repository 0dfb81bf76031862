-- `move_bytes::write_move` meets its contract.
use native.Mathlib.Omega.{arith}
use lib.ListN.{length-set}
use Rattle.move_bytes.proofs.laws.StoreLaws.{four_bytes}
use Rattle.move_bytes.proofs.write_move.Goals as goal

pub bounds-bytes-at-2 : goal.bounds-bytes-at-2
bounds-bytes-at-2 c = simp length-set (omega arith)

pub bounds-bytes-at-3 : goal.bounds-bytes-at-3
bounds-bytes-at-3 c = simp length-set (omega arith)

pub bounds-bytes-at-4 : goal.bounds-bytes-at-4
bounds-bytes-at-4 c = simp length-set (omega arith)

pub returns : goal.returns
returns c =
    let x = c.args in
    four_bytes x.bytes.now x.at x.from x.to _ x.becomes _ c.flag.ensures.0

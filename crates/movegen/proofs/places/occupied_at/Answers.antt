-- `movegen::occupied_at` meets its contract.
use Rattle.movegen.proofs.laws.Places.{occupied-set}
use Rattle.movegen.proofs.places.occupied_at.Goals as goal

pub returns : goal.returns
returns c =
    let a = c.one in
    let b = c.one-2 in
    let d = c.one-3 in
    let e = c.one-4 in
    λ m. occupied-set m c.args.q _ _ _ _ a.ensures b.ensures d.ensures
    e.ensures a.type_inv b.type_inv d.type_inv e.type_inv

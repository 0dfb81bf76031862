-- `index::moving::still_keyed` meets its contract.
use mathlib.Core.Path.{refl}
use Rattle.index.proofs.laws.MovingLaws.{keyed-stands}
use Rattle.index.proofs.moving.still_keyed.Goals as goal

pub returns : goal.returns
returns c =
    let x = c.args in
    λ place k. keyed-stands x.m x.q place _ k refl c.alike.ensures c.key_at.ensures.0 c.key_at.ensures.1
    c.requires refl

-- A move gives the other side the move: what chess needs to be a game.
use Rattle.std.specs.Prelude.{◌≡◌, refl, ℕ, zero, suc, ◌-◌}
use Rattle.rules.specs.declared.Move.{Move}
use Rattle.rules.specs.Rules.{Board, moved, played_as}

pub moved-side : (b : Board) (from to : ℕ) → (moved b from to).side ≡ 1 - b.side
unfolding moved
moved-side b from to = refl

pub played-side : (b : Board) (v : Move) → (played_as b v.from v.to v.becomes).side ≡ 1 - b.side
played-side b v = go v.becomes
  where
    go : (k : ℕ) → (played_as b v.from v.to k).side ≡ 1 - b.side
    go zero = moved-side b v.from v.to
    go (suc k) = moved-side b v.from v.to

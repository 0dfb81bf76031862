-- `verdicts::requires_depth` meets its contract, by the first man.
use Prim.Native.Nat.{ℕ, ◌+◌}
use lib.Dec.{eqb}
use Rattle.theory.specs.Required.{required_at}
use Rattle.rules.specs.Rules.{Board}
use Rattle.rules.specs.Chess.{chess}
use Rattle.deciding.proofs.laws.PawnVerdicts.{seated-pawn, seated-pieces, for-pawn}
use Rattle.deciding.proofs.verdicts.requires_depth.Goals as goal

pub returns-then-m-eq-PAWN : goal.returns-then-m-eq-PAWN
returns-then-m-eq-PAWN c =
    λ w. let s = seated-pawn _ _ w c.if-m-eq-PAWN.true in
    for-pawn _ _ (λ (f : Board → ℕ) (b : Board). eqb (required_at chess f b) (2 + c.args.k)) _ _ _ _ s (c.pawn_requires.ensures s.on)

pub returns : goal.returns
returns c = λ w. c.requires_depth.ensures (seated-pieces _ _ w c.if-m-eq-PAWN.false)

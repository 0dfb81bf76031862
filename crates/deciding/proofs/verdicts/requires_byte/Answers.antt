-- `verdicts::requires_byte` meets its contract, by the first man.
use Prim.Native.Nat.{ℕ}
use lib.Dec.{eqb}
use Rattle.theory.specs.Required.{required_at}
use Rattle.rules.specs.Rules.{Board}
use Rattle.rules.specs.Chess.{chess}
use Rattle.deciding.proofs.laws.PawnVerdicts.{seated-pawn, seated-pieces, for-pawn}
use Rattle.deciding.proofs.verdicts.requires_byte.Goals as goal

pub returns-then-m-eq-PAWN : goal.returns-then-m-eq-PAWN
returns-then-m-eq-PAWN c =
    λ w. let s = seated-pawn _ _ w c.if-m-eq-PAWN.true in
    for-pawn _ _ (λ (f : Board → ℕ) (b : Board). eqb c.args.byte (required_at chess f b))
    _ _ _ _ s (c.pawn_requires_byte.ensures s.on)

pub returns : goal.returns
returns c = λ w. c.requires_byte.ensures (seated-pieces _ _ w c.if-m-eq-PAWN.false)

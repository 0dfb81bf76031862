-- `successors::sift` meets its contract. The loop's invariant: the targets left, and what was found among the others.
use mathlib.Core.Path.{◌≡◌}
use mathlib.Core.Bool.{Bool}
use Prim.Native.Nat.{ℕ, ◌^◌, ◌<◌}
use lib.Dec.{T}
use Rattle.board.specs.Sets.{set_of}
use Rattle.rules.specs.Rules.{Board, moved}
use Rattle.successors.proofs.laws.SiftLaws.{Sifting}
use Rattle.successors.proofs.sifting.sift.Given as goal

abbrev pub invariant-loop-to : goal.invariant-loop-to
invariant-loop-to g l = (l.found < 2 ^ 64)
    × ((bytes : Board → ℕ) (b : Board) (from : ℕ) (goes : ℕ → Bool) → l.targets ≡ set_of goes
    → ((t r : ℕ) → t < 64 → T (goes t) → goal.F-post g l.read t r → r ≡ bytes (moved b from t))
    → Sifting bytes l.byte b from goes l.found l.to-iterator.left)

-- `working_back::look` meets its contract. The loop's invariant: the squares that are no longer in the rest do not save him.
use mathlib.Core.Path.{◌≡◌}
use mathlib.Core.Bool.{false}
use mathlib.Core.List.{List}
use Prim.Native.Nat.{ℕ, ◌+◌, ◌<◌}
use lib.Dec.{T}
use Rattle.theory.specs.Judge.{refutes}
use Rattle.board.specs.Sets.{has}
use Rattle.numbering.specs.Kings.{separate}
use Rattle.position.specs.declared.Men.{Men}
use Rattle.index.specs.declared.Still.{Still}
use Rattle.index.specs.Seats.{Seated}
use Rattle.index.specs.Moving.{king_on, Stands}
use Rattle.working_back.specs.Bare.{bare_on, byte_on, Knows}
use Rattle.working_back.proofs.laws.Saved.{Unpassed}
use Rattle.working_back.proofs.known.look.Given as goal

-- what is given of the men
abbrev pub Given : Men → ℕ → ℕ → ℕ → ℕ → Still → ℕ → ℕ → ℕ → List ℕ → Type 0
Given m k white x y others goals saving harmless table =
    ((t : ℕ) → t < 64 → T (has goals t) → Seated m (bare_on 0 white t x y) × T (separate white t))
    × Knows m k white x y table saving harmless × Stands m others (king_on false white 0 x y)

abbrev pub invariant-loop-t : goal.invariant-loop-t
invariant-loop-t l = ((s : ℕ) → s < 64 → T (has l.t-iterator.left s) → T (has l.goals s))
    × ((m : Men) → Given m l.k l.white l.x l.y l.others l.goals l.saving l.harmless l.table
    → Unpassed (λ (s : ℕ). refutes (2 + l.k) (byte_on m l.table l.white l.x l.y s)) l.goals l.t-iterator.left
    × ((s : ℕ) → s < 64 → T (has l.clear s) → refutes (2 + l.k) (byte_on m l.table l.white l.x l.y s) ≡ false))

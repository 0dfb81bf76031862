-- `movegen::passing_of` meets its contract: the squares kept so far, and those of the rest that pass, are all that pass.
use Rattle.std.proofs.Common.{◌≡◌, Bool, ◌&&◌, ◌||◌, ℕ, ◌<◌, T}
use Rattle.board.specs.Sets.{has}
use Rattle.movegen.specs.Passing.{Tells}
use Rattle.movegen.proofs.passing.passing_of.Given as goal

abbrev pub invariant-loop-s : goal.invariant-loop-s
invariant-loop-s g l = ((s : ℕ) → s < 64 → T (has l.s-iterator.left s) → T (has l.set s))
    × ((p : ℕ → Bool) → Tells (goal.F-post g l.passes) l.set p → (s : ℕ) → s < 64 → (has l.kept s || (has l.s-iterator.left s && p s)) ≡ (has l.set s && p s))

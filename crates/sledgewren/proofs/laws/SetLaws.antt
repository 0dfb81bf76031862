-- The law by which a set's writers are proved: the answer for the choice that was keyed.
use Rattle.std.specs.Prelude.{◌≡◌, List, ℕ, Result}
use Rattle.std.proofs.Common.{ap, ◌∙◌}
use Rattle.sets.specs.declared.Choice.{Choice}
use Rattle.sets.specs.Answers.{SetWritten}
use Rattle.sledgewren.specs.SetWords.{set_written_word}

pub written-by : (f : Choice → List ℕ → SetWritten) (x y : Choice) (s u : List ℕ) (a : Result (Unit {0}) ℕ) (r : ℕ) → x ≡ y
    → a ≡ (f x s).answer → u ≡ (f x s).bytes → r ≡ set_written_word a
    → (r ≡ set_written_word (f y s).answer) × (u ≡ (f y s).bytes)
written-by f x y s u a r e ea eu er =
    (er ∙ ap set_written_word (ea ∙ ap (λ (z : Choice). (f z s).answer) e), eu ∙ ap (λ (z : Choice). (f z s).bytes) e)

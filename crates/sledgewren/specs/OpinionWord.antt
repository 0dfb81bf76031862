-- The word of a second opinion (include/sledgewren.h). Definitions only.
use Rattle.std.specs.Prelude.{ℕ, ◌+◌, ◌*◌, ◌^◌, Result}
use Rattle.search.specs.declared.Opinion.{Opinion}
use Rattle.search.specs.Opinions.{values_of}

-- bits 0-7 refusal, 8-15 value (win 1, loss 2, not within 4), 16-23 depth
abbrev pub opinion_word : Result Opinion ℕ → ℕ
opinion_word o = (values_of o).refusal + (values_of o).value * 2 ^ 8 + (values_of o).depth * 2 ^ 16

-- The word of each answer of the pocket edition (include/sledgewren.h): which bits hold its refusal and its values. Definitions only.
use Rattle.pocket.specs.declared.Tallies.{Tallies}
use Rattle.std.specs.Prelude.{ℕ, ◌+◌, ◌*◌, ◌^◌, Err, Ok, Result}
use Rattle.pocket.specs.Pocket.{Told}

-- 0, or the refusal
abbrev pub packed_word : Result (Unit {0}) ℕ → ℕ
packed_word (Ok tt) = 0
packed_word (Err k) = k

-- bits 0-7 refusal, 8-15 value (win 1, loss 2, draw 3)
abbrev pub told_word : Told → ℕ
told_word t = t.refusal + t.value * 2 ^ 8

-- bits 0-15 numbers with entry 0, 16-31 draws, 32-47 wins, 48-63 losses; or the refusal
abbrev pub tallied_word : Result Tallies ℕ → ℕ
tallied_word (Ok t) = t.none + t.draws * 2 ^ 16 + t.wins * 2 ^ 32 + t.losses * 2 ^ 48
tallied_word (Err k) = k

-- What the laws of the same name speak of. Definitions only.
use Rattle.std.specs.Prelude.{cond, List, [], ◌∷◌, ℕ, ◌+◌, ltb, set}
use Rattle.slips.specs.declared.Slip.{Slip}

unfoldable pub pushed : Slip → ℕ → Slip
pushed s b = cond (ltb s.len 16) (record { bytes = set s.bytes s.len b; len = s.len + 1 }) s

unfoldable pub appended : Slip → List ℕ → Slip
appended s [] = s
appended s (b ∷ bs) = appended (pushed s b) bs

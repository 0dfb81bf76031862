-- Whether a depth is required, by what spoils it. Definitions only.
use Rattle.std.specs.Prelude.{Bool, not, ◌&&◌, cond, List, ℕ, ◌+◌, ◌%◌, leb, ltb, eqb}
use Rattle.finite.specs.Members.{any}
use Rattle.theory.specs.Required.{winning}

-- With the byte c at a successor depth k is not required: a loss in k wants wins of at most k - 1 only, a win in k no loss in less than k - 1.
unfoldable pub spoils : ℕ → ℕ → Bool
spoils k c = cond (eqb (k % 2) 0) (not (winning c && leb c (1 + k))) (eqb (c % 2) 0 && (leb 2 c && ltb c (1 + k)))

unfoldable pub requires : ℕ → List ℕ → Bool
requires k bs = not (any (spoils k) bs) && any (eqb (1 + k)) bs

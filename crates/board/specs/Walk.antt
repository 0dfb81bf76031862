-- The walk. Definitions only.
-- "From a man in one direction it answers exactly the first square with another man, or that the edge comes first" (02, P3).
use Rattle.std.specs.Prelude.{Bool, false, cond, ◌||◌, ℕ, zero, suc, ltb, eqb, Option, Some, None}
use Rattle.board.specs.Reach.{stepped}

-- the first occupied square within n steps from s in the k-th direction, or the edge
unfoldable pub first_met : (ℕ → Bool) → ℕ → ℕ → ℕ → Option ℕ
first_met occ zero s k = None
first_met occ (suc n) s k =
    let u = stepped s k in
    cond (ltb u 64) (cond (occ u) (Some u) (first_met occ n u k)) None

-- the walk, for which seven steps are enough (`seven-enough`); there are eight directions, and no other leads anywhere
unfoldable pub walk_of : (ℕ → Bool) → ℕ → ℕ → Option ℕ
walk_of occ s k = cond (ltb k 8) (first_met occ 7 s k) None

-- it meets t
abbrev pub met_at : Option ℕ → ℕ → Bool
met_at (Some u) t = eqb u t
met_at None t = false

-- the squares that count as occupied where t is asked about: t itself does, since a line may end on an empty square too
abbrev pub with_target : (ℕ → Bool) → ℕ → ℕ → Bool
with_target occ t u = occ u || eqb u t

-- a walk from s in the k-th direction meets t first
abbrev pub meets_first : (ℕ → Bool) → ℕ → ℕ → ℕ → Bool
meets_first occ s t k = met_at (walk_of (with_target occ t) s k) t

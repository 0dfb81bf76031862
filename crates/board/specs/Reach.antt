-- Lines and the steps of each piece. Definitions only.
-- Kinds of piece: queen 0, rook 1, bishop 2, knight 3 (01, "Material codes"), king 5; 4 is kept for a pawn and, like any other code, has no steps.
use Rattle.std.specs.Prelude.{Bool, false, not, ◌&&◌, ◌||◌, List, [], ◌∷◌, ℕ, zero, suc, ltb, eqb, get_or}
use Rattle.finite.specs.Members.{any}
use Rattle.finite.specs.Numbers.{numbers}
use Rattle.board.specs.Square.{shift}

-- The line from s, of at most n steps in one direction, arrives at t. "A line of attack stops at the first man it meets" (01).
unfoldable pub line : (ℕ → Bool) → ℕ → ℕ → ℕ → ℕ → ℕ → Bool
line occ zero s dx dy t = false
line occ (suc n) s dx dy t =
    let u = shift s dx dy in
    let more = line occ n u dx dy t in
    ltb u 64 && (eqb u t || not (occ u) && more)

-- the sixteen steps: four of the rook, four of the bishop, eight of the knight
abbrev pub step_xs : List ℕ
step_xs = 2 ∷ 1 ∷ 3 ∷ 2 ∷ 1 ∷ 3 ∷ 1 ∷ 3 ∷ 1 ∷ 3 ∷ 0 ∷ 4 ∷ 0 ∷ 4 ∷ 1 ∷ 3 ∷ []

abbrev pub step_ys : List ℕ
step_ys = 1 ∷ 2 ∷ 2 ∷ 3 ∷ 1 ∷ 1 ∷ 3 ∷ 3 ∷ 0 ∷ 0 ∷ 1 ∷ 1 ∷ 3 ∷ 3 ∷ 4 ∷ 4 ∷ []

-- the square that the k-th step leads to from s, or 64
abbrev pub stepped : ℕ → ℕ → ℕ
stepped s k = shift s (get_or step_xs k 0) (get_or step_ys k 0)

-- of each kind: its first step, the number of its steps, and how often one may be repeated
abbrev pub first_steps : List ℕ
first_steps = 0 ∷ 0 ∷ 4 ∷ 8 ∷ 0 ∷ 0 ∷ []

abbrev pub step_counts : List ℕ
step_counts = 8 ∷ 4 ∷ 4 ∷ 8 ∷ 0 ∷ 8 ∷ []

abbrev pub step_ranges : List ℕ
step_ranges = 7 ∷ 7 ∷ 7 ∷ 1 ∷ 0 ∷ 1 ∷ []

-- the steps of a kind, by their numbers in the two lists
abbrev pub steps_of : ℕ → List ℕ
steps_of kind = numbers (get_or step_counts kind 0) (get_or first_steps kind 0)

-- the k-th step leads a piece of this kind from s to t
abbrev pub line_of : (ℕ → Bool) → ℕ → ℕ → ℕ → ℕ → Bool
line_of occ kind s t k = line occ (get_or step_ranges kind 0) s (get_or step_xs k 0) (get_or step_ys k 0) t

-- a piece of this kind on s attacks t, empty or not, over the occupied squares
unfoldable pub reaches : (ℕ → Bool) → ℕ → ℕ → ℕ → Bool
reaches occ kind s t = any (line_of occ kind s t) (steps_of kind)

-- What the laws of the same name speak of. Definitions only.
use Rattle.std.specs.Prelude.{cond, ℕ, ◌+◌, length}
use mathlib.Core.List.{List, [], ◌∷◌, map, flat_map}
use Rattle.std.proofs.lemmas.List.Edits.{sets}
use Rattle.board.specs.Sets.{has}
use Rattle.rules.specs.declared.Move.{Move}
use Rattle.rules.specs.Rules.{promotion_of, move_of}
use Rattle.move_list.specs.declared.MoveList.{MoveList}

-- a list with moves stored from its first unused place on
unfoldable pub appended : MoveList → List Move → MoveList
appended l ms = record { moves = sets l.moves l.count ms; count = l.count + length ms }

-- the moves to a target by two sets of squares: where a move takes, and where it promotes
abbrev pub target_moves : ℕ → ℕ → ℕ → ℕ → List Move
target_moves foes ends from to =
    cond (has ends to) (map (promotion_of from to (has foes to)) (1 ∷ 2 ∷ 3 ∷ 4 ∷ []))
    (move_of from to (has foes to) ∷ [])

-- and to each of some targets
unfoldable pub targets_moves : ℕ → ℕ → ℕ → List ℕ → List Move
targets_moves foes ends from ts = flat_map (target_moves foes ends from) ts

-- All moves, mover by mover: one turn of the loop over the squares of a side's pieces.
use Rattle.std.specs.Prelude.{◌≡◌, refl, Bool, true, false, ℕ, ◌+◌, ◌*◌, ◌≤◌, length}
use Rattle.std.proofs.Common.{sym, ap, ◌∙◌, length-append}
use mathlib.Core.List.{List, [], ◌∷◌, ◌++◌, flat_map}
use Rattle.std.specs.Int.Bits.{bit_and}
use Rattle.finite.specs.Filter.{filter, keep, filter_none}
use Rattle.board.specs.Sets.{squares, members, set_of}
use Rattle.board.proofs.laws.SetLaws.{members-set_of}
use Rattle.board.proofs.laws.LowestLaws.{Lowest}
use Rattle.rules.specs.declared.Move.{Move}
use Rattle.rules.specs.Rules.{Board, stands, can_move, taking, promotes, moves_onto, moves_from, all_moves}
use Rattle.rules.proofs.laws.MoveLists.{onto-none}
use Rattle.rules.proofs.laws.CanMove.{mover-stands}
use Rattle.move_list.specs.declared.MoveList.{MoveList}
use Rattle.move_list.specs.Lists.{room}
use Rattle.move_list.specs.ListLaws.{appended, targets_moves}
use Rattle.move_list.proofs.laws.ListLaws.{Rest, rest-room, rest-next}
use Rattle.move_list.proofs.laws.TargetLaws.{by-sets, sets-count}

-- elements that give nothing may be left out
flat_map-filter : (f : ℕ → List Move) (q : ℕ → Bool) (xs : List ℕ) → ((x : ℕ) → q x ≡ false → f x ≡ [])
    → flat_map f xs ≡ flat_map f (filter q xs)
unfolding flat_map filter
flat_map-filter f q [] e = refl
flat_map-filter f q (x ∷ xs) e = go (q x) refl (flat_map-filter f q xs e)
  where
    go : (b : Bool) → q x ≡ b → flat_map f xs ≡ flat_map f (filter q xs)
        → f x ++ flat_map f xs ≡ flat_map f (keep b x (filter q xs))
    go true h more = rw more
    go false h more = rw (e x h) more

-- all moves start on the squares of the pieces of the side to move
pub by-movers : (b : Board) (own : ℕ) → own ≡ set_of (stands b b.side)
    → all_moves b ≡ flat_map (moves_from b) (members own)
unfolding all_moves moves_from
by-movers b own e =
    flat_map-filter (moves_from b) (stands b b.side) squares
    (λ x h. rw (filter_none (can_move b x) squares (λ t m. mover-stands b x t h)) (onto-none b x))
    ∙ rw (e, members-set_of (stands b b.side))

-- no mover is left
pub movers-end : (b : Board) (rest : ℕ) → members rest ≡ [] → flat_map (moves_from b) (members rest) ≡ []
unfolding flat_map
movers-end b rest z = rw z

-- One turn: the lowest square `from` is taken out of `rest` and leaves `others`; `targets` is the set of its targets.
module _ (b : Board) (rest from others targets : ℕ) (low : Lowest rest from others)
    (e : targets ≡ set_of (can_move b from)) where
  its-moves : moves_onto b from (members targets) ≡ moves_from b from
  unfolding moves_from
  its-moves = rw (e, members-set_of (can_move b from))

  pub turn-split : flat_map (moves_from b) (members rest) ≡ moves_onto b from (members targets) ++ flat_map (moves_from
      b) (members others)
  unfolding flat_map
  turn-split = rw (low.first, its-moves)

  -- how many
  pub turn-length : (ends : ℕ) → ends ≡ set_of (promotes b from)
      → length (flat_map (moves_from b) (members rest))
      ≡ (length (members targets) + 3 * length (members (bit_and targets ends)))
      + length (flat_map (moves_from b) (members others))
  turn-length ends q =
      ap length turn-split
      ∙ length-append (moves_onto b from (members targets)) (flat_map (moves_from b) (members others))
      ∙ ap (λ (n : ℕ). n + length (flat_map (moves_from b) (members others))) (sets-count b from targets ends q)

  -- as code stores them behind those of a list
  module _ (foes ends : ℕ) (ef : foes ≡ set_of (taking b)) (ee : ends ≡ set_of (promotes b from)) where
    pub turn-moves : flat_map (moves_from b) (members rest)
        ≡ targets_moves foes ends from (members targets) ++ flat_map (moves_from b) (members others)
    turn-moves =
        turn-split
        ∙ ap (λ (l : List Move). l ++ flat_map (moves_from b) (members others))
        (sym (by-sets foes ends from b ef ee targets))

    module _ (l k : MoveList) (ms : List Move) (r : Rest l k ms (flat_map (moves_from b) (members rest))) where
      pub turn-room : k.count + length (targets_moves foes ends from (members targets)) ≤ room
      turn-room = rest-room l k ms _ (targets_moves foes ends from (members targets)) _ r turn-moves

      pub turn-rest : (k' : MoveList) → k' ≡ appended k (targets_moves foes ends from (members targets))
          → Rest l k' ms (flat_map (moves_from b) (members others))
      turn-rest k' q = rest-next l k ms _ (targets_moves foes ends from (members targets)) _ r turn-moves k' q

-- A move made on a position is the move made on its board.
use Rattle.std.specs.Prelude.{◌≡◌, Bool, cond, not, ℕ, eqb, None, Option, Some}
use Rattle.std.proofs.Math.Path.{refl, sym}
use Rattle.std.proofs.Common.{ap₂, ◌∙◌}
use Rattle.std.proofs.Math.Bool.{true, false}
use mathlib.Core.List.{List, [], ◌∷◌, ◌++◌, map}
use Rattle.finite.specs.Filter.{filter, keep}
use Rattle.rules.specs.declared.Piece.{Piece}
use Rattle.rules.specs.Rules.{carried_piece, left, moved}
use Rattle.rules.proofs.laws.Changed.{board-eq}
use Rattle.position.specs.declared.Position.{Position}
use Rattle.position.specs.Keyed.{slot_men, board_of}
use Rattle.movegen.specs.After.{slot_after, after}

module _ (from to : ℕ) where
  slot-moved : (s : Option Piece) → slot_men (slot_after from to s) ≡ map (carried_piece from to) (left to (slot_men s))
  unfolding filter
  slot-moved None = refl
  slot-moved (Some m) = go (eqb m.square to)
    where
      go : (x : Bool)
          → slot_men (cond x None (Some (carried_piece from to m))) ≡ map (carried_piece from to) (keep (not x) m [])
      go true = refl
      go false = refl

  moved-append : (k l : List Piece)
      → map (carried_piece from to) (left to (k ++ l))
      ≡ map (carried_piece from to) (left to k) ++ map (carried_piece from to) (left to l)
  unfolding filter
  moved-append [] l = refl
  moved-append (m ∷ k) l = go (eqb m.square to) (moved-append k l)
    where
      go : (x : Bool)
          → map (carried_piece from to) (left to (k ++ l))
          ≡ map (carried_piece from to) (left to k) ++ map (carried_piece from to) (left to l)
          → map (carried_piece from to) (keep (not x) m (left to (k ++ l)))
          ≡ map (carried_piece from to) (keep (not x) m (left to k)) ++ map (carried_piece from to) (left to l)
      go true e = e
      go false e = rw e

  pub after-moved : (p : Position) → board_of (after p from to) ≡ moved (board_of p) from to
  unfolding board_of after moved
  after-moved p =
      board-eq refl refl refl
      (ap₂ ◌++◌ (slot-moved p.first) (slot-moved p.second)
      ∙ sym (moved-append (slot_men p.first) (slot_men p.second)))

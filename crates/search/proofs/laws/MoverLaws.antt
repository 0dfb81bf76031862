-- The moves of a board, mover by mover and target by target, as loops that take the lowest square out of a set go through them.
use Rattle.std.specs.Prelude.{◌≡◌, Bool, not, ◌&&◌, ◌||◌, ℕ, ◌^◌, ◌<◌, eqb, None, Some}
use Rattle.std.proofs.Math.Path.{refl, sym, ap, ap₂}
use Rattle.std.proofs.Common.{◌∙◌, eqb-true}
use Rattle.std.proofs.lemmas.Bool.{eqb-false}
use Rattle.std.specs.List.{list_any}
use Rattle.std.proofs.Math.Bool.{true, false, cond}
use mathlib.Core.List.{List, [], ◌∷◌, ◌++◌, flat_map}
use Rattle.finite.specs.Filter.{filter}
use Rattle.board.specs.Sets.{squares, members, set_of}
use Rattle.board.proofs.laws.SetLaws.{set_of-lt, members-set_of, members-none}
use Rattle.board.proofs.laws.LowestLaws.{Lowest, lowest-of}
use Rattle.rules.specs.declared.Piece.{Piece}
use Rattle.rules.specs.declared.Move.{Move}
use Rattle.rules.specs.Rules.{Board, empty, stands, can_move, move_on, promotes, promotions, moves_onto, moves_from, all_moves, moves}
use Rattle.position.specs.declared.Position.{Position}
use Rattle.position.specs.Keyed.{board_of}
use Rattle.rules.proofs.laws.MoveLists.{onto-none, onto-next, onto-more}
use Rattle.move_list.proofs.laws.TurnLaws.{by-movers, turn-split}
use Rattle.search.specs.Tried.{Pawnless, movers_of, moves_on, moves_left}

module _ (b : Board) where
  -- all moves start on the movers' squares
  pub on-movers : (own : ℕ) → own ≡ movers_of b → moves_on b own ≡ moves b
  unfolding moves_on movers_of moves flat_map
  on-movers own e = go (empty b.men) e
    where
      go : (bare : Bool) → own ≡ cond bare 0 (set_of (stands b b.side))
          → flat_map (moves_from b) (members own) ≡ cond bare [] (all_moves b)
      go true q = rw (q, members-none)
      go false q = sym (by-movers b own q)

  pub on_none : (rest : ℕ) → members rest ≡ [] → moves_on b rest ≡ []
  unfolding moves_on flat_map
  on_none rest z = rw z

  -- one turn of the loop over the movers
  pub on-turn : (rest from others targets : ℕ) → Lowest rest from others → targets ≡ set_of (can_move b from)
      → moves_on b rest ≡ moves_left b from targets others
  unfolding moves_on moves_left
  on-turn rest from others targets low e = turn-split b rest from others targets low e

  -- one turn of the loop over the targets
  pub left-turn : Pawnless b → (from targets to others rest : ℕ) → Lowest targets to others
      → moves_left b from targets rest ≡ move_on b from to ∷ moves_left b from others rest
  unfolding moves_left
  left-turn none from targets to others rest low = rw (low.first, onto-more b none from to (members others))

  pub left-none : (from targets rest : ℕ) → members targets ≡ [] → moves_left b from targets rest ≡ moves_on b rest
  unfolding moves_left
  left-none from targets rest z = rw (z, onto-none)

  -- with a pawn there may be four moves to a target, and there is one
  left-some : (from targets to others rest : ℕ) → Lowest targets to others
      → empty (moves_left b from targets rest) ≡ false
  unfolding moves_left
  left-some from targets to others rest low =
      rw (low.first, onto-next b from to (members others)) (go (promotes b from to))
    where
      go : (x : Bool)
          → empty ((cond x (promotions b from to) (move_on b from to ∷ []) ++ moves_onto b from (members others)) ++ moves_on
          b rest)
          ≡ false
      go true = refl
      go false = refl

  -- no target, no move from there
  pub on-skip : (rest from others targets : ℕ) → Lowest rest from others → targets ≡ set_of (can_move b from)
      → targets ≡ 0 → moves_on b rest ≡ moves_on b others
  on-skip rest from others targets low e z = on-turn rest from others targets low e ∙ left-none from targets others (ap members z ∙ members-none)

  -- a target, a move
  pub on_some : (rest from others targets : ℕ) → targets < 2 ^ 64 → Lowest rest from others
      → targets ≡ set_of (can_move b from) → (targets ≡ 0 → ⊥) → empty (moves_on b rest) ≡ false
  on_some rest from others targets h low e n =
      let t = lowest-of targets _ _ h n refl refl in
      rw (on-turn rest from others targets low e) (left-some from targets _ _ others t)

  -- with a pawn there may be four moves to a target, and there is one
  onto-some : (from t : ℕ) (ts : List ℕ) → empty (moves_onto b from (t ∷ ts)) ≡ false
  onto-some from t ts = rw (onto-next b from t ts) (go (promotes b from t))
    where
      go : (x : Bool) → empty (cond x (promotions b from t) (move_on b from t ∷ []) ++ moves_onto b from ts) ≡ false
      go true = refl
      go false = refl

  -- no target, no move from there; a target, a move
  has-targets : (from : ℕ) → not (eqb (set_of (can_move b from)) 0) ≡ not (empty (moves_from b from))
  unfolding moves_from
  has-targets from = go (eqb targets 0) refl
    where
      targets : ℕ
      targets = set_of (can_move b from)

      by-set : moves_onto b from (filter (can_move b from) squares) ≡ moves_onto b from (members targets)
      by-set = ap (moves_onto b from) (sym (members-set_of (can_move b from)))

      go : (x : Bool) → eqb targets 0 ≡ x → not x ≡ not (empty (moves_onto b from (filter (can_move b from) squares)))
      go true e = sym (rw (by-set, eqb-true targets 0 e, members-none, onto-none))
      go false e =
          let low = lowest-of targets _ _ (set_of-lt (can_move b from)) (eqb-false targets 0 e) refl refl in
          sym (rw (by-set, low.first) (ap not (onto-some from _ _)))

  empty-append : (xs ys : List Move) → empty (xs ++ ys) ≡ (empty xs && empty ys)
  empty-append [] ys = refl
  empty-append (x ∷ xs) ys = refl

  not-both : (x y : Bool) → (not x || not y) ≡ not (x && y)
  not-both true y = refl
  not-both false y = refl

  any-targets : (l : List ℕ) → list_any (λ from. not (eqb (set_of (can_move b from)) 0)) l ≡ not (empty (flat_map (moves_from b) l))
  unfolding flat_map
  any-targets [] = refl
  any-targets (from ∷ l) =
      ap₂ ◌||◌ (has-targets from) (any-targets l)
      ∙ not-both (empty (moves_from b from)) (empty (flat_map (moves_from b) l))
      ∙ ap not (sym (empty-append (moves_from b from) (flat_map (moves_from b) l)))

  -- whether there is a move: one of the movers has a target
  pub any-move : (own : ℕ) → own ≡ movers_of b
      → list_any (λ from. not (eqb (set_of (can_move b from)) 0)) (members own) ≡ not (empty (moves b))
  unfolding moves_on
  any-move own e = any-targets (members own) ∙ ap (λ (l : List Move). not (empty l)) (on-movers own e)

-- whether there are only the kings, by the two slots
module _ (s : Position) where
  pub bare-first : (m : Piece) → s.first ≡ Some m → false ≡ empty (board_of s).men
  unfolding board_of
  bare-first m e = sym (rw e)

  pub bare-second : (m : Piece) → s.first ≡ None → s.second ≡ Some m → false ≡ empty (board_of s).men
  unfolding board_of
  bare-second m e f = sym (rw (e, f))

  pub bare-both : s.first ≡ None → s.second ≡ None → true ≡ empty (board_of s).men
  unfolding board_of
  bare-both e f = sym (rw (e, f))

  -- the movers, by whether there are only the kings
  pub movers-bare : (bare : Bool) → bare ≡ empty (board_of s).men → bare ≡ true → 0 ≡ movers_of (board_of s)
  unfolding movers_of
  movers-bare bare e t = sym (rw (sym e ∙ t))

  pub movers-own : (bare : Bool) (own : ℕ) → bare ≡ empty (board_of s).men → bare ≡ false
      → own ≡ set_of (stands (board_of s) s.side) → own ≡ movers_of (board_of s)
  unfolding movers_of board_of
  movers-own bare own e t o = o ∙ sym (rw (sym e ∙ t))

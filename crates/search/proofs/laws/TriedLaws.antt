-- What code has in hand of aim, piece by piece, and that trying only moves that may give check is enough for the last ply.
use Rattle.std.specs.Prelude.{◌≡◌, false, ◌&&◌, ◌||◌, List, [], ◌∷◌, None, Option, Some}
use Rattle.std.proofs.Math.Path.{sym, ap, subst}
use Rattle.std.proofs.Common.{◌∙◌, eq-eqb, ne_eqb}
use Rattle.std.proofs.Math.Bool.{Bool, or-false}
use Prim.Native.Nat.{ℕ, ◌-◌}
use Rattle.std.specs.Int.Bits.{bit_and, bit_or}
use Rattle.std.proofs.Math.Dec.{T}
use Rattle.finite.specs.Truth.{and_left}
use Rattle.finite.specs.Members.{any}
use Rattle.finite.specs.Filter.{filter_same}
use Rattle.finite.specs.Tests.{any_append, any-kept}
use Rattle.theory.specs.Value.{lost}
use Rattle.board.specs.Reach.{reaches}
use Rattle.board.specs.Sets.{has, squares, members, set_of}
use Rattle.board.proofs.laws.SetLaws.{has-or, has-and, set-has, squares-out, members-set_of}
use Rattle.rules.specs.declared.Piece.{Piece}
use Rattle.rules.specs.Rules.{Board, piece_of, pieces, in_check, empty, moved, can_move, move_on, moves_onto, moves, mated}
use Rattle.rules.specs.declared.Move.{Move}
use Rattle.rules.proofs.laws.MoveLists.{onto-none, onto-more}
use Rattle.rules.specs.Sides.{moved-side}
use Rattle.rules.specs.Chess.{chess}
use Rattle.position.specs.declared.Position.{Position}
use Rattle.position.specs.Keyed.{slot_men, board_of}
use Rattle.search.specs.Tried.{Pawnless, losing, aims, HoldsChecks}

-- ---- aim, piece by piece

module _ (occ : ℕ → Bool) (from at t : ℕ) where
  pub aims-elsewhere : (m : Piece) → (m.square ≡ from → ⊥) → aims occ from at t m ≡ false
  aims-elsewhere m h = rw (ne_eqb m.square from h)

  pub aims-here : (m : Piece) → m.square ≡ from → aims occ from at t m ≡ reaches occ m.kind at t
  aims-here m e = rw (eq-eqb m.square from e)

  pub aims-absent : (slot : Option Piece) → slot ≡ None → any (aims occ from at t) (slot_men slot) ≡ false
  unfolding any
  aims-absent slot e = rw e

  pub aims-present : (slot : Option Piece) (m : Piece) → slot ≡ Some m
      → any (aims occ from at t) (slot_men slot) ≡ aims occ from at t m
  unfolding any
  aims-present slot m e = rw e (or-false (aims occ from at t m))

  pub aims-all : (s : Position) (w b f g : ℕ) → has w t ≡ aims occ from at t (piece_of 5 0 s.white_king)
      → has b t ≡ aims occ from at t (piece_of 5 1 s.black_king)
      → has f t ≡ any (aims occ from at t) (slot_men s.first)
      → has g t ≡ any (aims occ from at t) (slot_men s.second)
      → has (bit_or w (bit_or b (bit_or f g))) t ≡ any (aims occ from at t) (pieces (board_of s))
  unfolding any board_of
  aims-all s w b f g ew eb ef eg =
      rw (
        has-or w (bit_or b (bit_or f g)) t,
        has-or b (bit_or f g) t,
        has-or f g t,
        ew,
        eb,
        ef,
        eg,
        any_append (aims occ from at t) (slot_men s.first) (slot_men s.second),
      )

-- ---- the targets to try

any-onto : (f : Move → Bool) (b : Board) → Pawnless b → (from : ℕ) (ts : List ℕ)
    → any f (moves_onto b from ts) ≡ any (λ t. f (move_on b from t)) ts
unfolding any
any-onto f b none from [] = ap (any f) (onto-none b from)
any-onto f b none from (t ∷ ts) =
    ap (any f) (onto-more b none from t ts) ∙ ap (λ (x : Bool). f (move_on b from t) || x) (any-onto f b none from ts)

module _ (s : Position) (from k targets : ℕ) (e : targets ≡ set_of (can_move (board_of s) from)) where
  abbrev b : Board
  b = board_of s

  pub tried-every : any (losing k b) (moves_onto b from (members targets)) ≡ any (losing k b) (moves_onto b from
      (members (set_of (can_move b from))))
  tried-every = ap (λ (z : ℕ). any (losing k b) (moves_onto b from (members z))) e

  -- with one ply left a move must mate, and mate is check
  mates-check : k ≡ 1 → (t : ℕ) → T (losing k b (move_on b from t)) → T (in_check (moved b from t) (1 - s.side))
  unfolding lost mated board_of
  mates-check z t h =
      let q = moved b from t in
      let m : T (mated q) = subst (λ (j : ℕ). T (lost chess (j - 1) q)) z h in
      subst (λ (x : ℕ). T (in_check q x)) (moved-side b from t) (and_left (in_check q q.side) (empty (moves q)) m)

  pub tried-checks : Pawnless b → k ≡ 1 → (r : ℕ) → HoldsChecks s from r
      → any (losing k b) (moves_onto b from (members (bit_and targets r)))
      ≡ any (losing k b) (moves_onto b from (members (set_of (can_move b from))))
  unfolding members
  tried-checks none z r h =
      any-onto (losing k b) b none from (members (bit_and targets r))
      ∙ ap (any wins)
      (filter_same (has (bit_and targets r)) (λ t. can_move b from t && has r t) squares
      (λ t m. has-and targets r t ∙ ap (λ (x : Bool). x && has r t) (set-has _ e t (squares-out t m))))
      ∙ any-kept wins (can_move b from) (has r) squares (λ t m c l. h t c (mates-check z t l))
      ∙ ap (any wins) (sym (members-set_of (can_move b from)))
      ∙ sym (any-onto (losing k b) b none from (members (set_of (can_move b from))))
    where
      wins : ℕ → Bool
      wins t = losing k b (move_on b from t)

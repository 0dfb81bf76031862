-- Won and lost within k plies by the moves that are left to try: how each loop starts, one turn, and its ends.
use Rattle.std.specs.Prelude.{◌≡◌, refl, Bool, true, false, not, ◌&&◌, ◌||◌, List, [], ◌∷◌, map, ℕ, zero, suc, ◌-◌, T, eqb}
use Rattle.std.proofs.Math.Path.{sym, subst⁻¹}
use Rattle.std.proofs.Common.{ap, ◌∙◌, arith}
use Rattle.std.proofs.Math.Bool.{and-true, and-false, or-false}
use borrow.Author.Tests.{not-true, not-false}
use Rattle.finite.specs.Members.{any, all, some?, all_in, all-out, map-out}
use Rattle.finite.specs.Filter.{filter-out}
use Rattle.finite.specs.Tests.{any-map, all_map, some?-map, any_append}
use Rattle.theory.specs.Value.{won, lost}
use Rattle.board.specs.Sets.{members, set_of}
use Rattle.board.proofs.laws.LowestLaws.{Lowest}
use Rattle.rules.specs.declared.Piece.{Piece}
use Rattle.rules.specs.declared.Move.{Move}
use Rattle.rules.specs.Pawn.{pawn}
use Rattle.rules.specs.Rules.{Board, empty, in_check, carried_piece, left, moved, can_move, move_on, moves_onto, moves, mated}
use Rattle.rules.specs.Chess.{chess, played}
use Rattle.position.specs.declared.Position.{Position}
use Rattle.position.specs.Keyed.{board_of}
use Rattle.movegen.specs.After.{after}
use Rattle.movegen.proofs.laws.Making.{after-moved}
use Rattle.search.specs.Tried.{Pawnless, movers_of, moves_on, moves_left, losing, winning}
use Rattle.search.proofs.laws.MoverLaws.{on-movers, on_none, on-turn, left-turn, left-none}

-- ---- a list of moves, of which the first is tried

module _ (f : Move → Bool) (total : Bool) (l k : List Move) (m : Move) (e : l ≡ m ∷ k) where
  any-hit : any f l ≡ total → f m ≡ true → true ≡ total
  unfolding any
  any-hit w t = sym (rw (e, t)) ∙ w

  any-miss : any f l ≡ total → f m ≡ false → any f k ≡ total
  unfolding any
  any-miss w t = sym (rw (e, t)) ∙ w

  all-miss : all f l ≡ total → f m ≡ false → false ≡ total
  unfolding all
  all-miss w t = sym (rw (e, t)) ∙ w

  all-hit : all f l ≡ total → f m ≡ true → all f k ≡ total
  unfolding all
  all-hit w t = sym (rw (e, t)) ∙ w

-- ---- a board

one_less : (k : ℕ) → suc k - 1 ≡ k
one_less k = omega arith

pub won-none : (k : ℕ) (b : Board) → k ≡ 0 → false ≡ won chess k b
unfolding won
won-none k b e = sym (rw e)

won-moves : (k : ℕ) (b : Board) → (k ≡ 0 → ⊥) → any (losing k b) (moves b) ≡ won chess k b
unfolding won
won-moves zero b n = absurd (n refl)
won-moves (suc k) b n = ap (λ (j : ℕ). any (λ m. lost chess j (played b m)) (moves b)) (one_less k)
    ∙ sym (any-map (λ q. lost chess k q) (played b) (moves b))

pub won-start : (k : ℕ) (b : Board) (own : ℕ) → (k ≡ 0 → ⊥) → own ≡ movers_of b
    → any (losing k b) (moves_on b own) ≡ won chess k b
won-start k b own n o = rw (on-movers b own o) (won-moves k b n)

some?-empty : (l : List Move) → some? l ≡ not (empty l)
unfolding some?
some?-empty [] = refl
some?-empty (m ∷ l) = refl

lost-suc : (k : ℕ) (b : Board)
    → lost chess (suc k) b ≡ (mated b || (not (empty (moves b)) && all (λ m. won chess k (played b m)) (moves b)))
unfolding lost
lost-suc k b =
    rw (some?-map (played b) (moves b), some?-empty (moves b), all_map (λ q. won chess k q) (played b) (moves b))

-- with no move it is lost exactly where it is check: mate, and not stalemate
lost-stuck : (k : ℕ) (b : Board) → empty (moves b) ≡ true → lost chess k b ≡ in_check b b.side
unfolding lost mated
lost-stuck zero b e = rw e (and-true (in_check b b.side))
lost-stuck (suc k) b e = lost-suc k b ∙ rw e (or-false (in_check b b.side && true) ∙ and-true (in_check b b.side))

module _ (k : ℕ) (s : Position) (can check : Bool) (c : can ≡ not (empty (moves (board_of s)))) (h : not can ≡ true)
    (e : check ≡ in_check (board_of s) s.side) where
  stuck : lost chess k (board_of s) ≡ check
  unfolding board_of
  stuck = lost-stuck k (board_of s) (not-false _ (sym c ∙ not-true _ h)) ∙ sym e

  pub lost-mate : check ≡ true → true ≡ lost chess k (board_of s)
  lost-mate t = sym (stuck ∙ t)

  pub lost-stalemate : check ≡ false → false ≡ lost chess k (board_of s)
  lost-stalemate t = sym (stuck ∙ t)

-- with a move it is no mate
module _ (k : ℕ) (b : Board) (can : Bool) (c : can ≡ not (empty (moves b))) (h : not can ≡ false) where
  some-move : empty (moves b) ≡ false
  some-move = not-true _ (sym c ∙ not-false _ h)

  no-mate : mated b ≡ false
  unfolding mated
  no-mate = rw some-move (and-false (in_check b b.side))

  pub lost-none : k ≡ 0 → false ≡ lost chess k b
  unfolding lost
  lost-none z = rw z (sym no-mate)

  lost-moves : (k ≡ 0 → ⊥) → all (winning k b) (moves b) ≡ lost chess k b
  lost-moves n = go k n
    where
      go : (i : ℕ) → (i ≡ 0 → ⊥) → all (winning i b) (moves b) ≡ lost chess i b
      go zero n = absurd (n refl)
      go (suc j) n = ap (λ (i : ℕ). all (λ m. won chess i (played b m)) (moves b)) (one_less j)
          ∙ sym (lost-suc j b ∙ rw (no-mate, some-move))

  pub lost-start : (own : ℕ) → (k ≡ 0 → ⊥) → own ≡ movers_of b → all (winning k b) (moves_on b own) ≡ lost chess k b
  lost-start own n o = rw (on-movers b own o) (lost-moves n)

-- ---- the turns of the loops, for any test f of moves

module _ (f : Move → Bool) (total : Bool) (b : Board) where
  module _ (rest from others targets : ℕ) (low : Lowest rest from others) where
    -- whichever targets are tried, where the test passes of one of them if of any
    pub any-piece : any f (moves_onto b from (members targets)) ≡ any f (moves_onto b from
        (members (set_of (can_move b from)))) → any f (moves_on b rest) ≡ total
        → any f (moves_left b from targets others) ≡ total
    unfolding moves_left
    any-piece e w =
        any_append f (moves_onto b from (members targets)) (moves_on b others)
        ∙ rw e
        (sym (any_append f (moves_onto b from (members (set_of (can_move b from)))) (moves_on b others))
        ∙ sym (ap (any f) (on-turn b rest from others (set_of (can_move b from)) low refl))
        ∙ w)

    pub all-piece : targets ≡ set_of (can_move b from) → all f (moves_on b rest) ≡ total
        → all f (moves_left b from targets others) ≡ total
    all-piece e w = sym (ap (all f) (on-turn b rest from others targets low e)) ∙ w

  module _ (from targets rest : ℕ) (z : members targets ≡ []) where
    pub any-piece-end : any f (moves_left b from targets rest) ≡ total → any f (moves_on b rest) ≡ total
    any-piece-end w = sym (ap (any f) (left-none b from targets rest z)) ∙ w

    pub all-piece-end : all f (moves_left b from targets rest) ≡ total → all f (moves_on b rest) ≡ total
    all-piece-end w = sym (ap (all f) (left-none b from targets rest z)) ∙ w

  module _ (rest : ℕ) (z : members rest ≡ []) where
    pub any-end : any f (moves_on b rest) ≡ total → false ≡ total
    unfolding any
    any-end w = sym (ap (any f) (on_none b rest z)) ∙ w

    pub all_end : all f (moves_on b rest) ≡ total → true ≡ total
    unfolding all
    all_end w = sym (ap (all f) (on_none b rest z)) ∙ w

-- no man becomes a pawn
moved-pawnless : (b : Board) (from to : ℕ) → Pawnless b → Pawnless (moved b from to)
unfolding moved
moved-pawnless b from to none =
    all_in (λ a. not (pawn a)) (map (carried_piece from to) (left to b.men))
    (λ n i. let w = map-out (carried_piece from to) n (left to b.men) i in
    let k = (filter-out (λ m. not (eqb m.square to)) w.0 b.men w.1).0 in
    subst⁻¹ (λ (a : Piece). T (not (pawn a))) w.2 (all-out (λ a. not (pawn a)) k none))

pawnless-after : (s q : Position) (from to : ℕ) → q ≡ after s from to → Pawnless (board_of s) → Pawnless (board_of q)
pawnless-after s q from to e none =
    subst⁻¹ (λ (b : Board). Pawnless b) (ap board_of e ∙ after-moved from to s) (moved-pawnless (board_of s) from to none)

-- one target: the position after the move, and what was found of it
module _ (k : ℕ) (s q : Position) (none : Pawnless (board_of s)) (total found : Bool) (from targets to others rest : ℕ)
    (low : Lowest targets to others) (made : q ≡ after s from to) where
  abbrev b : Board
  b = board_of s

  turn : moves_left b from targets rest ≡ move_on b from to ∷ moves_left b from others rest
  turn = left-turn b none from targets to others rest low

  next : Pawnless (board_of q)
  next = pawnless-after s q from to made none

  board : board_of q ≡ played b (move_on b from to)
  board = ap board_of made ∙ after-moved from to s

  module _ (h : Pawnless (board_of q) → found ≡ lost chess (k - 1) (board_of q))
      (w : any (losing k b) (moves_left b from targets rest) ≡ total)
    where
      same : losing k b (move_on b from to) ≡ found
      same = sym (h next ∙ ap (lost chess (k - 1)) board)

      pub won-hit : found ≡ true → true ≡ total
      won-hit t = any-hit (losing k b) total _ _ _ turn w (same ∙ t)

      pub won-miss : found ≡ false → any (losing k b) (moves_left b from others rest) ≡ total
      won-miss t = any-miss (losing k b) total _ _ _ turn w (same ∙ t)

  module _ (h : Pawnless (board_of q) → found ≡ won chess (k - 1) (board_of q))
      (w : all (winning k b) (moves_left b from targets rest) ≡ total)
    where
      same-won : winning k b (move_on b from to) ≡ found
      same-won = sym (h next ∙ ap (won chess (k - 1)) board)

      pub lost-miss : found ≡ false → false ≡ total
      lost-miss t = all-miss (winning k b) total _ _ _ turn w (same-won ∙ t)

      pub lost-hit : found ≡ true → all (winning k b) (moves_left b from others rest) ≡ total
      lost-hit t = all-hit (winning k b) total _ _ _ turn w (same-won ∙ t)

-- The rules do not see in which order two men are listed: the same squares are occupied and attacked, the same boards legal, the same moves
-- legal.
use Rattle.std.specs.Prelude.{◌≡◌, Bool, false, ◌||◌}
use Rattle.std.proofs.Math.Path.{refl, sym, ap, ap₂, subst⁻¹}
use Rattle.std.proofs.Common.{subst, ◌∙◌}
use Rattle.std.proofs.Math.Bool.{true, cond, not, ◌&&◌}
use mathlib.Core.List.{List, [], ◌∷◌, map, flat_map}
use Prim.Native.Nat.{ℕ, zero, suc, ◌-◌}
use Rattle.std.proofs.Math.Dec.{eqb, ltb}
use Rattle.finite.specs.Members.{◌∈◌, any, all, map-in, map-out}
use Rattle.finite.specs.Filter.{filter, keep}
use Rattle.finite.specs.Truth.{eqb-sym}
use Rattle.board.specs.Sets.{squares}
use Rattle.theory.specs.Game.{next}
use Rattle.theory.specs.Alike.{Automorphism}
use Rattle.rules.specs.declared.Piece.{Piece}
use Rattle.rules.specs.declared.Move.{Move}
use Rattle.rules.specs.Pawn.{pawn, outer}
use Rattle.rules.specs.Rules.{Board, piece_of, pieces, empty, occupied, attacks, attacked, king, in_check, known, apart, touching, legal_of, legal, stands, goes, goes_to, carried_piece, left, moved, can_move, move_of, promotion_of, promotes, becoming, promoted, played_as, taking, moves_onto, moves_from, all_moves, moves, mated}
use Rattle.rules.proofs.laws.Changed.{board-eq}
use Rattle.rules.specs.Chess.{chess, played}
use Rattle.rules.proofs.laws.ChessLaws.{plain-played, next-legal}
use Rattle.rules.specs.Reordered.{crossed, reordered, Few}
use Rattle.rules.specs.Reordered.{LegalFew}

-- ---- lists

pub crossed-map : (f : Piece → Piece) (e : Bool) (l : List Piece) → crossed e (map f l) ≡ map f (crossed e l)
unfolding crossed
crossed-map f false l = refl
crossed-map f true [] = refl
crossed-map f true (a ∷ []) = refl
crossed-map f true (a ∷ c ∷ []) = refl
crossed-map f true (a ∷ c ∷ d ∷ l) = refl

pub crossed-back : (e : Bool) (l : List Piece) → crossed e (crossed e l) ≡ l
unfolding crossed
crossed-back false l = refl
crossed-back true [] = refl
crossed-back true (a ∷ []) = refl
crossed-back true (a ∷ c ∷ []) = refl
crossed-back true (a ∷ c ∷ d ∷ l) = refl

pub all-crossed : (f : Piece → Bool) (e : Bool) (l : List Piece) → all f (crossed e l) ≡ all f l
unfolding crossed all
all-crossed f false l = refl
all-crossed f true [] = refl
all-crossed f true (a ∷ []) = refl
all-crossed f true (a ∷ c ∷ []) = swap (f a) (f c)
  where
    swap : (p q : Bool) → (q && (p && true)) ≡ (p && (q && true))
    swap true true = refl
    swap true false = refl
    swap false true = refl
    swap false false = refl
all-crossed f true (a ∷ c ∷ d ∷ l) = refl

either : (p q : Bool) → (p || (q || false)) ≡ (q || (p || false))
either true true = refl
either true false = refl
either false true = refl
either false false = refl

any-crossed : (f : Piece → Bool) (e : Bool) (l : List Piece) → any f (crossed e l) ≡ any f l
unfolding crossed any
any-crossed f false l = refl
any-crossed f true [] = refl
any-crossed f true (a ∷ []) = refl
any-crossed f true (a ∷ c ∷ []) = either (f c) (f a)
any-crossed f true (a ∷ c ∷ d ∷ l) = refl

-- ---- boards

pub apart-crossed : (e : Bool) (b : Board) → apart (pieces (reordered e b)) ≡ apart (pieces b)
apart-crossed e b = go e b.men
  where
    go : (e : Bool) (l : List Piece)
        → apart (piece_of 5 0 b.white ∷ piece_of 5 1 b.black ∷ crossed e l)
        ≡ apart (piece_of 5 0 b.white ∷ piece_of 5 1 b.black ∷ l)
    go false l = unfold crossed in refl
    go true [] = unfold crossed in refl
    go true (a ∷ []) = unfold crossed in refl
    go true (a ∷ c ∷ []) =
        unfold crossed apart any in
        rw (
          either (eqb b.white c.square) (eqb b.white a.square),
          either (eqb b.black c.square) (eqb b.black a.square),
          eqb-sym c.square a.square,
        )
    go true (a ∷ c ∷ d ∷ l) = unfold crossed in refl

module _ (e : Bool) (b : Board) where
  any-reordered : (f : Piece → Bool) → any f (pieces (reordered e b)) ≡ any f (pieces b)
  unfolding any
  any-reordered f = rw (any-crossed f e b.men)

  -- the same squares are occupied, so the same are attacked
  occupied-reordered : occupied (reordered e b) ≡ occupied b
  unfolding occupied
  occupied-reordered = λ i s. any-reordered (λ m. eqb s m.square) i

  attacked-reordered : (colour t : ℕ) → attacked (reordered e b) colour t ≡ attacked b colour t
  unfolding attacked
  attacked-reordered colour t =
      any-reordered (λ m. eqb m.colour colour && attacks (occupied (reordered e b)) m t)
      ∙ ap (λ (o : ℕ → Bool). any (λ m. eqb m.colour colour && attacks o m t) (pieces b)) occupied-reordered

  pub check-reordered : (side : ℕ) → in_check (reordered e b) side ≡ in_check b side
  unfolding in_check
  check-reordered side = attacked-reordered (1 - side) (king b side)

  empty-crossed : empty (crossed e b.men) ≡ empty b.men
  empty-crossed = go e b.men
    where
      go : (e : Bool) (l : List Piece) → empty (crossed e l) ≡ empty l
      go false l = unfold crossed in refl
      go true [] = unfold crossed in refl
      go true (a ∷ []) = unfold crossed in refl
      go true (a ∷ c ∷ []) = unfold crossed in refl
      go true (a ∷ c ∷ d ∷ l) = unfold crossed in refl

  pub legal-reordered : legal (reordered e b) ≡ legal b
  unfolding legal_of all touching
  legal-reordered =
      rw (
        all-crossed known e b.men,
        all-crossed (λ m. ltb m.square 64) e b.men,
        apart-crossed e b,
        check-reordered (1 - b.side),
      )

left-crossed : (to : ℕ) (e : Bool) (l : List Piece) → Few l → left to (crossed e l) ≡ crossed e (left to l)
unfolding crossed filter
left-crossed to false l f = refl
left-crossed to true [] f = refl
left-crossed to true (a ∷ []) f = go (not (eqb a.square to))
  where
    go : (x : Bool) → keep x a [] ≡ crossed true (keep x a [])
    go true = refl
    go false = refl
left-crossed to true (a ∷ c ∷ []) f = go (not (eqb a.square to)) (not (eqb c.square to))
  where
    go : (x y : Bool) → keep y c (keep x a []) ≡ crossed true (keep x a (keep y c []))
    go true true = refl
    go true false = refl
    go false true = refl
    go false false = refl
left-crossed to true (a ∷ c ∷ d ∷ l) f = absurd f

module _ (e : Bool) (b : Board) (f : Few b.men) where
  pub moved-reordered : (from to : ℕ) → moved (reordered e b) from to ≡ reordered e (moved b from to)
  unfolding moved
  moved-reordered from to =
      board-eq refl refl refl
      (ap (map (carried_piece from to)) (left-crossed to e b.men f)
      ∙ sym (crossed-map (carried_piece from to) e (left to b.men)))

  can-reordered : can_move (reordered e b) ≡ can_move b
  unfolding can_move goes stands
  can-reordered = λ i from to. same from to i
    where
      same : (from to : ℕ) → can_move (reordered e b) from to ≡ can_move b from to
      same from to =
          ap₂ ◌&&◌
          (ap₂ ◌&&◌
          (any-reordered e b
          (λ m. eqb m.colour b.side && eqb m.square from && goes_to (occupied (reordered e b)) m to)
          ∙ ap (λ (o : ℕ → Bool). any (λ m. eqb m.colour b.side && eqb m.square from && goes_to o m to)
          (pieces b)) (occupied-reordered e b))
          (ap not (any-reordered e b (λ m. eqb m.colour b.side && eqb m.square to))))
          (ap not (ap (λ (c : Board). in_check c b.side) (moved-reordered from to)
          ∙ check-reordered e (moved b from to) b.side))

  taking-reordered : taking (reordered e b) ≡ taking b
  unfolding taking stands
  taking-reordered = λ i to. any-reordered e b (λ m. eqb m.colour (1 - b.side) && eqb m.square to) i

  promotes-reordered : promotes (reordered e b) ≡ promotes b
  unfolding promotes
  promotes-reordered =
      λ i from to. any-crossed (λ m. pawn m && eqb m.square from) e b.men i && outer to

  all-reordered : all_moves (reordered e b) ≡ all_moves b
  unfolding all_moves moves_from moves_onto
  all-reordered = λ i. flat_map
      (λ from. flat_map
      (λ to. cond (promotes-reordered i from to)
      (map (promotion_of from to (taking-reordered i to)) (1 ∷ 2 ∷ 3 ∷ 4 ∷ []))
      (move_of from to (taking-reordered i to) ∷ []))
      (filter (can-reordered i from) squares)) squares

  pub moves-reordered : moves (reordered e b) ≡ moves b
  unfolding moves
  moves-reordered = ap₂ (λ (x : Bool) (l : List Move). cond x [] l) (empty-crossed e b) all-reordered

  pub mated-reordered : mated (reordered e b) ≡ mated b
  unfolding mated
  mated-reordered = ap₂ ◌&&◌ (check-reordered e b b.side) (ap empty moves-reordered)

  played-reordered : (from to becomes : ℕ)
      → played_as (reordered e b) from to becomes ≡ reordered e (played_as b from to becomes)
  played-reordered from to zero = moved-reordered from to
  played-reordered from to (suc kind) =
      ap (promoted b.side to kind) (moved-reordered from to)
      ∙ board-eq refl refl refl (sym (crossed-map (becoming b.side to kind) e (moved b from to).men))

  next-reordered : (q : Board) → q ∈ next chess b → reordered e q ∈ next chess (reordered e b)
  next-reordered q h =
      let w = map-out (played b) q (moves b) h in
      let n : w.0 ∈ moves (reordered e b) = subst (λ (l : List Move). w.0 ∈ l) (sym moves-reordered) w.1 in
      subst (λ (c : Board). c ∈ next chess (reordered e b))
      (played-reordered w.0.from w.0.to w.0.becomes ∙ ap (reordered e) (sym w.2)) (map-in (played (reordered e b)) n)

-- ---- legal boards with at most two men

few-left : (from to : ℕ) (l : List Piece) → Few l → Few (map (carried_piece from to) (left to l))
unfolding filter
few-left from to [] f = tt
few-left from to (a ∷ []) f = go (not (eqb a.square to))
  where
    go : (x : Bool) → Few (map (carried_piece from to) (keep x a []))
    go true = tt
    go false = tt
few-left from to (a ∷ c ∷ []) f = go (not (eqb a.square to)) (not (eqb c.square to))
  where
    go : (x y : Bool) → Few (map (carried_piece from to) (keep x a (keep y c [])))
    go true true = tt
    go true false = tt
    go false true = tt
    go false false = tt
few-left from to (a ∷ c ∷ d ∷ l) f = absurd f

few-crossed : (e : Bool) (l : List Piece) → Few l → Few (crossed e l)
unfolding crossed
few-crossed false l f = f
few-crossed true [] f = tt
few-crossed true (a ∷ []) f = tt
few-crossed true (a ∷ c ∷ []) f = tt
few-crossed true (a ∷ c ∷ d ∷ l) f = absurd f

pub few-next : (b q : Board) → LegalFew b → q ∈ next chess b → LegalFew q
unfolding moved
few-next b q l h =
    let w = map-out (played b) q (moves b) h in
    record {
      legality = next-legal b q l.legality h;
      few = subst⁻¹ (λ (c : Board). Few c.men) (w.2 ∙ plain-played b w.0 l.legality w.1)
          (few-left w.0.from w.0.to b.men l.few);
    }

pub reordering : (e : Bool) → Automorphism chess LegalFew (reordered e) (reordered e)
reordering e = record {
  there = λ b l. record { legality = rw (legal-reordered e b) l.legality; few = few-crossed e b.men l.few };
  onward = λ b q l h. few-next b q l h;
  undo = λ b l. board-eq refl refl refl (crossed-back e b.men);
  redo = λ b l. board-eq refl refl refl (crossed-back e b.men);
  moves-f = λ b q l h. next-reordered e b l.few q h;
  moves-g = λ b q l h. next-reordered e b l.few q h;
  mate = λ b l. mated-reordered e b l.few;
}

-- A legal move, fact by fact.
use Rattle.std.specs.Prelude.{◌≡◌, Bool, true, false, cond, not, ◌&&◌, ◌||◌, ℕ, ◌<◌, T, eqb}
use Rattle.std.proofs.Common.{ap, subst, ⊎_elim, eqb→eq, eq-eqb}
use mathlib.Core.List.Memᴰ
use Rattle.finite.specs.Truth.{and_left, and_right, or_cases, false_of, fails, refuted}
use Rattle.finite.specs.Members.{◌∈◌, all, any-in, any_out, all-out}
use Rattle.board.specs.Reach.{line, reaches}
use Rattle.board.proofs.laws.LineLaws.{line-squares}
use Rattle.board.proofs.laws.ReachLaws.{reaches-squares}
use Rattle.rules.specs.declared.Piece.{Piece}
use Rattle.rules.specs.Pawn.{pawn, forward, strides, pawn_hits, pawn_goes}
use Rattle.rules.specs.Rules.{Board, pieces, occupied, attacks, in_check, legal, stands, goes_to, goes, moved, can_move}
use Rattle.rules.proofs.laws.Legal.{legal-pawnless}

pub record Can (b : Board) (from to : ℕ) : Type 0 where
  pub piece : Piece  -- the piece that moves
  pub there : piece ∈ pieces b
  pub own : piece.colour ≡ b.side
  pub at : piece.square ≡ from
  pub reach : T (goes_to (occupied b) piece to)
  pub free : stands b b.side to ≡ false
  pub safe : in_check (moved b from to) b.side ≡ false

pub can-facts : (b : Board) (from to : ℕ) → T (can_move b from to) → Can b from to
unfolding can_move goes
can-facts b from to t =
    let free = not (stands b b.side to) in
    let safe = not (in_check (moved b from to) b.side) in
    let t2 = and_left (goes b from to && free) safe t in
    let w = any_out (λ m. eqb m.colour b.side && eqb m.square from && goes_to (occupied b) m to) (pieces b)
    (and_left (goes b from to) free t2) in
    let a = w.0 in
    let own = eqb a.colour b.side in
    let at = eqb a.square from in
    let hit = goes_to (occupied b) a to in
    let v = and_left (own && at) hit w.2 in
    let e = eqb→eq a.square from (and_right own at v) in
    record {
      piece = a;
      there = w.1;
      own = eqb→eq a.colour b.side (and_left own at v);
      at = e;
      reach = and_right (own && at) hit w.2;
      free = false_of (and_right (goes b from to) free t2);
      safe = false_of (and_right (goes b from to && free) safe t);
    }

-- a piece goes from a square of the board to one of the board
pub goes-squares : (occ : ℕ → Bool) (a : Piece) (t : ℕ) → T (goes_to occ a t) → (a.square < 64) × (t < 64)
unfolding goes_to pawn_goes pawn_hits
goes-squares occ a t h = go (pawn a) h
  where
    aslant : ℕ → Bool
    aslant x = line occ 1 a.square x (forward a.colour) t

    ahead : Bool
    ahead = line occ (strides a.colour a.square) a.square 2 (forward a.colour) t

    hits : Bool
    hits = aslant 1 || aslant 3

    go : (x : Bool) → T (cond x ((ahead && not (occ t)) || (hits && occ t)) (reaches occ a.kind a.square t))
        → (a.square < 64) × (t < 64)
    go true k =
        ⊎_elim
        (λ q. line-squares occ (strides a.colour a.square) a.square 2 (forward a.colour) t
        (and_left ahead (not (occ t)) q))
        (λ q. ⊎_elim (λ r. line-squares occ 1 a.square 1 (forward a.colour) t r)
        (λ r. line-squares occ 1 a.square 3 (forward a.colour) t r)
        (or_cases (aslant 1) (aslant 3) (and_left hits (occ t) q)))
        (or_cases (ahead && not (occ t)) (hits && occ t) k)
    go false k = reaches-squares occ a.kind a.square t k

-- where something stands a piece goes only if it attacks
pub goes-attacks : (occ : ℕ → Bool) (a : Piece) (t : ℕ) → T (occ t) → T (goes_to occ a t) → T (attacks occ a t)
unfolding goes_to attacks pawn_goes
goes-attacks occ a t o h =
    go (pawn a) (line occ (strides a.colour a.square) a.square 2 (forward a.colour) t)
    (pawn_hits occ a.colour a.square t) (occ t) (reaches occ a.kind a.square t) o h
  where
    go : (x l p o r : Bool) → T o → T (cond x ((l && not o) || (p && o)) r) → T (cond x p r)
    go true true true true r t h = tt
    go true true false true r t h = absurd h
    go true false true true r t h = tt
    go true false false true r t h = absurd h
    go true l p false r t h = absurd t
    go false l p o r t h = h

-- ---- a piece that is no pawn goes and attacks where it reaches

pub goes-piece : (occ : ℕ → Bool) (a : Piece) (t : ℕ) → pawn a ≡ false
    → goes_to occ a t ≡ reaches occ a.kind a.square t
unfolding goes_to
goes-piece occ a t e = rw e

pub attacks-piece : (occ : ℕ → Bool) (a : Piece) (t : ℕ) → pawn a ≡ false
    → attacks occ a t ≡ reaches occ a.kind a.square t
unfolding attacks
attacks-piece occ a t e = rw e

-- without a pawn among the men there is none among the pieces
pub no-pawn : (b : Board) → T (all (λ a. not (pawn a)) b.men) → (a : Piece) → a ∈ pieces b → pawn a ≡ false
no-pawn b t a (Memᴰ.head e) = ap pawn e
no-pawn b t a (Memᴰ.tail (Memᴰ.head e)) = ap pawn e
no-pawn b t a (Memᴰ.tail (Memᴰ.tail i)) = false_of (all-out (λ a. not (pawn a)) i t)

pub reach-piece : (b : Board) (from to : ℕ) → T (legal b) → (c : Can b from to)
    → T (reaches (occupied b) c.piece.kind from to)
reach-piece b from to t c =
    let a = c.piece in
    subst (λ (s : ℕ). T (reaches (occupied b) a.kind s to)) c.at
    (subst T (goes-piece (occupied b) a to (no-pawn b (legal-pawnless b t) a c.there)) c.reach)

pub can-on : (b : Board) (from to : ℕ) → T (can_move b from to) → (from < 64) × (to < 64)
can-on b from to t =
    let c = can-facts b from to t in
    let g = goes-squares (occupied b) c.piece to c.reach in
    (subst (λ (s : ℕ). s < 64) c.at g.0, g.1)

-- only a piece of the side to move moves
pub mover-stands : (b : Board) (from to : ℕ) → stands b b.side from ≡ false → can_move b from to ≡ false
unfolding stands
mover-stands b from to e = fails (can_move b from to) (λ t. refuted e (there (can-facts b from to t)))
  where
    there : Can b from to → T (stands b b.side from)
    there c = any-in (λ m. eqb m.colour b.side && eqb m.square from) c.there
        (rw (eq-eqb c.piece.colour b.side c.own, eq-eqb c.piece.square from c.at) tt)

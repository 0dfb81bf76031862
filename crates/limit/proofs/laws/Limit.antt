-- On any board whatever there are at most 8 legal moves, and 27 more for each piece besides the kings: 35 with one piece.
-- A pawn's share of 27 also pays for what its promotions add, even where another piece stands on its square.
use Rattle.std.specs.Prelude.{◌≡◌, Bool, not, ◌&&◌, ◌||◌, ◌⊎◌, T}
use Rattle.std.proofs.Math.Path.{refl}
use Rattle.std.proofs.Common.{sym, subst, ◌∙◌, inl, inr, ⊎_elim, le_trans}
use Rattle.std.proofs.Math.Bool.{true, false, cond}
use mathlib.Core.List.{List, [], ◌∷◌}
use Prim.Native.Nat.{ℕ, suc, ◌+◌, ◌*◌, ◌≤◌, ◌<◌}
use native.Mathlib.Omega.{arith}
use Rattle.std.proofs.Math.Dec.{eqb}
use Rattle.std.proofs.Math.ListN.{length}
use borrow.Author.Tests.{eqb-true, eqb-false, eq-eqb}
use Rattle.finite.specs.Truth.{and_left, fails, refuted, le-or-lt, eqb-sym}
use Rattle.finite.specs.Members.{any, any-in}
use Rattle.finite.specs.Filter.{filter}
use Rattle.board.specs.Sets.{squares, digit}
use Rattle.board.specs.Reach.{reaches}
use Rattle.rules.specs.declared.Piece.{Piece}
use Rattle.rules.specs.Pawn.{pawn, outer}
use Rattle.rules.specs.Rules.{Board, piece_of, pieces, occupied, stands, goes_to, goes, in_check, moved, can_move, promotes, promotions, move_on, moves_to, moves_onto, moves_from, all_moves}
use Rattle.rules.proofs.laws.CanMove.{Can, can-facts, can-on, goes-squares, goes-piece}
use Rattle.limit.proofs.laws.Sums.{total, total-add, total-none, total-filter, length-flat_map, only, total-only, weighed, weighed-none, weighed-fewer, weighed-any}
use Rattle.limit.proofs.laws.Reaching.{one, reaches-most}
use Rattle.limit.specs.Most.{most}
use Rattle.limit.proofs.laws.Promoting.{heavy, near, wide, near-wide, king-near, piece-wide, pawn-near, near-one, near-heavy, wide-heavy}

-- a pawn's way of going
pawn-goes : (occ : ℕ → Bool) (m : Piece) (t : ℕ) → pawn m ≡ true → T (goes_to occ m t) → T (near occ m.square t)
unfolding goes_to
pawn-goes occ m t e h = pawn-near occ m.square m.colour t (rw e at h)

goes_to-most : (occ : ℕ → Bool) (m : Piece) → weighed one (goes_to occ m) ≤ cond (pawn m) 27 (most m.kind)
goes_to-most occ m = go (pawn m) refl
  where
    at-pawn : pawn m ≡ true → (64 ≤ m.square) ⊎ (m.square < 64) → weighed one (goes_to occ m) ≤ 27
    at-pawn e (inl h) =
        weighed-none one (goes_to occ m) 27
        (λ t. fails (goes_to occ m t) (λ q. let k = (goes-squares occ m t q).0 in omega arith))
    at-pawn e (inr h) =
        le_trans (weighed-fewer one (goes_to occ m) (near occ m.square) (λ t q. pawn-goes occ m t e q))
        (near-one occ m.square h)

    go : (x : Bool) → pawn m ≡ x → weighed one (goes_to occ m) ≤ cond x 27 (most m.kind)
    go true e = at-pawn e (le-or-lt 64 m.square)
    go false e =
        le_trans
        (weighed-fewer one (goes_to occ m) (reaches occ m.kind m.square)
        (λ t q. subst T (goes-piece occ m t e) q))
        (reaches-most occ m.kind m.square)

module _ (side : ℕ) where
  -- the most that a piece adds
  share : Piece → ℕ
  share m = cond (pawn m) 27 (cond (eqb m.colour side) (most m.kind) 0)

  -- from square x
  goes-most : (occ : ℕ → Bool) (m : Piece) (x : ℕ)
      → weighed one (λ t. eqb m.colour side && eqb m.square x && goes_to occ m t) ≤ only m.square (share m) x
  unfolding share
  goes-most occ m x = go (eqb m.colour side) (eqb m.square x) refl (eqb x m.square) refl
    where
      go : (a b : Bool) → eqb m.square x ≡ b → (d : Bool) → eqb x m.square ≡ d
          → weighed one (λ t. a && b && goes_to occ m t) ≤ cond d (cond (pawn m) 27 (cond a (most m.kind) 0)) 0
      go true true e true f = goes_to-most occ m
      go true true e false f = absurd (eqb-false x m.square f (sym (eqb-true m.square x e)))
      go true false e d f =
          weighed-none one (λ t. false) (cond d (cond (pawn m) 27 (most m.kind)) 0) (λ t. refl)
      go false b e d f = weighed-none one (λ t. false) (cond d (cond (pawn m) 27 0) 0) (λ t. refl)

  -- summed over the squares, each piece counts once
  total-pieces : (l : List Piece) → total (λ x. total (λ m. only m.square (share m) x) l) squares ≤ total share l
  unfolding total
  total-pieces [] = omega (arith, total-none squares)
  total-pieces (m ∷ l) =
      rw (total-add (only m.square (share m)) (λ x. total (λ m. only m.square (share m) x) l) squares)
      (omega (arith, total-only m.square (share m), total-pieces l))

  total-men : (l : List Piece) → total share l ≤ 27 * length l
  unfolding total share
  total-men [] = omega arith
  total-men (m ∷ l) = go (pawn m) (eqb m.colour side) (eqb m.kind 5) (total-men l)
    where
      go : (p a b : Bool) → total share l ≤ 27 * length l
          → cond p 27 (cond a (cond b 8 27) 0) + total share l ≤ 27 * suc (length l)
      go true a b h = omega arith
      go false true true h = omega arith
      go false true false h = omega arith
      go false false b h = omega arith

  -- one of the kings is of the other side
  total-kings : (w k : ℕ) (l : List Piece) → total share (piece_of 5 0 w ∷ piece_of 5 1 k ∷ l) ≤ 8 + 27 * length l
  unfolding total share
  total-kings w k l = go (eqb 0 side) refl (eqb 1 side) refl
    where
      go : (a : Bool) → eqb 0 side ≡ a → (b : Bool) → eqb 1 side ≡ b
          → cond a 8 0 + (cond b 8 0 + total share l) ≤ 8 + 27 * length l
      go true e true f = let p = eqb-true 0 side e in let q = eqb-true 1 side f in absurd (omega arith)
      go true e false f = omega (arith, total-men l)
      go false e true f = omega (arith, total-men l)
      go false e false f = omega (arith, total-men l)

  -- ---- a square with a pawn

  -- a piece of this side on x that is no king and no pawn
  far : ℕ → Piece → Bool
  far x m = eqb m.colour side && eqb m.square x && not (pawn m) && not (eqb m.kind 5)

  -- the pawn's share, and such a piece's
  two-shares : (x : ℕ) (l : List Piece)
      → 27 * digit (any (λ m. pawn m && eqb m.square x) l) + 27 * digit (any (far x) l)
      ≤ total (λ m. only m.square (share m) x) l
  unfolding any total share far
  two-shares x [] = omega arith
  two-shares x (m ∷ l) =
      rw (eqb-sym x m.square)
      (go (pawn m) (eqb m.square x) (eqb m.colour side) (eqb m.kind 5)
      (any (λ m. pawn m && eqb m.square x) l) (any (far x) l) (two-shares x l))
    where
      n : ℕ
      n = total (λ m. only m.square (share m) x) l

      go : (p a o k u v : Bool) → 27 * digit u + 27 * digit v ≤ n
          → 27 * digit (p && a || u) + 27 * digit (o && a && not p && not k || v)
          ≤ cond a (cond p 27 (cond o (cond k 8 27) 0)) 0 + n
      go true true true k u v h = omega arith
      go true true false k u v h = omega arith
      go true false true k u v h = omega arith
      go true false false k u v h = omega arith
      go false true true true u v h = omega arith
      go false true true false u true h = omega arith
      go false true true false u false h = omega arith
      go false true false k u v h = omega arith
      go false false true k u v h = omega arith
      go false false false k u v h = omega arith

can-goes : (b : Board) (x t : ℕ) → T (can_move b x t) → T (goes b x t)
unfolding can_move
can-goes b x t h =
    and_left (goes b x t) (not (stands b b.side t))
    (and_left (goes b x t && not (stands b b.side t)) (not (in_check (moved b x t) b.side)) h)

-- ---- the moves from one square

-- a pawn stands on x
pawn_on : Board → ℕ → Bool
pawn_on b x = any (λ m. pawn m && eqb m.square x) b.men

-- a target counts for four where a pawn promotes
weight : Bool → ℕ → ℕ
weight p t = cond (p && outer t) 4 1

from-weighs : (b : Board) (x : ℕ) → length (moves_from b x) ≤ weighed (weight (pawn_on b x)) (can_move b x)
unfolding moves_from moves_onto promotes weight pawn_on
from-weighs b x =
    le_trans (length-flat_map (moves_to b x) (weight (pawn_on b x)) (filter (can_move b x) squares)
    (λ t. four (pawn_on b x && outer t) t))
    (rw (total-filter (weight (pawn_on b x)) (can_move b x) squares) (omega arith))
  where
    four : (p : Bool) (t : ℕ) → length (cond p (promotions b x t) (move_on b x t ∷ [])) ≤ cond p 4 1
    four true t = omega arith
    four false t = omega arith

-- without a pawn on the square
plain-most : (b : Board) (x : ℕ)
    → weighed one (can_move b x) ≤ total (λ m. only m.square (share b.side m) x) (pieces b)
unfolding goes
plain-most b x =
    le_trans (weighed-fewer one (can_move b x) (goes b x) (can-goes b x))
    (weighed-any one (λ t m. eqb m.colour b.side && eqb m.square x && goes_to (occupied b) m t)
    (λ m. only m.square (share b.side m) x) (pieces b)
    (λ m. goes-most b.side (occupied b) m x))

-- a move leaves its square
leaves : (b : Board) (x t : ℕ) → Can b x t → t ≡ x → ⊥
unfolding stands
leaves b x t c e =
    refuted c.free
    (any-in (λ m. eqb m.colour b.side && eqb m.square t) c.there
    (rw (eq-eqb c.piece.colour b.side c.own, eq-eqb c.piece.square t (c.at ∙ sym e)) tt))

-- a target is near, or a piece that is no king and no pawn goes there
target : (b : Board) (x t : ℕ) → Can b x t
    → T (near (occupied b) x t) ⊎ (T (any (far b.side x) (pieces b)) × T (wide (occupied b) x t))
unfolding far
target b x t c = go (pawn m) refl (eqb m.kind 5) refl
  where
    m : Piece
    m = c.piece

    go : (p : Bool) → pawn m ≡ p → (k : Bool) → eqb m.kind 5 ≡ k
        → T (near (occupied b) x t) ⊎ (T (any (far b.side x) (pieces b)) × T (wide (occupied b) x t))
    go true e k f =
        inl (subst (λ (s : ℕ). T (near (occupied b) s t)) c.at (pawn-goes (occupied b) m t e c.reach))
    go false e true f =
        inl (king-near (occupied b) x t (subst (λ (z : ℕ). T (reaches (occupied b) z x t)) (eqb-true m.kind 5 f)
        (subst (λ (s : ℕ). T (reaches (occupied b) m.kind s t)) c.at
        (subst T (goes-piece (occupied b) m t e) c.reach))))
    go false e false f =
        inr (
          any-in (far b.side x) c.there
              (rw (eq-eqb m.colour b.side c.own, eq-eqb m.square x c.at, e, f) tt),
          piece-wide (occupied b) x m.kind t (eqb-false m.kind 5 f)
              (subst (λ (s : ℕ). T (reaches (occupied b) m.kind s t)) c.at
              (subst T (goes-piece (occupied b) m t e) c.reach)),
        )

-- with one
heavy-most : (b : Board) (x : ℕ)
    → weighed heavy (can_move b x) ≤ 27 + 27 * digit (any (far b.side x) (pieces b))
heavy-most b x = ⊎_elim off (λ h. on h (any (far b.side x) (pieces b)) refl) (le-or-lt 64 x)
  where
    off : 64 ≤ x → weighed heavy (can_move b x) ≤ 27 + 27 * digit (any (far b.side x) (pieces b))
    off h =
        weighed-none heavy (can_move b x) (27 + 27 * digit (any (far b.side x) (pieces b)))
        (λ t. fails (can_move b x t) (λ q. let k = (can-on b x t q).0 in omega arith))

    on : x < 64 → (d : Bool) → any (far b.side x) (pieces b) ≡ d → weighed heavy (can_move b x) ≤ 27 + 27 * digit d
    on h true e =
        le_trans (weighed-fewer heavy (can_move b x) (wide (occupied b) x)
        (λ t q. let c = can-facts b x t q in
        ⊎_elim (λ n. near-wide (occupied b) x t (leaves b x t c) n) (λ w. w.1) (target b x t c)))
        (wide-heavy (occupied b) x h)
    on h false e =
        le_trans (weighed-fewer heavy (can_move b x) (near (occupied b) x)
        (λ t q. let c = can-facts b x t q in
        ⊎_elim (λ n. n) (λ w. absurd (refuted e w.0)) (target b x t c)))
        (near-heavy (occupied b) x h)

from-most : (b : Board) (x : ℕ)
    → length (moves_from b x) ≤ total (λ m. only m.square (share b.side m) x) (pieces b)
unfolding weight pawn_on any
from-most b x = le_trans (from-weighs b x) (go (pawn_on b x) refl)
  where
    go : (p : Bool) → pawn_on b x ≡ p
        → weighed (weight p) (can_move b x) ≤ total (λ m. only m.square (share b.side m) x) (pieces b)
    go true e =
        le_trans (heavy-most b x)
        (le_trans (let z : 27 * digit (pawn_on b x) ≡ 27 = rw e in omega arith) (two-shares b.side x (pieces b)))
    go false e = plain-most b x

pub moves-most : (b : Board) → length (all_moves b) ≤ 8 + 27 * length b.men
unfolding all_moves
moves-most b =
    le_trans (length-flat_map (moves_from b) (λ x. total (λ m. only m.square (share b.side m) x) (pieces b))
    squares (from-most b))
    (le_trans (total-pieces b.side (pieces b)) (total-kings b.side b.white b.black b.men))

-- "There are at most 35" (01)
pub moves-35 : (b : Board) (m : Piece) → b.men ≡ m ∷ [] → length (all_moves b) ≤ 35
moves-35 b m e = let h = moves-most b in let k : length b.men ≡ 1 = rw e in omega arith

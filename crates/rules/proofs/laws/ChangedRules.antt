-- The rules see no difference between a board and its image under any of the sixteen changes that fits: attack, check, legality, moves.
-- With a pawn four of them fit, without one all.
use Rattle.std.specs.Prelude.{◌≡◌, Bool, cond, ◌||◌, T}
use Rattle.std.proofs.Math.Path.{refl, ap, ap₂}
use Rattle.std.proofs.Common.{◌∙◌, arith, eqb→eq, lt→ltb}
use Rattle.std.proofs.Math.Bool.{true, false, not, ◌&&◌}
use mathlib.Core.List.{List, [], ◌∷◌, map}
use Prim.Native.Nat.{ℕ, zero, suc, ◌-◌, ◌<◌}
use Rattle.std.proofs.Math.Dec.{eqb, ltb, eqb_refl, ltb→lt}
use Rattle.finite.specs.Truth.{same_test, and_left, and_right, and_both, implies, implied}
use Rattle.finite.specs.Members.{any, all, all-out, all_in}
use Rattle.finite.specs.Filter.{filter, keep}
use Rattle.board.specs.Reach.{reaches}
use Rattle.symmetry.specs.Symmetry.{Symmetry, mapped, inverse}
use Rattle.symmetry.proofs.laws.SymmetryLaws.{eqb-mapped, ltb-mapped}
use Rattle.symmetry.proofs.laws.ReachMapped.{reaches-mapped}
use Rattle.symmetry.proofs.laws.Opposite.{reaches-sym}
use Rattle.rules.specs.declared.Piece.{Piece}
use Rattle.rules.specs.Pawn.{pawn}
use Rattle.rules.specs.Rules.{Board, piece_of, pieces, empty, occupied, attacks, attacked, king, in_check, known, known_or_pawn, apart, touching, legal_of, legal, legal_with_pawn, stands, goes_to, goes, carried, carried_piece, left, moved, can_move, taking}
use Rattle.rules.proofs.laws.Legal.{legal_of-facts, facts-legal_of, legal-pawnless}
use Rattle.rules.specs.Changed.{other, swapped, changed_piece, changed, upright, allows, fits}
use Rattle.rules.proofs.laws.PawnLaws.{upright-back, inner-kept, attacks-kept, goes_to-kept}
use Rattle.rules.proofs.laws.Changed.{eqb-swapped, ltb-swapped, across, board-eq, changed-back}

module _ (m : Symmetry) (x : Bool) where
  pub any-map : (f g : Piece → Bool) → ((a : Piece) → f (changed_piece m x a) ≡ g a) → (l : List Piece)
      → any f (map (changed_piece m x) l) ≡ any g l
  unfolding any
  any-map f g h [] = refl
  any-map f g h (a ∷ l) = rw (h a, any-map f g h l)

  pub all_map : (f g : Piece → Bool) → ((a : Piece) → f (changed_piece m x a) ≡ g a) → (l : List Piece)
      → all f (map (changed_piece m x) l) ≡ all g l
  unfolding all
  all_map f g h [] = refl
  all_map f g h (a ∷ l) = rw (h a, all_map f g h l)

or_swap : (a b c : Bool) → (a || (b || c)) ≡ (b || (a || c))
or_swap true true c = refl
or_swap true false c = refl
or_swap false b c = refl

and-swap : (a b c : Bool) → (a && (b && c)) ≡ (b && (a && c))
and-swap true b c = refl
and-swap false true c = refl
and-swap false false c = refl

any-pieces : (m : Symmetry) (x : Bool) (b : Board) (f g : Piece → Bool) → ((a : Piece) → f (changed_piece m x a) ≡ g a)
    → any f (pieces (changed m x b)) ≡ any g (pieces b)
unfolding any changed swapped other
any-pieces m true b f g h =
    or_swap (f (piece_of 5 0 (mapped m b.black))) (f (piece_of 5 1 (mapped m b.white)))
    (any f (map (changed_piece m true) b.men))
    ∙ any-map m true f g h (pieces b)
any-pieces m false b f g h = any-map m false f g h (pieces b)

pub all-pieces : (m : Symmetry) (x : Bool) (b : Board) (f g : Piece → Bool)
    → ((a : Piece) → f (changed_piece m x a) ≡ g a) → all f (pieces (changed m x b)) ≡ all g (pieces b)
unfolding all changed swapped other
all-pieces m true b f g h =
    and-swap (f (piece_of 5 0 (mapped m b.black))) (f (piece_of 5 1 (mapped m b.white)))
    (all f (map (changed_piece m true) b.men))
    ∙ all_map m true f g h (pieces b)
all-pieces m false b f g h = all_map m false f g h (pieces b)

-- ---- the changes that fit

-- by the pieces there are
any-allowed : (m : Symmetry) (x : Bool) (l : List Piece) (f g : Piece → Bool) → T (all (allows m x) l)
    → ((a : Piece) → T (allows m x a) → f (changed_piece m x a) ≡ g a) → any f (map (changed_piece m x) l) ≡ any g l
unfolding any all
any-allowed m x [] f g k h = refl
any-allowed m x (a ∷ l) f g k h =
    rw (
      h a (and_left (allows m x a) (all (allows m x) l) k),
      any-allowed m x l f g (and_right (allows m x a) (all (allows m x) l) k) h,
    )

any-fitting : (m : Symmetry) (x : Bool) (b : Board) (f g : Piece → Bool) → T (fits m x b)
    → ((a : Piece) → T (allows m x a) → f (changed_piece m x a) ≡ g a)
    → any f (pieces (changed m x b)) ≡ any g (pieces b)
unfolding any all changed swapped other fits
any-fitting m true b f g k h =
    or_swap (f (piece_of 5 0 (mapped m b.black))) (f (piece_of 5 1 (mapped m b.white)))
    (any f (map (changed_piece m true) b.men))
    ∙ any-allowed m true (pieces b) f g k h
any-fitting m false b f g k h = any-allowed m false (pieces b) f g k h

-- without a pawn every change fits
pub pawnless-fits : (m : Symmetry) (x : Bool) (b : Board) → T (all (λ a. not (pawn a)) b.men) → T (fits m x b)
unfolding fits
pawnless-fits m x b t =
    all_in (allows m x) b.men (λ a i. none (pawn a) (upright m x) (all-out (λ c. not (pawn c)) i t))
  where
    none : (p q : Bool) → T (not p) → T (implies p q)
    none true q h = absurd h
    none false q h = tt

pub legal-fits : (m : Symmetry) (x : Bool) (b : Board) → T (legal b) → T (fits m x b)
legal-fits m x b t = pawnless-fits m x b (legal-pawnless b t)

-- what fits a board is taken back by what fits its image
allowed-back : (m : Symmetry) (x : Bool) (l : List Piece) → T (all (allows m x) l)
    → T (all (allows (inverse m) x) (map (changed_piece m x) l))
unfolding all
allowed-back m x [] k = tt
allowed-back m x (a ∷ l) k =
    and_both (implies (pawn a) (upright (inverse m) x)) (all (allows (inverse m) x) (map (changed_piece m x) l))
    (go (pawn a) (and_left (allows m x a) (all (allows m x) l) k))
    (allowed-back m x l (and_right (allows m x a) (all (allows m x) l) k))
  where
    go : (p : Bool) → T (implies p (upright m x)) → T (implies p (upright (inverse m) x))
    go true h = upright-back m x h
    go false h = tt

pub fits-image : (m : Symmetry) (x : Bool) (b : Board) → T (fits m x b) → T (fits (inverse m) x (changed m x b))
unfolding fits changed
fits-image m x b k = allowed-back m x b.men k

-- a change keeps the kinds, so what fits a board fits its images
pub fits-changed : (m n : Symmetry) (x y : Bool) (b : Board) → T (fits n y b) → T (fits n y (changed m x b))
unfolding fits changed
fits-changed m n x y b t = rw (all_map m x (allows n y) (allows n y) (λ a. refl) b.men) t

-- ---- attack and check

module _ (m : Symmetry) (x : Bool) (b : Board) where
  pub occupied-changed : (s : ℕ) → occupied (changed m x b) (mapped m s) ≡ occupied b s
  unfolding occupied
  occupied-changed s =
      any-pieces m x b (λ a. eqb (mapped m s) a.square) (λ a. eqb s a.square) (λ a. eqb-mapped m s a.square)

  pub attacked-changed : T (fits m x b) → (colour t : ℕ)
      → attacked (changed m x b) (swapped x colour) (mapped m t) ≡ attacked b colour t
  unfolding attacked
  attacked-changed k colour t =
      any-fitting m x b
      (λ a. eqb a.colour (swapped x colour) && attacks (occupied (changed m x b)) a (mapped m t))
      (λ a. eqb a.colour colour && attacks (occupied b) a t)
      k
      (λ a u. ap₂ ◌&&◌ (eqb-swapped x a.colour colour)
      (attacks-kept m x (occupied b) (occupied (changed m x b)) occupied-changed a t u))

  king-changed : (s : ℕ) → s < 2 → king (changed m x b) (swapped x s) ≡ mapped m (king b s)
  unfolding changed swapped other
  king-changed zero h = go x
    where
      go : (x : Bool) → king (changed m x b) (swapped x 0) ≡ mapped m b.white
      go true = refl
      go false = refl
  king-changed (suc zero) h = go x
    where
      go : (x : Bool) → king (changed m x b) (swapped x 1) ≡ mapped m b.black
      go true = refl
      go false = refl
  king-changed (suc (suc n)) h = absurd (omega arith)

  pub check-changed : T (fits m x b) → (s : ℕ) → s < 2 → in_check (changed m x b) (swapped x s) ≡ in_check b s
  unfolding in_check
  check-changed k s h =
      ap₂ (attacked (changed m x b)) (across x s h) (king-changed s h) ∙ attacked-changed k (1 - s) (king b s)

  -- ---- legal boards

  pub touching-changed : touching (changed m x b) ≡ touching b
  unfolding touching changed
  touching-changed =
      reaches-mapped m (λ s. false) (λ s. false) (λ s. refl) 5 (cond x b.black b.white)
      (cond x b.white b.black) ∙ go x
    where
      go : (x : Bool)
          → reaches (λ s. false) 5 (cond x b.black b.white) (cond x b.white b.black)
          ≡ reaches (λ s. false) 5 b.white b.black
      go true = reaches-sym (λ s. false) 5 b.black b.white
      go false = refl

apart-map : (m : Symmetry) (x : Bool) (l : List Piece) → apart (map (changed_piece m x) l) ≡ apart l
unfolding apart
apart-map m x [] = refl
apart-map m x (a ∷ l) =
    rw (
      any-map m x (λ y. eqb (mapped m a.square) y.square) (λ y. eqb a.square y.square)
          (λ y. eqb-mapped m a.square y.square) l,
      apart-map m x l,
    )

apart-swap : (e p q r : Bool) → (not (e || p) && (not q && r)) ≡ (not (e || q) && (not p && r))
apart-swap true p q r = refl
apart-swap false p q r = and-swap (not p) (not q) r

eqb-sym : (a b : ℕ) → eqb a b ≡ eqb b a
eqb-sym a b = same_test (eqb a b) (eqb b a) (λ t. rw (eqb→eq a b t) (eqb_refl b)) (λ t. rw (eqb→eq b a t) (eqb_refl a))

-- two pieces in front may change places
apart-front : (a c : Piece) (l : List Piece) → apart (a ∷ c ∷ l) ≡ apart (c ∷ a ∷ l)
unfolding apart any
apart-front a c l =
    rw (eqb-sym a.square c.square)
    (apart-swap (eqb c.square a.square) (any (λ y. eqb a.square y.square) l)
    (any (λ y. eqb c.square y.square) l) (apart l))

pub apart-changed : (m : Symmetry) (x : Bool) (b : Board) → apart (pieces (changed m x b)) ≡ apart (pieces b)
unfolding changed swapped other
apart-changed m true b =
    apart-front (piece_of 5 0 (mapped m b.black)) (piece_of 5 1 (mapped m b.white))
    (map (changed_piece m true) b.men)
    ∙ apart-map m true (pieces b)
apart-changed m false b = apart-map m false (pieces b)

module _ (m : Symmetry) (x : Bool) (b : Board) where
  -- a change that fits, and keeps the men admitted, keeps the board legal
  legal_of-forth : (admits : Piece → Bool) → T (fits m x b)
      → (T (all admits b.men) → T (all admits (map (changed_piece m x) b.men))) → T (legal_of admits b)
      → T (legal_of admits (changed m x b))
  unfolding changed
  legal_of-forth admits k f t =
      let l = legal_of-facts admits b t in
      facts-legal_of admits (changed m x b) (record {
        side = ltb→lt (swapped x b.side) 2 (rw (ltb-swapped x b.side) (lt→ltb b.side 2 l.side));
        men = f l.men;
        squares = rw (all-pieces m x b (λ a. ltb a.square 64) (λ a. ltb a.square 64)
            (λ a. ltb-mapped m a.square)) l.squares;
        apart = rw (apart-changed m x b) l.apart;
        kings = touching-changed m x b ∙ l.kings;
        safe = ap (in_check (changed m x b)) (across x b.side l.side)
            ∙ check-changed m x b k (1 - b.side) (omega arith) ∙ l.safe;
      })

  legal-forth : T (legal b) → T (legal (changed m x b))
  legal-forth t =
      legal_of-forth known (legal-fits m x b t)
      (λ k. rw (all_map m x known known (λ a. ap (λ t. ltb a.kind 4 && t) (ltb-swapped x a.colour)) b.men) k)
      t

pub legal-changed : (m : Symmetry) (x : Bool) (b : Board) → legal (changed m x b) ≡ legal b
legal-changed m x b =
    same_test (legal (changed m x b)) (legal b)
    (λ t. rw (changed-back m x b) at (legal-forth (inverse m) x (changed m x b) t)) (legal-forth m x b)

-- a change that is allowed keeps a pawn on ranks 2 to 7
admitted-kept : (m : Symmetry) (x : Bool) (a : Piece) → T (allows m x a)
    → known_or_pawn (changed_piece m x a) ≡ known_or_pawn a
admitted-kept m x a k =
    ap₂ ◌||◌ (ap (λ t. ltb a.kind 4 && t) (ltb-swapped x a.colour))
    (by-pawn (pawn a) (ltb-swapped x a.colour)
    (λ p. inner-kept m x a.square (implied (pawn a) (upright m x) k p)))
  where
    by-pawn : (p : Bool) {c d q r : Bool} → c ≡ d → (T p → q ≡ r) → (p && c && q) ≡ (p && d && r)
    by-pawn true e f = ap₂ ◌&&◌ e (f tt)
    by-pawn false e f = refl

all-admitted : (m : Symmetry) (x : Bool) (l : List Piece) → T (all (allows m x) l)
    → all known_or_pawn (map (changed_piece m x) l) ≡ all known_or_pawn l
unfolding all
all-admitted m x [] k = refl
all-admitted m x (a ∷ l) k =
    rw (
      admitted-kept m x a (and_left (allows m x a) (all (allows m x) l) k),
      all-admitted m x l (and_right (allows m x a) (all (allows m x) l) k),
    )

with-pawn-forth : (m : Symmetry) (x : Bool) (b : Board) → T (fits m x b) → T (legal_with_pawn b)
    → T (legal_with_pawn (changed m x b))
unfolding fits
with-pawn-forth m x b k t = legal_of-forth m x b known_or_pawn k (λ h. rw (all-admitted m x b.men k) h) t

pub legal_with_pawn-changed : (m : Symmetry) (x : Bool) (b : Board) → T (fits m x b)
    → legal_with_pawn (changed m x b) ≡ legal_with_pawn b
legal_with_pawn-changed m x b k =
    same_test (legal_with_pawn (changed m x b)) (legal_with_pawn b)
    (λ t. rw (changed-back m x b) at (with-pawn-forth (inverse m) x (changed m x b) (fits-image m x b k) t))
    (with-pawn-forth m x b k)

-- ---- moves

carried-mapped : (m : Symmetry) (from to s : ℕ)
    → carried (mapped m from) (mapped m to) (mapped m s) ≡ mapped m (carried from to s)
carried-mapped m from to s = rw (eqb-mapped m s from) (go (eqb s from))
  where
    go : (t : Bool) → cond t (mapped m to) (mapped m s) ≡ mapped m (cond t to s)
    go true = refl
    go false = refl

men-moved : (m : Symmetry) (x : Bool) (from to : ℕ) (l : List Piece)
    → map (carried_piece (mapped m from) (mapped m to)) (left (mapped m to) (map (changed_piece m x) l))
    ≡ map (changed_piece m x) (map (carried_piece from to) (left to l))
unfolding filter
men-moved m x from to [] = refl
men-moved m x from to (a ∷ l) = rw (eqb-mapped m a.square to) (go (eqb a.square to) (men-moved m x from to l))
  where
    go : (t : Bool)
        → map (carried_piece (mapped m from) (mapped m to)) (left (mapped m to) (map (changed_piece m x) l))
        ≡ map (changed_piece m x) (map (carried_piece from to) (left to l))
        → map (carried_piece (mapped m from) (mapped m to))
        (keep (not t) (changed_piece m x a) (left (mapped m to) (map (changed_piece m x) l)))
        ≡ map (changed_piece m x) (map (carried_piece from to) (keep (not t) a (left to l)))
    go true e = e
    go false e = rw (carried-mapped m from to a.square, e)

allowed-left : (m : Symmetry) (x : Bool) (from to : ℕ) (l : List Piece) → T (all (allows m x) l)
    → T (all (allows m x) (map (carried_piece from to) (left to l)))
unfolding all filter
allowed-left m x from to [] k = tt
allowed-left m x from to (a ∷ l) k =
    go (eqb a.square to) (allowed-left m x from to l (and_right (allows m x a) (all (allows m x) l) k))
  where
    go : (z : Bool) → T (all (allows m x) (map (carried_piece from to) (left to l)))
        → T (all (allows m x) (map (carried_piece from to) (keep (not z) a (left to l))))
    go true r = r
    go false r =
        and_both (allows m x a) (all (allows m x) (map (carried_piece from to) (left to l)))
        (and_left (allows m x a) (all (allows m x) l) k) r

module _ (m : Symmetry) (x : Bool) (b : Board) (from to : ℕ) where
  pub stands-changed : (c s : ℕ) → stands (changed m x b) (swapped x c) (mapped m s) ≡ stands b c s
  unfolding stands
  stands-changed c s =
      any-pieces m x b (λ a. eqb a.colour (swapped x c) && eqb a.square (mapped m s))
      (λ a. eqb a.colour c && eqb a.square s)
      (λ a. ap₂ ◌&&◌ (eqb-swapped x a.colour c) (eqb-mapped m a.square s))

  -- whether a move takes
  pub taking-changed : b.side < 2 → taking (changed m x b) (mapped m to) ≡ taking b to
  unfolding taking changed
  taking-changed h =
      ap (λ (c : ℕ). stands (changed m x b) c (mapped m to)) (across x b.side h) ∙ stands-changed (1 - b.side) to

  pub goes-changed : T (fits m x b) → goes (changed m x b) (mapped m from) (mapped m to) ≡ goes b from to
  unfolding goes changed
  goes-changed k =
      any-fitting m x b
      (λ a. eqb a.colour (changed m x b).side && eqb a.square (mapped m from) && goes_to
      (occupied (changed m x b)) a (mapped m to))
      (λ a. eqb a.colour b.side && eqb a.square from && goes_to (occupied b) a to)
      k
      (λ a u. ap₂ ◌&&◌ (ap₂ ◌&&◌ (side a) (eqb-mapped m a.square from))
      (goes_to-kept m x (occupied b) (occupied (changed m x b)) (occupied-changed m x b) a to u))
    where
      side : (a : Piece) → eqb (swapped x a.colour) (changed m x b).side ≡ eqb a.colour b.side
      side a = eqb-swapped x a.colour b.side

  -- the change and the move, in either order
  pub moved-changed : b.side < 2 → moved (changed m x b) (mapped m from) (mapped m to) ≡ changed m x (moved b from to)
  unfolding moved changed
  moved-changed h =
      board-eq (across x b.side h) (go x b.black b.white) (go x b.white b.black)
      (men-moved m x from to b.men)
    where
      go : (x : Bool) (p q : ℕ)
          → carried (mapped m from) (mapped m to) (mapped m (cond x p q))
          ≡ mapped m (cond x (carried from to p) (carried from to q))
      go true p q = carried-mapped m from to p
      go false p q = carried-mapped m from to q

  pub fits_moved : T (fits m x b) → T (fits m x (moved b from to))
  unfolding fits moved
  fits_moved k = allowed-left m x from to b.men k

  pub can_move-changed : T (fits m x b) → b.side < 2
      → can_move (changed m x b) (mapped m from) (mapped m to) ≡ can_move b from to
  unfolding can_move changed
  can_move-changed k h =
      ap₂ ◌&&◌ (ap₂ ◌&&◌ (goes-changed k) (ap not (side-changed ∙ stands-changed b.side to)))
      (ap not (check ∙ check-changed m x (moved b from to) (fits_moved k) b.side h))
    where
      side-changed : stands (changed m x b) (changed m x b).side (mapped m to) ≡ stands (changed m x b) (swapped x
          b.side) (mapped m to)
      side-changed = refl

      check : in_check (moved (changed m x b) (mapped m from) (mapped m to)) (changed m x b).side ≡ in_check (changed m
          x (moved b from to)) (swapped x b.side)
      check = ap (λ (c : Board). in_check c (swapped x b.side)) (moved-changed h)

pub bare-changed : (m : Symmetry) (x : Bool) (b : Board) → empty (changed m x b).men ≡ empty b.men
unfolding changed
bare-changed m x b = go b.men
  where
    go : (l : List Piece) → empty (map (changed_piece m x) l) ≡ empty l
    go [] = refl
    go (a ∷ l) = refl

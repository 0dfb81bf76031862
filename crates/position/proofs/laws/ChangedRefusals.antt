-- A position under a map, the colours exchanged or not, stands for the board so changed and meets the same refusal;
-- with a pawn, where the change fits.
use Rattle.std.specs.Prelude.{◌≡◌, Bool, ◌&&◌, ◌||◌, List, [], ◌∷◌, map, ◌-◌, ◌<◌, T, None, Option, Some}
use Rattle.std.proofs.Math.Path.{refl, sym, ap, ap₂}
use Rattle.std.proofs.Common.{◌∙◌, arith, eqb-true}
use Rattle.std.proofs.Math.Bool.{true, false, cond, not, xor}
use Rattle.std.proofs.Math.Dec.{ltb, eqb}
use Rattle.finite.specs.Truth.{and_left, and_right, implies}
use Rattle.finite.specs.Members.{all}
use Rattle.symmetry.specs.Symmetry.{Symmetry, mapped}
use Rattle.symmetry.proofs.laws.SymmetryLaws.{ltb-mapped, nothing_then}
use Rattle.rules.specs.declared.Piece.{Piece}
use Rattle.rules.specs.Pawn.{pawn, inner}
use Rattle.rules.specs.Rules.{Board, pieces, apart, touching, in_check}
use Rattle.rules.specs.Changed.{changed_piece, changed, upright, allows, fits}
use Rattle.rules.proofs.laws.PawnLaws.{inner-kept}
use Rattle.rules.proofs.laws.Changed.{ltb-swapped, across, changed-composed}
use Rattle.rules.proofs.laws.ChangedRules.{all_map, all-pieces, apart-changed, touching-changed, check-changed, pawnless-fits}
use Rattle.numbering.specs.KingMaps.{swapping}
use Rattle.position.specs.declared.Position.{Position}
use Rattle.position.specs.Keyed.{board_of}
use Rattle.position.specs.Refusals.{ranked, bad_men, bad_man, bad_side, bad_square, bad_pawn, shared_square, kings_touch, other_in_check, placing_refusal, standing_refusal, bad_men_of, placing_with, standing_with}
use Rattle.position.specs.Maps.{mapped_slot, mapped_position, changed_position}
use Rattle.position.specs.Owned.{recoloured_slot, recoloured}
use Rattle.position.proofs.laws.SlotLaws.{leb-not}
use Rattle.position.proofs.laws.Legality.{man-pawnless, placing-pieces}
use Rattle.position.proofs.laws.MapLaws.{map-board}
use Rattle.position.proofs.laws.OwnerLaws.{recoloured-board}
use Rattle.position.proofs.laws.PlacedLaws.{placed-facts}
use Rattle.position.proofs.laws.BothSizes.{placed-side-with}

pub change-board : (m : Symmetry) (x : Bool) (p : Position) → board_of (changed_position m x p) ≡ changed m x (board_of p)
unfolding xor
change-board m true p =
    map-board m (recoloured p) ∙ ap (changed m false) (recoloured-board p)
    ∙ changed-composed (swapping false) m true false (board_of p)
    ∙ ap (λ (k : Symmetry). changed k true (board_of p)) (nothing_then m)
change-board m false p = map-board m p

men-mapped : (m : Symmetry) (f s : Option Piece) → bad_men (mapped_slot m f) (mapped_slot m s) ≡ bad_men f s
men-mapped m None s = refl
men-mapped m (Some a) None = refl
men-mapped m (Some a) (Some b) = refl

men-recoloured : (f s : Option Piece) → bad_men (recoloured_slot f) (recoloured_slot s) ≡ bad_men f s
men-recoloured None s = refl
men-recoloured (Some a) None = refl
men-recoloured (Some a) (Some b) = refl

man-changed : (m : Symmetry) (x : Bool) (p : Position) → bad_man (changed_position m x p) ≡ bad_man p
unfolding mapped_position recoloured
man-changed m true p =
    men-mapped m (recoloured_slot p.first) (recoloured_slot p.second) ∙ men-recoloured p.first p.second
man-changed m false p = men-mapped m p.first p.second

-- of one man or of two
mapped-men : (m : Symmetry) (f s : Option Piece) → bad_men_of (mapped_slot m f) (mapped_slot m s) ≡ bad_men_of f s
mapped-men m None s = refl
mapped-men m (Some a) None = refl
mapped-men m (Some a) (Some c) = refl

recoloured-men : (f s : Option Piece) → bad_men_of (recoloured_slot f) (recoloured_slot s) ≡ bad_men_of f s
recoloured-men None s = refl
recoloured-men (Some a) None = refl
recoloured-men (Some a) (Some c) = refl

pub changed-men : (m : Symmetry) (x : Bool) (p : Position)
    → bad_men_of (changed_position m x p).first (changed_position m x p).second ≡ bad_men_of p.first p.second
unfolding mapped_position recoloured
changed-men m true p =
    mapped-men m (recoloured_slot p.first) (recoloured_slot p.second) ∙ recoloured-men p.first p.second
changed-men m false p = mapped-men m p.first p.second

-- pawns stay on their ranks
ranked-map : (m : Symmetry) (x : Bool) (l : List Piece) → T (all (allows m x) l)
    → all ranked (map (changed_piece m x) l) ≡ all ranked l
unfolding all
ranked-map m x [] t = refl
ranked-map m x (a ∷ l) t =
    ap₂ ◌&&◌ (go (pawn a) (and_left (allows m x a) (all (allows m x) l) t))
    (ranked-map m x l (and_right (allows m x a) (all (allows m x) l) t))
  where
    go : (y : Bool) → T (implies y (upright m x)) → implies y (inner (mapped m a.square)) ≡ implies y (inner a.square)
    go true u = inner-kept m x a.square u
    go false u = refl

-- the side to move and the men's colours
bad-side-by : (p : Position)
    → bad_side p ≡ (not (ltb (board_of p).side 2) || not (all (λ a. ltb a.colour 2) (board_of p).men))
unfolding bad_side board_of
bad-side-by p = ap (λ (x : Bool). x || not (all (λ a. ltb a.colour 2) (board_of p).men)) (leb-not 2 p.side)

check-by : (p : Position) → other_in_check p ≡ in_check (board_of p) (1 - (board_of p).side)
unfolding board_of
check-by p = refl

module _ (m : Symmetry) (x : Bool) (p : Position) where
  abbrev q : Position
  q = changed_position m x p

  board : board_of q ≡ changed m x (board_of p)
  board = change-board m x p

  side-changed : bad_side q ≡ bad_side p
  unfolding changed
  side-changed =
      bad-side-by q
      ∙ ap (λ (b : Board). not (ltb b.side 2) || not (all (λ a. ltb a.colour 2) b.men)) board
      ∙ ap₂ (λ (s c : Bool). not s || not c) (ltb-swapped x (board_of p).side)
      (all_map m x (λ a. ltb a.colour 2) (λ a. ltb a.colour 2) (λ a. ltb-swapped x a.colour) (board_of p).men)
      ∙ sym (bad-side-by p)

  square-changed : bad_square q ≡ bad_square p
  unfolding bad_square
  square-changed =
      ap (λ (b : Board). not (all (λ a. ltb a.square 64) (pieces b))) board
      ∙ ap not (all-pieces m x (board_of p) (λ a. ltb a.square 64) (λ a. ltb a.square 64)
      (λ a. ltb-mapped m a.square))

  shared-changed : shared_square q ≡ shared_square p
  unfolding shared_square
  shared-changed = ap (λ (b : Board). not (apart (pieces b))) board ∙ ap not (apart-changed m x (board_of p))

  touch-changed : kings_touch q ≡ kings_touch p
  touch-changed = ap touching board ∙ touching-changed m x (board_of p)

  other-changed : T (fits m x (board_of p)) → (board_of p).side < 2 → other_in_check q ≡ other_in_check p
  unfolding changed
  other-changed k h =
      check-by q
      ∙ ap (λ (b : Board). in_check b (1 - b.side)) board
      ∙ ap (in_check (changed m x (board_of p))) (across x (board_of p).side h)
      ∙ check-changed m x (board_of p) k (1 - (board_of p).side) (omega arith) ∙ sym (check-by p)

  pawn-changed : T (fits m x (board_of p)) → bad_pawn q ≡ bad_pawn p
  unfolding bad_pawn fits changed
  pawn-changed k = ap (λ (b : Board). not (all ranked b.men)) board ∙ ap not (ranked-map m x (board_of p).men k)

  placing-with-changed : T (fits m x (board_of p)) → placing_with q ≡ placing_with p
  unfolding placing_with
  placing-with-changed k =
      rw (changed-men m x p, side-changed, square-changed, pawn-changed k, shared-changed, touch-changed)

  pub standing-with-changed : T (fits m x (board_of p)) → standing_with q ≡ standing_with p
  unfolding standing_with
  standing-with-changed k = rw (placing-with-changed k) (go (eqb (placing_with p) 0) refl)
    where
      go : (a : Bool) → eqb (placing_with p) 0 ≡ a
          → cond a (cond (other_in_check q) 6 0) (placing_with p) ≡ cond a (cond (other_in_check p) 6 0) (placing_with p)
      go true e =
          ap (λ (c : Bool). cond c 6 0)
          (other-changed k (unfold board_of in placed-side-with p (eqb-true (placing_with p) 0 e)))
      go false e = refl

  placing-changed : placing_refusal q ≡ placing_refusal p
  placing-changed =
      placing-pieces q
      ∙ rw (man-changed m x p, side-changed, square-changed, shared-changed, touch-changed) (sym (placing-pieces p))

  pub standing-changed : standing_refusal q ≡ standing_refusal p
  unfolding standing_refusal
  standing-changed = rw placing-changed (go (eqb (placing_refusal p) 0) refl)
    where
      go : (a : Bool) → eqb (placing_refusal p) 0 ≡ a
          → cond a (cond (other_in_check q) 6 0) (placing_refusal p)
          ≡ cond a (cond (other_in_check p) 6 0) (placing_refusal p)
      go true e =
          let w = placed-facts p (eqb-true (placing_refusal p) 0 e) in
          ap (λ (c : Bool). cond c 6 0)
          (other-changed (pawnless-fits m x (board_of p) (man-pawnless p w.men)) (unfold board_of in w.side))
      go false e = refl

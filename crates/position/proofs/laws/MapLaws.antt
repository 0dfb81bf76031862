-- A position under a map stands for the board under that map; maps compose; normalising in two steps.
use Rattle.std.specs.Prelude.{◌≡◌, refl, ◌++◌, map, Bool, ◌&&◌, ◌||◌, ℕ, ◌/◌, ◌%◌, ltb, None, Option, Some}
use Rattle.std.proofs.Math.Path.{sym}
use Rattle.std.proofs.Common.{ap, ◌∙◌, arith}
use Rattle.std.proofs.Math.Bool.{true, false, xor, or-false}
use borrow.Author.Tests.{le-ltb, eq-eqb, ne_eqb}
use Rattle.symmetry.specs.Symmetry.{Symmetry, mapped, inverse, composed, exchange}
use Rattle.symmetry.proofs.laws.SymmetryLaws.{mapped-composed}
use Rattle.rules.specs.declared.Piece.{Piece}
use Rattle.rules.specs.Rules.{Board, piece_of}
use Rattle.rules.specs.Changed.{swapped, changed_piece, changed}
use Rattle.rules.proofs.laws.Changed.{board-eq}
use Rattle.numbering.specs.Kings.{above, on_diagonal}
use Rattle.numbering.specs.Normal.{first_above, turn, swaps, normal_map}
use Rattle.numbering.specs.KingMaps.{swapping}
use Rattle.numbering.proofs.laws.NormalLaws.{turn-then, stays-diagonal}
use Rattle.position.specs.declared.Position.{Position}
use Rattle.position.specs.declared.Map.{Map}
use Rattle.position.specs.declared.Normal.{Normal}
use Rattle.position.specs.Keyed.{slot_men, board_of}
use Rattle.position.specs.Maps.{mapped_slot, mapped_position, normal_position, symmetry_of, reversals, normal_of}

-- a position from its fields
position-eq : (side : ℕ) {w w' k k' : ℕ} {f f' s s' : Option Piece} → w ≡ w' → k ≡ k' → f ≡ f' → s ≡ s'
    → ◌≡◌ {A = Position} (record { side = side; white_king = w; black_king = k; first = f; second = s })
    (record { side = side; white_king = w'; black_king = k'; first = f'; second = s' })
position-eq side a b c d =
    λ i. record { side = side; white_king = a i; black_king = b i; first = c i; second = d i }

-- ---- the same maps as the rules'

men-mapped : (m : Symmetry) (f s : Option Piece)
    → slot_men (mapped_slot m f) ++ slot_men (mapped_slot m s) ≡ map (changed_piece m false) (slot_men f ++ slot_men s)
unfolding swapped
men-mapped m None None = refl
men-mapped m None (Some b) = refl
men-mapped m (Some a) None = refl
men-mapped m (Some a) (Some b) = refl

pub map-board : (m : Symmetry) (p : Position) → board_of (mapped_position m p) ≡ changed m false (board_of p)
unfolding board_of mapped_position changed swapped
map-board m p = board-eq refl refl refl (men-mapped m p.first p.second)

-- ---- a map moves each square

pub by-square : (m : Symmetry) (slot : Option Piece) (a : Piece) (square : ℕ) → slot ≡ Some a
    → square ≡ mapped m a.square → Some (piece_of a.kind a.colour square) ≡ mapped_slot m slot
by-square m slot a square e h = ap (λ (s : ℕ). Some (piece_of a.kind a.colour s)) h ∙ ap (mapped_slot m) (sym e)

pub by-squares : (m : Symmetry) (p : Position) (white black : ℕ) (first second : Option Piece)
    → white ≡ mapped m p.white_king → black ≡ mapped m p.black_king → first ≡ mapped_slot m p.first
    → second ≡ mapped_slot m p.second
    → ◌≡◌ {A = Position}
    (record { side = p.side; white_king = white; black_king = black; first = first; second = second })
    (mapped_position m p)
unfolding mapped_position
by-squares m p white black first second w k f s = position-eq p.side w k f s

slot_twice : (m n : Symmetry) (s : Option Piece) → mapped_slot n (mapped_slot m s) ≡ mapped_slot (composed m n) s
slot_twice m n None = refl
slot_twice m n (Some a) = ap (λ (s : ℕ). Some (piece_of a.kind a.colour s)) (mapped-composed m n a.square)

pub maps-twice : (m n : Symmetry) (p : Position)
    → mapped_position n (mapped_position m p) ≡ mapped_position (composed m n) p
unfolding mapped_position
maps-twice m n p =
    position-eq p.side (mapped-composed m n p.white_king) (mapped-composed m n p.black_king)
    (slot_twice m n p.first) (slot_twice m n p.second)

-- a map that does nothing
still : (s : ℕ) → mapped (swapping false) s ≡ s
still s = stays-diagonal false s (λ t. absurd t)

slot-unmoved : (s : Option Piece) → mapped_slot (swapping false) s ≡ s
slot-unmoved None = refl
slot-unmoved (Some a) = ap (λ (s : ℕ). Some (piece_of a.kind a.colour s)) (still a.square)

pub unmoved : (p : Position) → mapped_position (swapping false) p ≡ p
unfolding mapped_position
unmoved p = position-eq p.side (still p.white_king) (still p.black_king) (slot-unmoved p.first)
    (slot-unmoved p.second)

-- the reversals, and then the exchange where it is called for
pub normal-by : (p q : Position) (e : Bool) → q ≡ mapped_position (turn p.white_king) p → e ≡ swaps (board_of q)
    → mapped_position (swapping e) q ≡ normal_position p
unfolding normal_position normal_map board_of
normal-by p q e h k =
    ap (mapped_position (swapping e)) h
    ∙ maps-twice (turn p.white_king) (swapping e) p
    ∙ ap (λ (m : Symmetry). mapped_position m p) (turn-then p.white_king e)
    ∙ ap (λ (x : Bool). mapped_position
    (record { files = (turn p.white_king).files; ranks = (turn p.white_king).ranks; swap = x }) p)
    (k ∙ ap (λ (x : Position). swaps (board_of x)) h
    ∙ ap (λ (b : Board). swaps b) (map-board (turn p.white_king) p))

-- whether it is
swap_is : (p q : Position) (e : Bool) → q ≡ mapped_position (turn p.white_king) p → e ≡ swaps (board_of q)
    → e ≡ (normal_map (board_of p)).swap
unfolding normal_map board_of
swap_is p q e h k =
    k ∙ ap (λ (x : Position). swaps (board_of x)) h ∙ ap (λ (b : Board). swaps b) (map-board (turn p.white_king) p)

-- the normal position, and the map by its three parts
pub normal-made : (p q n : Position) (e x : Bool) → q ≡ mapped_position (turn p.white_king) p
    → e ≡ swaps (board_of q) → e ≡ x → n ≡ mapped_position (swapping x) q
    → ◌≡◌ {A = Normal}
    (record {
      position = n;
      via = record { files = ltb 3 (p.white_king % 8); ranks = ltb 3 (p.white_king / 8); swap = e };
    })
    (normal_of p)
unfolding normal_of normal_map turn board_of
normal-made p q n e x h k f g =
    let there : n ≡ normal_position p = g ∙ normal-by p q x h (sym f ∙ k) in
    let swap = swap_is p q e h k in
    λ i. record {
      position = there i;
      via = record { files = ltb 3 (p.white_king % 8); ranks = ltb 3 (p.white_king / 8); swap = swap i };
    }

pub normal-position : (n : Normal) (p : Position) → n ≡ normal_of p → n.position ≡ normal_position p
unfolding normal_of
normal-position n p e = ap (λ (x : Normal). x.position) e

pub normal-via : (n : Normal) (p : Position) → n ≡ normal_of p → symmetry_of n.via ≡ normal_map (board_of p)
unfolding normal_of
normal-via n p e = ap (λ (x : Normal). symmetry_of x.via) e

-- ---- a square carried back

pub back-exchanged : (m : Map) (s : ℕ) → m.swap ≡ true
    → mapped (reversals m.files m.ranks) (mapped exchange s) ≡ mapped (inverse (symmetry_of m)) s
unfolding inverse
back-exchanged m s e = mapped-composed exchange (reversals m.files m.ranks) s
    ∙ ap (λ (k : Symmetry). mapped k s) (go m.files m.ranks m.swap e)
  where
    go : (f r x : Bool) → x ≡ true
        → composed exchange (reversals f r) ≡ inverse (record { files = f; ranks = r; swap = x })
    go true true x h = unfold composed xor in rw h
    go true false x h = unfold composed xor in rw h
    go false true x h = unfold composed xor in rw h
    go false false x h = unfold composed xor in rw h

pub back-plain : (m : Map) (s : ℕ) → m.swap ≡ false
    → mapped (reversals m.files m.ranks) s ≡ mapped (inverse (symmetry_of m)) s
unfolding inverse
back-plain m s e = rw e

-- ---- the first man off the diagonal, slot by slot

pub one-above : (slot : Option Piece) (a : Piece) → slot ≡ Some a → above a.square ≡ first_above (slot_men slot)
unfolding first_above
one-above slot a e = go (above a.square) (on_diagonal a.square) ∙ ap (λ (s : Option Piece). first_above (slot_men s)) (sym e)
  where
    go : (x d : Bool) → x ≡ (x || (d && false))
    go true d = refl
    go false true = refl
    go false false = refl

module _ (first second : Option Piece) where
  pub none_above : first ≡ None → first_above (slot_men second) ≡ first_above (slot_men first ++ slot_men second)
  none_above e = ap (λ (f : Option Piece). first_above (slot_men f ++ slot_men second)) (sym e)

  module _ (a : Piece) (e : first ≡ Some a) where
    -- on the diagonal: the next man tells
    pub next-above : a.square % 8 ≡ a.square / 8
        → first_above (slot_men second) ≡ first_above (slot_men first ++ slot_men second)
    unfolding first_above
    next-above h =
        let d : above a.square ≡ false = le-ltb (a.square % 8) (a.square / 8) (omega arith) in
        sym (ap (λ (f : Option Piece). first_above (slot_men f ++ slot_men second)) e
        ∙ rw (d, eq-eqb (a.square % 8) (a.square / 8) h))

    -- off it: he does
    pub first-above : (a.square % 8 ≡ a.square / 8 → ⊥)
        → above a.square ≡ first_above (slot_men first ++ slot_men second)
    unfolding first_above
    first-above h =
        sym (ap (λ (f : Option Piece). first_above (slot_men f ++ slot_men second)) e
        ∙ rw (ne_eqb (a.square % 8) (a.square / 8) h) (or-false (above a.square)))

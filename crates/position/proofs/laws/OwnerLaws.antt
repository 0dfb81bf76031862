-- The exchange of colours on a position is the rules' own, and leaves one man White's.
use Rattle.std.specs.Prelude.{◌≡◌, Bool, true, false, cond, List, [], ◌∷◌, ◌++◌, map, ℕ, zero, suc, ◌-◌, ◌<◌, ◌≤◌, None, Option, Some}
use Rattle.std.proofs.Math.Path.{refl, subst⁻¹}
use Rattle.std.proofs.Common.{ap, ap₂, sym, ◌∙◌, arith, eq-eqb, ne_eqb}
use Rattle.symmetry.specs.Symmetry.{mapped}
use Rattle.rules.specs.declared.Piece.{Piece}
use Rattle.rules.specs.Rules.{piece_of}
use Rattle.rules.specs.Changed.{other, swapped, changed_piece, changed}
use Rattle.rules.proofs.laws.Changed.{board-eq}
use Rattle.numbering.specs.KingMaps.{swapping}
use Rattle.numbering.proofs.laws.NormalLaws.{stays-diagonal}
use Rattle.position.specs.declared.Position.{Position}
use Rattle.position.specs.Keyed.{slot_men, board_of, one_man, lone, man_in, man_kind, colour_of, man_square}
use Rattle.position.specs.Refusals.{bad_man}
use Rattle.position.specs.Owned.{recoloured_slot, recoloured, black_owns, white_owned}
use Rattle.position.proofs.laws.Legality.{one-alone}

stays : (s : ℕ) → s ≡ mapped (swapping false) s
stays s = sym (stays-diagonal false s (λ t. absurd t))

piece-stays : (x : Bool) (a : Piece)
    → piece_of a.kind (swapped x a.colour) a.square ≡ changed_piece (swapping false) x a
piece-stays x a = ap (λ (s : ℕ). piece_of a.kind (swapped x a.colour) s) (stays a.square)

men-kept : (l : List Piece) → l ≡ map (changed_piece (swapping false) false) l
unfolding swapped
men-kept [] = refl
men-kept (a ∷ l) = ap₂ (λ (m : Piece) (k : List Piece). m ∷ k) (piece-stays false a) (men-kept l)

men-recoloured : (f s : Option Piece)
    → slot_men (recoloured_slot f) ++ slot_men (recoloured_slot s)
    ≡ map (changed_piece (swapping false) true) (slot_men f ++ slot_men s)
unfolding swapped
men-recoloured None None = refl
men-recoloured None (Some b) = ap (λ (m : Piece). m ∷ []) (piece-stays true b)
men-recoloured (Some a) None = ap (λ (m : Piece). m ∷ []) (piece-stays true a)
men-recoloured (Some a) (Some b) = ap₂ (λ (m n : Piece). m ∷ n ∷ []) (piece-stays true a) (piece-stays true b)

-- ---- the same exchange as the rules'

pub recoloured-board : (p : Position) → board_of (recoloured p) ≡ changed (swapping false) true (board_of p)
unfolding board_of recoloured changed swapped
recoloured-board p =
    board-eq refl (stays p.black_king) (stays p.white_king) (men-recoloured p.first p.second)

pub owned-board : (p : Position) → board_of (white_owned p) ≡ changed (swapping false) (black_owns p) (board_of p)
unfolding white_owned
owned-board p = go (black_owns p)
  where
    go : (x : Bool) → board_of (cond x (recoloured p) p) ≡ changed (swapping false) x (board_of p)
    go true = recoloured-board p
    go false = unfold board_of changed swapped in
        board-eq refl (stays p.white_king) (stays p.black_king)
        (men-kept (slot_men p.first ++ slot_men p.second))

-- ---- as code makes it

pub by-slot : (slot : Option Piece) (a : Piece) (colour : ℕ) → slot ≡ Some a → colour ≡ other a.colour
    → Some (piece_of a.kind colour a.square) ≡ recoloured_slot slot
by-slot slot a colour e h = ap (λ (c : ℕ). Some (piece_of a.kind c a.square)) h ∙ ap recoloured_slot (sym e)

pub by_slots : (p : Position) (side : ℕ) (first second : Option Piece) → side ≡ other p.side
    → first ≡ recoloured_slot p.first → second ≡ recoloured_slot p.second
    → ◌≡◌ {A = Position}
    (record {
      side = side;
      white_king = p.black_king;
      black_king = p.white_king;
      first = first;
      second = second;
    }) (recoloured p)
unfolding recoloured
by_slots p side first second d f s =
    λ i. record {
      side = d i;
      white_king = p.black_king;
      black_king = p.white_king;
      first = f i;
      second = s i;
    }

-- another number than 0 and 1 stays
pub other-stays : (c : ℕ) → 2 ≤ c → c ≡ other c
unfolding other
other-stays zero h = absurd (omega arith)
other-stays (suc zero) h = absurd (omega arith)
other-stays (suc (suc n)) h = refl

pub other-side : (c : ℕ) → c < 2 → 1 - c ≡ other c
unfolding other
other-side zero h = refl
other-side (suc zero) h = refl
other-side (suc (suc n)) h = absurd (omega arith)

module _ (p : Position) (m : Piece) (e : m ≡ man_in p.first) where
  pub owned-black : m.colour ≡ 1 → white_owned p ≡ recoloured p
  unfolding white_owned
  owned-black h = rw (eq-eqb (colour_of p) 1 (ap (λ (a : Piece). a.colour) (sym e) ∙ h))

  pub owned-white : (m.colour ≡ 1 → ⊥) → white_owned p ≡ p
  unfolding white_owned
  owned-white h = rw (ne_eqb (colour_of p) 1 (λ z. h (ap (λ (a : Piece). a.colour) e ∙ z)))

-- ---- one man becomes White's

whitened : (kind colour side white square black : ℕ) → colour < 2
    → (let p = one_man kind colour side white square black in white_owned p
    ≡ lone kind (white_owned p).side (white_owned p).white_king square (white_owned p).black_king)
unfolding white_owned recoloured other
whitened kind zero side white square black h = refl
whitened kind (suc zero) side white square black h = refl
whitened kind (suc (suc n)) side white square black h = absurd (omega arith)

pub owned-lone : (p : Position) → bad_man p ≡ false → colour_of p < 2
    → white_owned p
    ≡ lone (man_kind p) (white_owned p).side (white_owned p).white_king (man_square p) (white_owned p).black_king
owned-lone p e h =
    subst⁻¹ (λ (q : Position). white_owned q
    ≡ lone (man_kind p) (white_owned q).side (white_owned q).white_king (man_square p)
    (white_owned q).black_king) (one-alone p e)
    (whitened (man_kind p) (colour_of p) p.side p.white_king (man_square p) p.black_king h)

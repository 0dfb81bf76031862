-- The four flips of a board: they compose, each takes itself back, and a board with a pawn stays one. A flip fits every
-- board, so a legal board and its flipped one have one value.
use Rattle.std.specs.Prelude.{◌≡◌, refl, Bool, true, false, cond, not, ◌&&◌, List, [], ◌∷◌, map, ℕ, zero, suc, ◌<◌, T, ltb}
use Rattle.std.proofs.Common.{ap, sym, ◌∙◌, ⊎_elim, arith, eqb→eq, ltb→lt}
use Rattle.std.proofs.Math.Path.{subst⁻¹}
use Rattle.std.proofs.Math.Bool.{xor}
use mathlib.Core.List.Memᴰ
use Rattle.finite.specs.Truth.{and_left, and_right, or_cases, implies}
use Rattle.finite.specs.Members.{◌∈◌, all, all_in, all-out}
use Rattle.theory.specs.Value.{TrueByte}
use Rattle.symmetry.specs.Symmetry.{mapped, composed, inverse}
use Rattle.symmetry.proofs.laws.SymmetryLaws.{mapped-on}
use Rattle.rules.specs.declared.Piece.{Piece}
use Rattle.rules.specs.Pawn.{pawn, inner}
use Rattle.rules.specs.Rules.{Board, piece_of, pieces, known, known_or_pawn, apart, legal_with_pawn}
use Rattle.rules.specs.Changed.{other, swapped, changed_piece, changed, upright, allows, fits}
use Rattle.rules.specs.Chess.{chess, Fitting}
use Rattle.rules.proofs.laws.ChessLaws.{byte-fitting}
use Rattle.rules.proofs.laws.Legal.{legal_of-facts}
use Rattle.rules.proofs.laws.Changed.{changed-back, changed-composed}
use Rattle.rules.proofs.laws.ChangedRules.{apart-changed, touching-changed, legal_with_pawn-changed}
use Rattle.rules.proofs.laws.PawnLaws.{inner-kept}
use Rattle.rules.specs.Changed.{keeping}
use Rattle.pawn_numbers.specs.PawnNumber.{Flip, flip, flipped, flips, separated, HasPawn}

pub every-flip : (s : Flip) → s ∈ flips
every-flip s = go s.files s.colours
  where
    go : (f x : Bool) → flip f x ∈ flips
    go false false = Memᴰ.head refl
    go false true = Memᴰ.tail (Memᴰ.head refl)
    go true false = Memᴰ.tail (Memᴰ.tail (Memᴰ.head refl))
    go true true = Memᴰ.tail (Memᴰ.tail (Memᴰ.tail (Memᴰ.head refl)))

-- first s, then t
abbrev pub then : Flip → Flip → Flip
then s t = flip (xor s.files t.files) (xor s.colours t.colours)

pub flips-compose : (s t : Flip) (b : Board) → flipped t (flipped s b) ≡ flipped (then s t) b
unfolding flipped composed xor
flips-compose s t b =
    changed-composed (keeping s.files s.colours) (keeping t.files t.colours) s.colours t.colours b

pub flip-undone : (s : Flip) (b : Board) → flipped s (flipped s b) ≡ b
unfolding flipped inverse
flip-undone s b = changed-back (keeping s.files s.colours) s.colours b

pub flip-none : (b : Board) → flipped (flip false false) b ≡ b
unfolding xor
flip-none b = sym (flips-compose (flip false false) (flip false false) b) ∙ flip-undone (flip false false) b

-- ---- every flip keeps every man's way of moving

pub flip-upright : (f x : Bool) → T (upright (keeping f x) x)
flip-upright f true = tt
flip-upright f false = tt

pub flip-fits : (s : Flip) (b : Board) → T (fits (keeping s.files s.colours) s.colours b)
unfolding fits
flip-fits s b = all_in (allows (keeping s.files s.colours) s.colours) b.men (λ a i. allowed (pawn a))
  where
    allowed : (p : Bool) → T (implies p (upright (keeping s.files s.colours) s.colours))
    allowed true = flip-upright s.files s.colours
    allowed false = tt

pub flip-fitting : (s : Flip) (b : Board) → T (legal_with_pawn b)
    → Fitting (keeping s.files s.colours) s.colours b
flip-fitting s b l = record { legality = l; fit = flip-fits s b }

pub legal-flipped : (s : Flip) (b : Board) → legal_with_pawn (flipped s b) ≡ legal_with_pawn b
unfolding flipped
legal-flipped s b = legal_with_pawn-changed (keeping s.files s.colours) s.colours b (flip-fits s b)

-- one byte is true of both
pub byte-flipped : (s : Flip) (b : Board) (v : ℕ) → T (legal_with_pawn b) → TrueByte chess b v
    → TrueByte chess (flipped s b) v
unfolding flipped
byte-flipped s b v l t = byte-fitting (keeping s.files s.colours) s.colours b v (flip-fitting s b l) t

pub separated-flipped : (s : Flip) (b : Board) → separated (flipped s b) ≡ separated b
unfolding flipped separated
separated-flipped s b =
    let m = keeping s.files s.colours in
    rw (apart-changed m s.colours b, touching-changed m s.colours b)

pub legal-separated : (b : Board) → T (legal_with_pawn b) → T (separated b)
unfolding separated
legal-separated b l = let f = legal_of-facts known_or_pawn b l in rw f.kings (go (apart (pieces b)) f.apart)
  where
    go : (a : Bool) → T a → T (a && not false)
    go true t = tt
    go false t = absurd t

-- ---- boards with one pawn

pub swapped-lt : (x : Bool) (c : ℕ) → c < 2 → swapped x c < 2
unfolding swapped other
swapped-lt true zero h = omega arith
swapped-lt true (suc zero) h = omega arith
swapped-lt true (suc (suc n)) h = absurd (omega arith)
swapped-lt false c h = h

unfoldable pub has-flipped : (s : Flip) (b : Board) → HasPawn b → HasPawn (flipped s b)
unfolding flipped changed
has-flipped s b h =
    let m = keeping s.files s.colours in
    let x = s.colours in
    record {
      colour = swapped x h.colour;
      square = mapped m h.square;
      men = ap (map (changed_piece m x)) h.men;
      white-or-black = swapped-lt x h.colour h.white-or-black;
      inner = subst⁻¹ T (inner-kept m x h.square (flip-upright s.files x)) h.inner;
      side = swapped-lt x b.side h.side;
      white = mapped-on m (cond x b.black b.white) (pick x b.black b.white h.black h.white);
      black = mapped-on m (cond x b.white b.black) (pick x b.white b.black h.white h.black);
    }
  where
    pick : (x : Bool) (p q : ℕ) → p < 64 → q < 64 → cond x p q < 64
    pick true p q i j = i
    pick false p q i j = j

-- a legal board whose only man is a pawn is one of these
pub legal-has : (b : Board) (a : Piece) → b.men ≡ a ∷ [] → T (pawn a) → T (legal_with_pawn b) → HasPawn b
legal-has b a e p l =
    let f = legal_of-facts known_or_pawn b l in
    let k = of-pawn (all-out known_or_pawn (subst⁻¹ (λ (l : List Piece). a ∈ l) e (Memᴰ.head refl)) f.men) in
    record {
      colour = a.colour;
      square = a.square;
      men = e ∙ ap (λ (k : ℕ). piece_of k a.colour a.square ∷ []) (eqb→eq a.kind 4 p);
      white-or-black = ltb→lt a.colour 2 k.0;
      inner = k.1;
      side = f.side;
      white = on (piece_of 5 0 b.white) (Memᴰ.head refl) f.squares;
      black = on (piece_of 5 1 b.black) (Memᴰ.tail (Memᴰ.head refl)) f.squares;
    }
  where
    on : (c : Piece) → c ∈ pieces b → T (all (λ m. ltb m.square 64) (pieces b)) → c.square < 64
    on c i t = ltb→lt c.square 64 (all-out (λ m. ltb m.square 64) i t)

    of-pawn : T (known_or_pawn a) → T (ltb a.colour 2) × T (inner a.square)
    of-pawn t =
        ⊎_elim (λ k. let q = eqb→eq a.kind 4 p in
        let m = ltb→lt a.kind 4 (and_left (ltb a.kind 4) (ltb a.colour 2) k) in absurd (omega arith))
        (λ k. (
          and_right (pawn a) (ltb a.colour 2) (and_left (pawn a && ltb a.colour 2) (inner a.square) k),
          and_right (pawn a && ltb a.colour 2) (inner a.square) k,
        ))
        (or_cases (known a) (pawn a && ltb a.colour 2 && inner a.square) t)

-- A position with one man or two, or with a pawn, is legal exactly where no refusal applies; a legal board, keyed, is
-- not refused.
use Rattle.std.specs.Prelude.{◌≡◌, refl, Bool, true, false, cond, not, List, [], ◌∷◌, ◌++◌, ℕ, min, max, T, leb, ltb, eqb, None, Option, Some}
use Rattle.std.proofs.Common.{sym, ap, subst, ◌∙◌, ⊎_elim, arith, ltb→lt, eqb-true}
use Rattle.std.proofs.Math.Path.{subst⁻¹}
use Rattle.std.proofs.lemmas.Bool.{lt-leb}
use Rattle.finite.specs.Truth.{and_left, and_right, and_both, true_of, refuted}
use Rattle.finite.specs.Members.{all}
use Rattle.rules.specs.declared.Piece.{Piece}
use Rattle.rules.specs.Pawn.{pawn}
use Rattle.rules.specs.Rules.{Board, piece_of, known, legal, legal_with_pawn}
use Rattle.rules.specs.Reordered.{Few}
use Rattle.rules.proofs.laws.Legal.{legal-facts, legal-with-pawn}
use Rattle.numbering.specs.declared.Material.{Material}
use Rattle.numbering.specs.Men.{material_of}
use Rattle.numbering.specs.Material.{men_of, material_in, legal_in, OfMaterial}
use Rattle.numbering.specs.Material as materials
use Rattle.numbering.proofs.laws.MaterialLaws.{one-men}
use Rattle.position.specs.declared.Position.{Position}
use Rattle.position.specs.Keyed.{slot_men, board_of, slot_of, others, keyed}
use Rattle.position.specs.Refusals.{bad_men_of, standing_with}
use Rattle.position.proofs.laws.StandingWith.{pawn-or-pieces, legal-standing-with, standing-men, standing-legal, standing-legal-in}
use Rattle.four_men.specs.Same.{Manned}
use Rattle.four_men.proofs.laws.Materials.{few-of, manned-of}
use Rattle.four_men.proofs.laws.PawnWithin.{lone-pawn}

-- ---- men that 1 takes: a pawn, or pieces

pub known-not-pawn : (m : Material) → T (materials.known m) → m ≡ Material.Pawn → ⊥
known-not-pawn m t e = subst (λ (x : Material). T (materials.known x)) e t

pub men-known : (p : Position) → bad_men_of p.first p.second ≡ false
    → (material_in (board_of p).men ≡ Material.Pawn → ⊥)
    → T (materials.known (material_in (board_of p).men)) × T (all (λ a. not (pawn a)) (board_of p).men)
men-known p e n = ⊎_elim (λ f. absurd (n f)) (λ t. t) (pawn-or-pieces p e)

-- ---- where no refusal applies

-- one man or two have a material
pub has-material : (f s : Option Piece) → bad_men_of f s ≡ false
    → material_of (slot_men f ++ slot_men s) ≡ men_of (material_in (slot_men f ++ slot_men s))
unfolding material_of
has-material None s e = absurd (refuted e tt)
has-material (Some a) None e = sym (one-men a.kind)
has-material (Some a) (Some c) e =
    ap (λ (n : ℕ). piece_of (min a.kind c.kind) 0 0 ∷ piece_of (max a.kind c.kind) n 0 ∷ [])
    (flip (eqb a.colour c.colour))
  where
    flip : (x : Bool) → ◌≡◌ {A = ℕ} (cond x 0 1) (cond (not x) 1 0)
    flip true = refl
    flip false = refl

standing-of : (p : Position) → standing_with p ≡ 0 → OfMaterial (material_in (board_of p).men) (board_of p)
unfolding board_of
standing-of p z = has-material p.first p.second (standing-men p z)

pub standing-with-facts : (p : Position) → standing_with p ≡ 0
    → T (legal_in (material_in (board_of p).men) (board_of p)) × OfMaterial (material_in (board_of p).men) (board_of p)
standing-with-facts p z = (standing-legal-in p z, standing-of p z)

-- without a pawn
pub standing-pieces : (p : Position) → standing_with p ≡ 0 → (material_in (board_of p).men ≡ Material.Pawn → ⊥)
    → T (legal (board_of p)) × OfMaterial (material_in (board_of p).men) (board_of p)
standing-pieces p z n = (standing-legal p z (men-known p (standing-men p z) n).0, standing-of p z)

-- ---- a board keyed

pub keyed-back : (b : Board) → Few b.men → board_of (keyed b) ≡ b
unfolding board_of
keyed-back b f = ap (λ (ms : List Piece). record { side = b.side; white = b.white; black = b.black; men = ms })
    (go b.men f)
  where
    go : (ms : List Piece) → Few ms → slot_men (slot_of ms) ++ slot_men (slot_of (others ms)) ≡ ms
    go [] f = refl
    go (a ∷ []) f = refl
    go (a ∷ c ∷ []) f = refl
    go (a ∷ c ∷ d ∷ l) f = absurd f

kind-known : (a : Piece) → T (known a) → (leb 4 a.kind ≡ false) × (leb 5 a.kind ≡ false)
kind-known a t =
    let h = ltb→lt a.kind 4 (and_left (ltb a.kind 4) (ltb a.colour 2) t) in
    (lt-leb 4 a.kind h, lt-leb 5 a.kind (omega arith))

known-slots : (ms : List Piece) → Manned ms → T (all known ms) → bad_men_of (slot_of ms) (slot_of (others ms)) ≡ false
unfolding all
known-slots [] m t = absurd m
known-slots (a ∷ []) m t = (kind-known a (and_left (known a) true t)).1
known-slots (a ∷ c ∷ l) m t =
    rw (
      (kind-known a (and_left (known a) (all known (c ∷ l)) t)).0,
      (kind-known c (and_left (known c) (all known l) (and_right (known a) (all known (c ∷ l)) t))).0,
    )

keyed-admitted : (b : Board) → T (legal_with_pawn b) → Few b.men
    → bad_men_of (slot_of b.men) (slot_of (others b.men)) ≡ false → standing_with (keyed b) ≡ 0
keyed-admitted b l f m =
    eqb-true (standing_with (keyed b)) 0
    (sym (legal-standing-with (keyed b))
    ∙ true_of (and_both (not (bad_men_of (slot_of b.men) (slot_of (others b.men)))) (legal_with_pawn (board_of (keyed b)))
    (subst⁻¹ (λ (x : Bool). T (not x)) m tt)
    (subst⁻¹ (λ (c : Board). T (legal_with_pawn c)) (keyed-back b f) l)))

pieces-standing : (b : Board) → T (legal b) → Few b.men → Manned b.men → standing_with (keyed b) ≡ 0
pieces-standing b l f m =
    keyed-admitted b (legal-with-pawn b l) f (known-slots b.men m (legal-facts b l).men)

pub keyed-standing-with : (m : Material) → T (materials.given m) → (b : Board) → T (legal_in m b) → OfMaterial m b
    → standing_with (keyed b) ≡ 0
keyed-standing-with (Material.One kind) w b l e =
    pieces-standing b l (few-of (Material.One kind) b.men e) (manned-of (Material.One kind) b.men e)
keyed-standing-with (Material.Two j k r) w b l e =
    pieces-standing b l (few-of (Material.Two j k r) b.men e) (manned-of (Material.Two j k r) b.men e)
keyed-standing-with Material.Pawn w b l e =
    keyed-admitted b l (few-of Material.Pawn b.men e)
    (ap (λ (ms : List Piece). bad_men_of (slot_of ms) (slot_of (others ms))) (lone-pawn b e).1.1)

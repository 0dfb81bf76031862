-- A position that meets none of the refusals 1 to 5, fact by fact; it stands for a board that has a number.
use Rattle.std.specs.Prelude.{◌≡◌, refl, Bool, true, false, cond, not, ◌&&◌, ◌||◌, List, [], ◌∷◌, ℕ, ◌<◌, ◌≤◌, T, leb, ltb, eqb, None, Option, Some}
use Rattle.std.proofs.Common.{sym, ap, subst, ◌∙◌, arith, ltb→lt, leb-false, eqb-true}
use Rattle.std.proofs.Math.Path.{subst⁻¹}
use Rattle.std.proofs.lemmas.Bool.{lt-leb, eqb-false}
use Rattle.finite.specs.Truth.{and_left, and_right, true_of, refuted}
use Rattle.finite.specs.Members.{any, all}
use Rattle.board.specs.Reach.{reaches}
use Rattle.rules.specs.declared.Piece.{Piece}
use Rattle.rules.specs.Rules.{Board, piece_of, pieces, apart, touching}
use Rattle.numbering.specs.Kings.{separate}
use Rattle.numbering.specs.Men.{material_of}
use Rattle.numbering.proofs.laws.ChangeLaws.{HasNumber, coloured}
use Rattle.position.specs.declared.Position.{Position}
use Rattle.position.specs.Keyed.{board_of, man_in, man_kind, colour_of}
use Rattle.position.specs.Refusals.{bad_men, bad_man, bad_side, bad_square, shared_square, kings_touch, other_in_check, placing_refusal, standing_refusal}
use Rattle.position.proofs.laws.Legality.{one-alone, one-men, placing-pieces}

pub record WellPlaced (p : Position) : Type 0 where
  pub men : bad_man p ≡ false
  pub side : p.side < 2
  pub colours : T (all coloured (board_of p).men)
  pub squares : T (all (λ m. ltb m.square 64) (pieces (board_of p)))
  pub distinct : T (apart (pieces (board_of p)))
  pub kings : touching (board_of p) ≡ false

-- five tests in a chain of refusals
abbrev pub chain : Bool → Bool → Bool → Bool → Bool → ℕ
chain a b c d e = cond a 1 (cond b 2 (cond c 3 (cond d 4 (cond e 5 0))))

pub five : (a b c d e : Bool) → chain a b c d e ≡ 0
    → (a ≡ false) × (b ≡ false) × (c ≡ false) × (d ≡ false) × (e ≡ false)
five true b c d e z = absurd (omega arith)
five false true c d e z = absurd (omega arith)
five false false true d e z = absurd (omega arith)
five false false false true e z = absurd (omega arith)
five false false false false true z = absurd (omega arith)
five false false false false false z = (refl, refl, refl, refl, refl)

pub five-back : (a b c d e : Bool) → a ≡ false → b ≡ false → c ≡ false → d ≡ false → e ≡ false → chain a b c d e ≡ 0
five-back a b c d e p q r s t = rw (p, q, r, s, t)

pub passes : (b : Bool) → not b ≡ false → T b
passes true e = tt
passes false e = absurd (refuted e tt)

pub fulfilled : (b : Bool) → T b → not b ≡ false
fulfilled true t = refl
fulfilled false t = absurd t

pub either : (a b : Bool) → (a || not b) ≡ false → (a ≡ false) × T b
either true b e = absurd (refuted e tt)
either false true e = (refl, tt)
either false false e = absurd (refuted e tt)

pub neither : (a b : Bool) → a ≡ false → T b → (a || not b) ≡ false
neither a b e t = rw (e, true_of {b = b} t)

pub placed-facts : (p : Position) → placing_refusal p ≡ 0 → WellPlaced p
unfolding bad_side bad_square shared_square
placed-facts p z =
    let f = five (bad_man p) (bad_side p) (bad_square p) (shared_square p) (kings_touch p) (sym (placing-pieces p) ∙ z) in
    record {
      men = f.0;
      side = leb-false 2 p.side (either (leb 2 p.side) (all coloured (board_of p).men) f.1).0;
      colours = (either (leb 2 p.side) (all coloured (board_of p).men) f.1).1;
      squares = passes (all (λ m. ltb m.square 64) (pieces (board_of p))) f.2;
      distinct = passes (apart (pieces (board_of p))) f.3;
      kings = f.4;
    }

pub facts-placed : (p : Position) → WellPlaced p → placing_refusal p ≡ 0
unfolding bad_side bad_square shared_square
facts-placed p w =
    placing-pieces p
    ∙ five-back (bad_man p) (bad_side p) (bad_square p) (shared_square p) (kings_touch p) w.men
    (neither (leb 2 p.side) (all coloured (board_of p).men) (lt-leb 2 p.side w.side) w.colours)
    (fulfilled (all (λ m. ltb m.square 64) (pieces (board_of p))) w.squares)
    (fulfilled (apart (pieces (board_of p))) w.distinct) w.kings

-- ---- its board

-- the material of an ending: one man of this kind, as White's
abbrev pub ending_with : ℕ → List Piece
ending_with kind = piece_of kind 0 0 ∷ []

four : (a b c d : Bool) → T a → T b → c ≡ false → d ≡ false → T (a && b && not c && not d)
four a b c d p q e f = rw (true_of {b = a} p, true_of {b = b} q, e, f) tt

first-apart : (e f g : Bool) → T (not (e || f) && g) → e ≡ false
first-apart true f g t = absurd t
first-apart false f g t = refl

pub kings-separate : (b : Board) → T (all (λ m. ltb m.square 64) (pieces b)) → T (apart (pieces b))
    → touching b ≡ false
    → T (separate b.white b.black)
unfolding separate all apart any touching
kings-separate b on distinct kings =
    let men = all (λ m. ltb m.square 64) b.men in
    let w = ltb b.white 64 in
    let k = ltb b.black 64 in
    four w k (eqb b.white b.black) (reaches (λ s. false) 5 b.white b.black) (and_left w (k && men) on)
    (and_left k men (and_right w (k && men) on))
    (first-apart (eqb b.white b.black) (any (λ x. eqb b.white x.square) b.men)
    (apart (piece_of 5 1 b.black ∷ b.men)) distinct) kings

pub placed-material : (p : Position) → bad_man p ≡ false → material_of (board_of p).men ≡ ending_with (man_kind p)
unfolding board_of material_of
placed-material p e = ap (λ (q : Position). material_of (board_of q).men) (one-alone p e)

pub placed-has : (p : Position) → WellPlaced p → HasNumber (ending_with (man_kind p)) (board_of p)
unfolding all
placed-has p w =
    let b = board_of p in
    let men = all (λ m. ltb m.square 64) b.men in
    record {
      men = placed-material p w.men;
      side = unfold board_of in w.side;
      colours = w.colours;
      squares =
          and_right (ltb b.black 64) men (and_right (ltb b.white 64) (ltb b.black 64 && men) w.squares);
      kings = kings-separate b w.squares w.distinct w.kings;
    }

pub placed-kind : (p : Position) → bad_man p ≡ false → man_kind p < 4
placed-kind p e = kind p.first p.second e
  where
    kind : (f s : Option Piece) → bad_men f s ≡ false → (man_in f).kind < 4
    kind None s e = absurd (refuted e tt)
    kind (Some m) (Some n) e = absurd (refuted e tt)
    kind (Some m) None e = leb-false 4 m.kind e

pub placed-colour : (p : Position) → WellPlaced p → colour_of p < 2
unfolding all
placed-colour p w =
    ltb→lt (colour_of p) 2
    (and_left (ltb (colour_of p) 2) true
    (subst (λ (l : List Piece). T (all coloured l)) (one-men p w.men) w.colours))

-- what stands is placed
pub standing-placed : (p : Position) → standing_refusal p ≡ 0 → placing_refusal p ≡ 0
unfolding standing_refusal
standing-placed p z = eqb-true (placing_refusal p) 0 (go (eqb (placing_refusal p) 0) refl z)
  where
    go : (a : Bool) → eqb (placing_refusal p) 0 ≡ a → cond a (cond (other_in_check p) 6 0) (placing_refusal p) ≡ 0
        → a ≡ true
    go true e z = refl
    go false e z = absurd (eqb-false (placing_refusal p) 0 e z)

-- ---- no refusal of a position is above 6

pub five-most : (a b c d e : Bool) → chain a b c d e ≤ 5
five-most true b c d e = omega arith
five-most false true c d e = omega arith
five-most false false true d e = omega arith
five-most false false false true e = omega arith
five-most false false false false true = omega arith
five-most false false false false false = omega arith

pub placing-most : (p : Position) → placing_refusal p ≤ 5
placing-most p =
    subst⁻¹ (λ (n : ℕ). n ≤ 5) (placing-pieces p)
    (five-most (bad_man p) (bad_side p) (bad_square p) (shared_square p) (kings_touch p))

pub standing-most : (p : Position) → standing_refusal p ≤ 6
unfolding standing_refusal
standing-most p = six (eqb (placing_refusal p) 0) (other_in_check p) (placing_refusal p) (placing-most p)
  where
    six : (a b : Bool) (n : ℕ) → n ≤ 5 → cond a (cond b 6 0) n ≤ 6
    six true true n h = omega arith
    six true false n h = omega arith
    six false b n h = omega arith

-- Numbers, for one man and for two, and for a pawn: positions of one ending have one number exactly if a change makes one into the
-- other, and each used number leads back to a position that bears it (demand 2).
use Rattle.std.specs.Prelude.{◌≡◌, refl, Bool, true, false, cond, ◌&&◌, ◌↔◌, map, ℕ, ◌<◌, leb, Err, Ok, Result}
use Rattle.std.proofs.Common.{sym, subst, ◌∙◌, arith, lt→ltb}
use Rattle.std.proofs.Math.Path.{ap, subst⁻¹}
use Rattle.std.proofs.Math.Bool.{not}
use Rattle.std.proofs.Math.Dec.{T, ltb, leb→le, ltb→lt}
use borrow.Author.Tests.{eq-eqb, ne_eqb, lt-leb, leb-false}
use Rattle.finite.specs.Truth.{and_left, and_right, and_both, of-true}
use Rattle.finite.specs.Members.{all}
use Rattle.rules.specs.Pawn.{pawn}
use Rattle.rules.specs.Rules.{Board, pieces, apart, touching}
use Rattle.position.specs.declared.Position.{Position}
use Rattle.position.specs.Keyed.{board_of}
use Rattle.position.proofs.laws.Legality.{pawnless-placed}
use Rattle.position.proofs.laws.PlacedLaws.{kings-separate}
use Rattle.numbering.specs.Keys.{unplaced, men_at, board_at}
use Rattle.numbering.specs.Number.{number_of, used}
use Rattle.numbering.proofs.laws.Numberable.{Numberable, separate-white, separate-black, separate-touching}
use Rattle.numbering.proofs.laws.ChangeLaws.{HasNumber, coloured}
use Rattle.numbering.proofs.laws.ClassLaws as classes
use Rattle.numbering.proofs.laws.AtLaws.{numberable-at, used-number}
use Rattle.index.specs.NumberLaws.{SameClass}
use Rattle.index.proofs.laws.CompleteLaws.{PlacedOf, placed-facts-with, facts-placed-with}
use Rattle.position.specs.Keyed.{slot_of, others, keyed}
use Rattle.numbering.specs.declared.Material.{Material}
use Rattle.numbering.specs.Material.{known, given, men_of, material_in, size_of}
use Rattle.position.specs.Refusals.{bad_men_of, placing_with}
use Rattle.index.specs.Answers.{number_with, placed_with}
use Rattle.index.specs.Endings.{number_in, board_for, used_in}
use Rattle.index.proofs.laws.PawnLaws.{placed-pawn, keyed-at, used-placed}
use Rattle.pawn_numbers.specs.PawnNumber.{pawn_number, pawn_board}
use Rattle.pawn_numbers.proofs.laws.BackLaws.{board-number}
use Rattle.pawn_numbers.proofs.laws.SameNumber as pawns
use Rattle.numbering.proofs.laws.MaterialLaws.{known-given}
use Rattle.four_men.specs.Numbers.{BearsOf, SameClassIn}
use Rattle.four_men.proofs.laws.Materials.{size_is, own-material, material-in, few-of}
use Rattle.four_men.proofs.laws.Numbered.{material-at}
use Rattle.four_men.proofs.laws.Standing.{has-material, keyed-back}

-- ---- a position that meets none of the refusals 1 to 5

placed-has-with : (p : Position) → placing_with p ≡ 0 → HasNumber (men_of (material_in (board_of p).men)) (board_of p)
unfolding all
placed-has-with p z =
    let w = placed-facts-with p z in
    let b = board_of p in
    let men = all (λ m. ltb m.square 64) b.men in
    record {
      men = unfold board_of in has-material p.first p.second w.men;
      side = unfold board_of in w.side;
      colours = w.colours;
      squares =
          and_right (ltb b.black 64) men (and_right (ltb b.white 64) (ltb b.black 64 && men) w.squares);
      kings = kings-separate b w.squares w.distinct w.kings;
    }

-- ---- demand 2's sameness

number-with-is : (m : Material) (p : Position) → material_in (board_of p).men ≡ m → placing_with p ≡ 0
    → number_with p ≡ Ok (number_in m (board_of p))
unfolding number_with
number-with-is m p e z = rw (eq-eqb (placing_with p) 0 z, e)

module _ (p q : Position) (y : placing_with p ≡ 0) (z : placing_with q ≡ 0) where
  -- one number answered is one number
  one_number : (m : Material) → material_in (board_of p).men ≡ m → material_in (board_of q).men ≡ m
      → number_with p ≡ number_with q → number_in m (board_of p) ≡ number_in m (board_of q)
  one_number m e f g = cc (sym (number-with-is m p e y) ∙ g ∙ number-with-is m q f z)

  -- of pieces
  module _ (m : Material) (e : material_in (board_of p).men ≡ m) (f : material_in (board_of q).men ≡ m)
      (by : number_in m ≡ number_of) where
    is_number : (r : Position) → material_in (board_of r).men ≡ m → placing_with r ≡ 0
        → number_with r ≡ Ok (number_of (board_of r))
    is_number r k x = number-with-is m r k x ∙ ap (λ (g : Board → ℕ). Ok (g (board_of r))) by

    same-pieces : (number_with p ≡ number_with q) ↔ SameClass p q
    same-pieces = (there, here)
      where
        there : number_with p ≡ number_with q → SameClass p q
        there g =
            let n : number_of (board_of p) ≡ number_of (board_of q)
            = subst (λ (h : Board → ℕ). h (board_of p) ≡ h (board_of q)) by (one_number m e f g) in
            let h = subst (λ (m : Material). HasNumber (men_of m) (board_of p)) (e ∙ sym f) (placed-has-with p y) in
            let c = (classes.same_number (board_of p) (board_of q) h (placed-has-with q z)).0 n in
            (c.0, sym c.1)

        here : SameClass p q → number_with p ≡ number_with q
        here s =
            is_number p e y
            ∙ ap Ok
            (sym (ap number_of s.1 ∙ classes.number-along s.0 (board_of p) (placed-has-with p y)))
            ∙ sym (is_number q f z)

  -- of a pawn
  same-pawn : material_in (board_of p).men ≡ Material.Pawn → material_in (board_of q).men ≡ Material.Pawn
      → (number_with p ≡ number_with q) ↔ SameClassIn Material.Pawn p q
  same-pawn e f =
      let w = pawns.same_number (board_of p) (board_of q) (placed-pawn p y e) (placed-pawn q z f) in (
        λ g. let s = w.0 (one_number Material.Pawn e f g) in (s.0, sym s.1),
        λ s. number-with-is Material.Pawn p e y ∙ ap Ok (w.1 (s.0, sym s.1))
            ∙ sym (number-with-is Material.Pawn q f z),
      )

  same_by : (m : Material) → material_in (board_of p).men ≡ m → material_in (board_of q).men ≡ m
      → (number_with p ≡ number_with q) ↔ SameClassIn m p q
  same_by (Material.One kind) e f = same-pieces (Material.One kind) e f refl
  same_by (Material.Two j k r) e f = same-pieces (Material.Two j k r) e f refl
  same_by Material.Pawn e f = same-pawn e f

-- POSITIONS OF ONE ENDING HAVE ONE NUMBER EXACTLY IF A CHANGE MAKES ONE INTO THE OTHER: a map, like men exchanged, the
-- colours exchanged but for like kinds one each; with a pawn, the files reversed, the colours exchanged, or both.
pub same-number-with : (p q : Position) → placing_with p ≡ 0 → placing_with q ≡ 0
    → material_in (board_of p).men ≡ material_in (board_of q).men
    → (number_with p ≡ number_with q) ↔ SameClassIn (material_in (board_of p).men) p q
same-number-with p q y z e = same_by p q y z (material_in (board_of p).men) refl (sym e)

-- ---- numbering back

module _ (m : Material) (w : T (known m)) (n : ℕ) (h : n < size_of m) (u : T (used (board_at (men_of m) n))) where
  abbrev board : Board
  board = board_at (men_of m) n

  numberable : Numberable (men_of m) board
  numberable = numberable-at (men_of m) n (plain m) (subst⁻¹ (λ (k : ℕ). n < k) (size_is m w) h)
    where
      plain : (m : Material) → map unplaced (men_of m) ≡ men_of m
      plain (Material.One kind) = refl
      plain (Material.Two j k r) = refl
      plain Material.Pawn = refl

  board-back : board_of (keyed board) ≡ board
  board-back = keyed-back board (few-of m board.men (material-at m w n))

  men-good : bad_men_of (slot_of board.men) (slot_of (others board.men)) ≡ false
  men-good = go m w
    where
      go : (m : Material) → T (known m)
          → bad_men_of (slot_of (board_at (men_of m) n).men) (slot_of (others (board_at (men_of m) n).men)) ≡ false
      go (Material.One kind) t =
          let h = ltb→lt kind 4 t in unfold board_at men_at in lt-leb 5 kind (omega arith)
      go (Material.Two j k r) t =
          let a = leb→le j k (and_left (leb j k) (ltb k 4) t) in
          let b = ltb→lt k 4 (and_right (leb j k) (ltb k 4) t) in
          unfold board_at men_at in rw (lt-leb 4 j (omega arith), lt-leb 4 k b)
      go Material.Pawn t = absurd t

  men-coloured : T (all coloured board.men)
  men-coloured = go m
    where
      go : (m : Material) → T (all coloured (board_at (men_of m) n).men)
      go (Material.One kind) = unfold board_at men_at all in tt
      go (Material.Two j k true) = unfold board_at men_at all in tt
      go (Material.Two j k false) = unfold board_at men_at all in tt
      go Material.Pawn = unfold board_at men_at all in tt

  no-pawns : T (all (λ a. not (pawn a)) board.men)
  no-pawns = go m w
    where
      go : (m : Material) → T (known m) → T (all (λ a. not (pawn a)) (board_at (men_of m) n).men)
      go (Material.One kind) t =
          let h = ltb→lt kind 4 t in unfold board_at men_at all in rw (ne_eqb kind 4 (λ z. absurd (omega (arith, z)))) tt
      go (Material.Two j k r) t =
          let a = leb→le j k (and_left (leb j k) (ltb k 4) t) in
          let b = ltb→lt k 4 (and_right (leb j k) (ltb k 4) t) in
          unfold board_at men_at all in
          rw (ne_eqb j 4 (λ z. absurd (omega (arith, z, a, b))), ne_eqb k 4 (λ z. absurd (omega (arith, z, b)))) tt
      go Material.Pawn t = elim t [ ]

  on-board : T (all (λ a. ltb a.square 64) (pieces board))
  unfolding all
  on-board =
      and_both (ltb board.white 64) _
      (lt→ltb board.white 64 (separate-white board.white board.black numberable.kings))
      (and_both (ltb board.black 64) _
      (lt→ltb board.black 64 (separate-black board.white board.black numberable.kings))
      numberable.squares)

  placed-there : PlacedOf (keyed board)
  unfolding used touching
  placed-there = record {
    men = men-good;
    side = numberable.side;
    colours = subst⁻¹ (λ (c : Board). T (all coloured c.men)) board-back men-coloured;
    squares = subst⁻¹ (λ (c : Board). T (all (λ a. ltb a.square 64) (pieces c))) board-back on-board;
    pawns = pawnless-placed (keyed board)
        (subst⁻¹ (λ (c : Board). T (all (λ a. not (pawn a)) c.men)) board-back no-pawns);
    distinct = subst⁻¹ (λ (c : Board). T (apart (pieces c))) board-back (and_left (apart (pieces board)) _ u);
    kings = subst⁻¹ (λ (c : Board). touching c ≡ false) board-back
        (separate-touching board.white board.black numberable.kings);
  }

  used-pieces : (number : number_in m ≡ number_of) → BearsOf m n (keyed board)
  used-pieces by = record {
    ending = ap (λ (c : Board). material_in c.men) board-back
        ∙ material-in m (known-given m w) board.men (material-at m w n);
    placed = facts-placed-with (keyed board) placed-there;
    number = ap (λ (g : Board → ℕ). g (board_of (keyed board))) by
        ∙ ap number_of board-back ∙ used-number (own-material m w) n u;
  }

-- a used number leads to a position that bears it
pub used-bears-with : (m : Material) → T (given m) → (n : ℕ) → n < size_of m → T (used_in m n)
    → BearsOf m n (keyed (board_for m n))
used-bears-with (Material.One kind) w n h u = used-pieces (Material.One kind) w n h u refl
used-bears-with (Material.Two j k r) w n h u = used-pieces (Material.Two j k r) w n h u refl
used-bears-with Material.Pawn w n h u = record {
  ending = ap (λ (c : Board). material_in c.men) (keyed-at n) ∙ (unfold pawn_board in refl);
  placed = used-placed n u;
  number = ap pawn_number (keyed-at n) ∙ board-number n h;
}

found : (a b c : Bool) (p q : Position)
    → cond {A = Result Position ℕ} (not a) (Err 1) (cond b (Err 8) (cond c (Ok q) (Err 9)))
    ≡ Ok p
    → (a ≡ true) × (b ≡ false) × (c ≡ true) × (q ≡ p)
found false b c p q e = let z : ◌≡◌ {A = ℕ} 0 1 = cc in absurd (omega arith)
found true true c p q e = let z : ◌≡◌ {A = ℕ} 0 1 = cc in absurd (omega arith)
found true false false p q e = let z : ◌≡◌ {A = ℕ} 0 1 = cc in absurd (omega arith)
found true false true p q e = let z : q ≡ p = cc in (refl, refl, refl, z)

-- EACH USED NUMBER LEADS BACK TO A POSITION THAT BEARS IT.
pub number-back-with : (m : Material) (n : ℕ) (p : Position) → placed_with m n ≡ Ok p → BearsOf m n p
unfolding placed_with
number-back-with m n p e =
    let f = found (given m) (leb (size_of m) n) (used_in m n) p (keyed (board_for m n)) e in
    subst (BearsOf m n) f.3
    (used-bears-with m (of-true f.0) n (leb-false (size_of m) n f.1) (of-true f.2))

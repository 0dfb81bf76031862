-- An ending's men on the board, none missing: complete where no two share a square and the kings are apart, and every
-- complete place is so seated.
use Rattle.std.proofs.Math.Path.{◌≡◌, refl, subst⁻¹}
use Rattle.std.proofs.Common.{ap, subst, sym, ◌∙◌, arith}
use Rattle.std.specs.Prelude.{Bool, cond, ◌&&◌, ◌||◌, [], ◌∷◌, ◌++◌, ℕ, zero, suc, ◌<◌, ◌≤◌, min, max, leb, eqb, None, Some}
use Rattle.std.proofs.Math.Bool.{true, false, not}
use Rattle.std.proofs.Math.Dec.{T, ltb, lt→ltb}
use borrow.Author.Tests.{lt-leb, leb-false, ne_eqb}
use Rattle.finite.specs.Truth.{and_left, and_right, and_both, refuted, of-true}
use Rattle.finite.specs.Members.{all}
use Rattle.rules.specs.Pawn.{pawn}
use Rattle.rules.specs.Rules.{Board, piece_of, pieces, apart, touching}
use Rattle.numbering.specs.declared.Material.{Material}
use Rattle.numbering.specs.Kings.{separate}
use Rattle.numbering.specs.Keys.{board_at}
use Rattle.numbering.specs.Men.{material_of}
use Rattle.numbering.specs.Material.{one_of, men_of}
use Rattle.numbering.proofs.laws.MaterialLaws.{one-men}
use Rattle.numbering.specs.Number.{used}
use Rattle.numbering.proofs.laws.Numberable.{separate-white, separate-black, separate-touching, ruled-separate}
use Rattle.numbering.proofs.laws.ChangeLaws.{HasNumber, coloured, pieces-eq}
use Rattle.numbering.proofs.laws.AtLaws.{ruled-at}
use Rattle.position.specs.declared.Position.{Position}
use Rattle.position.specs.declared.Men.{Men}
use Rattle.position.specs.declared.Place.{Place}
use Rattle.position.specs.Keyed.{slot_men, board_of}
use Rattle.position.specs.Refusals.{bad_men_of, bad_side, bad_square, bad_pawn, shared_square, kings_touch, placing_with}
use Rattle.position.specs.Posed.{posed, board_in, material_for, Complete}
use Rattle.position.proofs.laws.BothSizes.{six, six-back}
use Rattle.position.proofs.laws.Legality.{pawnless-placed}
use Rattle.position.proofs.laws.PlacedLaws.{passes, fulfilled, either, neither, kings-separate}
use Rattle.index.specs.Seats.{Seated, StandsAt, alone, shares}
use Rattle.index.proofs.laws.NormalKey.{one_board, pair_board}
use Rattle.index.proofs.laws.SeatLaws.{board-one, board-two, known-one, known_two}
use Rattle.index.proofs.laws.PlaceLaws.{material-by, kings-apart as kings-differ, apart-shares}

-- ---- a position that meets none of the refusals 1 to 5 and 18, with one man or two

pub record PlacedOf (p : Position) : Type 0 where
  pub men : bad_men_of p.first p.second ≡ false
  pub side : p.side < 2
  pub colours : T (all coloured (board_of p).men)
  pub squares : T (all (λ m. ltb m.square 64) (pieces (board_of p)))
  pub pawns : bad_pawn p ≡ false
  pub distinct : T (apart (pieces (board_of p)))
  pub kings : touching (board_of p) ≡ false

pub placed-facts-with : (p : Position) → placing_with p ≡ 0 → PlacedOf p
unfolding placing_with bad_side bad_square shared_square
placed-facts-with p z =
    let f = six (bad_men_of p.first p.second) (bad_side p) (bad_square p) (bad_pawn p) (shared_square p) (kings_touch p)
    z in
    record {
      men = f.0;
      side = leb-false 2 p.side (either (leb 2 p.side) (all coloured (board_of p).men) f.1).0;
      colours = (either (leb 2 p.side) (all coloured (board_of p).men) f.1).1;
      squares = passes (all (λ m. ltb m.square 64) (pieces (board_of p))) f.2;
      pawns = f.3;
      distinct = passes (apart (pieces (board_of p))) f.4;
      kings = f.5;
    }

pub facts-placed-with : (p : Position) → PlacedOf p → placing_with p ≡ 0
unfolding placing_with bad_side bad_square shared_square
facts-placed-with p w =
    six-back (bad_men_of p.first p.second) (bad_side p) (bad_square p) (bad_pawn p) (shared_square p) (kings_touch p)
    w.men
    (neither (leb 2 p.side) (all coloured (board_of p).men) (lt-leb 2 p.side w.side) w.colours)
    (fulfilled (all (λ m. ltb m.square 64) (pieces (board_of p))) w.squares) w.pawns
    (fulfilled (apart (pieces (board_of p))) w.distinct) w.kings

-- ---- the men of a seated place

one-material : (kind x : ℕ) → material_of (piece_of kind 0 x ∷ []) ≡ men_of (one_of kind)
unfolding material_of
one-material kind x = sym (one-men kind)

rival : (d : ℕ) → d < 2 → ◌≡◌ {A = ℕ} (cond (eqb 0 d) 0 1) (cond (eqb d 1) 1 0)
rival zero h = refl
rival (suc zero) h = refl
rival (suc (suc n)) h = absurd (omega arith)

pair-material : (j k d x y : ℕ) → j ≤ k → d < 2
    → material_of (piece_of j 0 x ∷ piece_of k d y ∷ []) ≡ men_of (Material.Two j k (eqb d 1))
unfolding material_of
pair-material j k d x y h l =
    let p : min j k ≡ j = omega arith in
    let r : max j k ≡ k = omega arith in
    pieces-eq p refl r (rival d l)

module _ (m : Men) (q : Place) (s : Seated m q) where
  -- a claim about the board, for one man and for two
  by_size : (P : Board → Type 0)
      → (leb 4 m.second ≡ true → P (one_board m.first q.side q.white q.black q.first))
      → (leb 4 m.second ≡ false
      → P (pair_board m.first m.second m.colour q.side q.white q.black q.first q.second))
      → P (board_in m q)
  by_size P one two = go (alone q) refl
    where
      go : (e : Bool) → alone q ≡ e → P (board_in m q)
      go true e = subst⁻¹ P (board-one m q s.first e) (one (sym s.second ∙ e))
      go false e = subst⁻¹ P (board-two m q s.first e) (two (sym s.second ∙ e))

  second-on : leb 4 m.second ≡ false → q.second < 64
  second-on e = leb-false 64 q.second (s.second ∙ e)

  pub seated-material : material_of (board_in m q).men ≡ men_of (material_for m)
  seated-material =
      by_size (λ (b : Board). material_of b.men ≡ men_of (material_for m)) (λ e. one e) (λ e. two e)
    where
      one : leb 4 m.second ≡ true → material_of (piece_of m.first 0 q.first ∷ []) ≡ men_of (material_for m)
      one e = one-material m.first q.first ∙ sym (ap men_of (material-by m true e))

      two : leb 4 m.second ≡ false
          → material_of (piece_of m.first 0 q.first ∷ piece_of m.second m.colour q.second ∷ [])
          ≡ men_of (material_for m)
      two e =
          pair-material m.first m.second m.colour q.first q.second (known_two m s.ending e).0
          s.colour
          ∙ sym (ap men_of (material-by m false e))

  men-coloured : T (all coloured (board_in m q).men)
  unfolding all
  men-coloured =
      by_size (λ (b : Board). T (all coloured b.men)) (λ e. tt)
      (λ e. and_both (ltb m.colour 2) true (lt→ltb m.colour 2 s.colour) tt)

  on-board : T (all (λ a. ltb a.square 64) (pieces (board_in m q)))
  unfolding all
  on-board =
      by_size (λ (b : Board). T (all (λ a. ltb a.square 64) (pieces b)))
      (λ e. kings (ltb q.first 64 && true) (and_both (ltb q.first 64) true first tt))
      (λ e. kings (ltb q.first 64 && (ltb q.second 64 && true))
      (and_both (ltb q.first 64) (ltb q.second 64 && true) first
      (and_both (ltb q.second 64) true (lt→ltb q.second 64 (second-on e)) tt)))
    where
      first : T (ltb q.first 64)
      first = lt→ltb q.first 64 s.first

      kings : (x : Bool) → T x → T (ltb q.white 64 && (ltb q.black 64 && x))
      kings x t =
          and_both (ltb q.white 64) (ltb q.black 64 && x) (lt→ltb q.white 64 s.white)
          (and_both (ltb q.black 64) x (lt→ltb q.black 64 s.black) t)

  men-good : bad_men_of (posed m q).first (posed m q).second ≡ false
  unfolding posed
  men-good = rw (lt-leb 64 q.first s.first) (go (alone q) refl)
    where
      go : (e : Bool) → alone q ≡ e
          → bad_men_of (Some (piece_of m.first 0 q.first))
          (cond e None (Some (piece_of m.second m.colour q.second))) ≡ false
      go true e =
          let h = (known-one m s.ending (sym s.second ∙ e)).0 in
          lt-leb 5 m.first (omega (arith, h))
      go false e =
          let k = known_two m s.ending (sym s.second ∙ e) in
          let h : m.first < 4 = omega (arith, k.0, k.1) in
          rw (lt-leb 4 m.first h, lt-leb 4 m.second k.1)

  -- none is a pawn
  no-pawns : T (all (λ a. not (pawn a)) (board_in m q).men)
  unfolding all
  no-pawns =
      by_size (λ (b : Board). T (all (λ a. not (pawn a)) b.men))
      (λ e. let h = (known-one m s.ending e).0 in rw (ne_eqb m.first 4 (λ z. absurd (omega (arith, z)))) tt)
      (λ e.
      let k = known_two m s.ending e in
      let i : m.first < 4 = omega (arith, k.0, k.1) in
      let j = k.1 in
      rw (
        ne_eqb m.first 4 (λ z. absurd (omega (arith, z))),
        ne_eqb m.second 4 (λ z. absurd (omega (arith, z))),
      ) tt)

  -- ---- it is complete where the kings are apart and no two share a square

  pub seated-complete : q.side < 2 → T (separate q.white q.black) → T (apart (pieces (board_in m q)))
      → Complete m q
  seated-complete h k a = record {
    ending = s.ending;
    colour = s.colour;
    men = seated-material;
    placed = facts-placed-with (posed m q) (record {
      men = men-good;
      side = unfold posed in h;
      colours = men-coloured;
      squares = on-board;
      pawns = pawnless-placed (posed m q) no-pawns;
      distinct = a;
      kings = unfold touching board_of posed in separate-touching q.white q.black k;
    });
  }

-- what stands at a used number is complete
pub used-complete : (m : Men) (n : ℕ) (q : Place) → StandsAt m n q → T (used (board_at (men_of (material_for m)) n))
    → Complete m q
unfolding used board_of posed
used-complete m n q a u =
    let b = board_at (men_of (material_for m)) n in
    seated-complete m q a.seated a.side
    (subst⁻¹ (λ (c : Board). T (separate c.white c.black)) a.board
    (ruled-separate b.white b.black (ruled-at (men_of (material_for m)) n)))
    (subst⁻¹ (λ (c : Board). T (apart (pieces c))) a.board (and_left (apart (pieces b)) _ u))

-- what stands at a number, used or not, is complete where no two share a square
pub shared-complete : (m : Men) (n : ℕ) (q : Place) → StandsAt m n q → shares q ≡ false → Complete m q
unfolding board_of posed
shared-complete m n q a e =
    let b = board_at (men_of (material_for m)) n in
    seated-complete m q a.seated a.side
    (subst⁻¹ (λ (c : Board). T (separate c.white c.black)) a.board
    (ruled-separate b.white b.black (ruled-at (men_of (material_for m)) n)))
    (of-true (apart-shares m q a.seated (kings-differ m n q a) ∙ ap not e))

-- ---- every complete place is seated, and its board has a number

module _ (m : Men) (q : Place) (w : Complete m q) where
  abbrev facts : PlacedOf (posed m q)
  facts = placed-facts-with (posed m q) w.placed

  kings-apart : T (separate q.white q.black)
  unfolding board_of posed
  kings-apart = kings-separate (board_in m q) facts.squares facts.distinct facts.kings

  first-there : q.first < 64
  unfolding posed
  first-there = leb-false 64 q.first (go (leb 64 q.first) facts.men)
    where
      go : (e : Bool)
          → bad_men_of (cond e None (Some (piece_of m.first 0 q.first))) (posed m q).second ≡ false
          → e ≡ false
      go true z = absurd (refuted z tt)
      go false z = refl

  -- the second is there exactly if the ending has two
  second-there : leb 64 q.second ≡ leb 4 m.second
  unfolding board_of posed
  second-there =
      go (leb 64 q.second) (leb 4 m.second) refl
      (subst (λ (e : Bool). bad_men_of (cond e None (Some (piece_of m.first 0 q.first))) (posed m q).second
      ≡ false) (lt-leb 64 q.first first-there) facts.men)
      (subst (λ (e : Bool). material_of
      (slot_men (cond e None (Some (piece_of m.first 0 q.first))) ++ slot_men (posed m q).second)
      ≡ men_of (material_for m)) (lt-leb 64 q.first first-there) w.men)
    where
      either-false : (a b : Bool) → (a || b) ≡ false → b ≡ false
      either-false true b e = absurd (refuted e tt)
      either-false false b e = e

      go : (e f : Bool) → leb 4 m.second ≡ f
          → bad_men_of (Some (piece_of m.first 0 q.first))
          (cond e None (Some (piece_of m.second m.colour q.second))) ≡ false
          → material_of (piece_of m.first 0 q.first
          ∷ slot_men (cond e None (Some (piece_of m.second m.colour q.second))))
          ≡ men_of (cond f (one_of m.first) (Material.Two m.first m.second (eqb m.colour 1)))
          → e ≡ f
      go true true g z n = refl
      go false false g z n = refl
      go false true g z n = absurd (refuted (sym g ∙ either-false (leb 4 m.first) (leb 4 m.second) z) tt)
      go true false g z n =
          let y : piece_of m.first 0 0 ∷ []
          ≡ piece_of m.first 0 0 ∷ piece_of m.second (cond (eqb m.colour 1) 1 0) 0 ∷ [] =
          unfold material_of in n in
          let x : ◌≡◌ {A = ℕ} 0 1 = cc in absurd (omega arith)

  pub complete-seated : Seated m q
  complete-seated = record {
    ending = w.ending;
    colour = w.colour;
    white = separate-white q.white q.black kings-apart;
    black = separate-black q.white q.black kings-apart;
    first = first-there;
    second = second-there;
  }

  pub complete-has : HasNumber (men_of (material_for m)) (board_in m q)
  unfolding all
  complete-has =
      let b = board_in m q in
      let men = all (λ a. ltb a.square 64) b.men in
      record {
        men = w.men;
        side = unfold board_of in facts.side;
        colours = facts.colours;
        squares = and_right (ltb b.black 64) men
            (and_right (ltb b.white 64) (ltb b.black 64 && men) facts.squares);
        kings = kings-separate b facts.squares facts.distinct facts.kings;
      }

-- What stands at a number, for one man and for two, and whether the number is used.
use Rattle.std.specs.Prelude.{◌≡◌, Bool, true, cond, ◌||◌, [], ◌∷◌, ℕ, zero, suc, ◌/◌, ◌%◌, ◌<◌, ◌≤◌, T}
use Rattle.std.proofs.Math.Path.{refl, ap, ap₂, subst, subst⁻¹, sym}
use Rattle.std.proofs.Common.{◌∙◌}
use Rattle.std.proofs.Math.Bool.{false, not, ◌&&◌}
use native.Mathlib.Omega.{arith}
use Rattle.std.proofs.Math.Dec.{leb, eqb}
use borrow.Author.Tests.{lt-leb, le-leb, leb-true, ne_eqb}
use Rattle.finite.specs.Truth.{refuted}
use Rattle.finite.specs.Members.{any}
use Rattle.rules.specs.Rules.{Board, piece_of, pieces, apart}
use Rattle.rules.proofs.laws.Changed.{board-eq}
use Rattle.numbering.specs.declared.Material.{Material}
use Rattle.numbering.specs.Kings.{kings_of}
use Rattle.numbering.specs.Keys.{leading, men_at, board_at}
use Rattle.numbering.specs.Material.{known, one_of, men_of, size_of}
use Rattle.numbering.proofs.laws.MaterialLaws.{one_piece, one_known}
use Rattle.numbering.specs.Number.{number_of, used}
use Rattle.numbering.proofs.laws.PairLaws.{kings-of}
use Rattle.numbering.proofs.laws.Numberable.{separate-apart, ruled-separate}
use Rattle.numbering.proofs.laws.AtLaws.{key-at, ruled-at}
use Rattle.position.specs.declared.Men.{Men}
use Rattle.position.specs.declared.Place.{Place}
use Rattle.position.specs.Keyed.{board_of}
use Rattle.position.specs.Posed.{posed, board_in, material_for}
use Rattle.index.specs.Seats.{Seated, StandsAt, alone, seat_of, shares}
use Rattle.index.proofs.laws.NormalKey.{one_board, pair_board}
use Rattle.index.proofs.laws.SeatLaws.{board-one, board-two}

-- ---- the place of a number

abbrev material_by : Bool → Men → Material
material_by e m = cond e (one_of m.first) (Material.Two m.first m.second (eqb m.colour 1))

pub material-by : (m : Men) (e : Bool) → leb 4 m.second ≡ e → material_for m ≡ material_by e m
material-by m e h = ap (λ (x : Bool). material_by x m) h

side-fits : (lead : ℕ) → lead < 924 → lead / 462 % 2 ≡ lead / 462
side-fits lead h = omega arith

colour-is : (c : ℕ) → c < 2 → c ≡ cond (eqb c 1) 1 0
colour-is zero h = refl
colour-is (suc zero) h = refl
colour-is (suc (suc n)) h = absurd (omega arith)

-- one man of a known ending is a piece
pub piece-by : (m : Men) → T (known (material_for m)) → leb 4 m.second ≡ true → material_for m ≡ Material.One m.first
piece-by m w e =
    let t = subst (λ (x : Material). T (known x)) (material-by m true e) w in
    material-by m true e ∙ one_piece m.first (one_known m.first t)

module _ (m : Men) (c : m.colour < 2) (n : ℕ) where
  one-board : n < 59136
      → one_board m.first (n / 64 / 462 % 2) (kings_of (n / 64 % 462) / 64) (kings_of (n / 64 % 462) % 64) (n % 64)
      ≡ board_at (men_of (Material.One m.first)) n
  unfolding board_at leading men_at
  one-board h = board-eq (side-fits (n / 64) (omega arith)) refl refl refl

  two-board : n < 3784704
      → pair_board m.first m.second m.colour (n / 64 / 64 / 462 % 2) (kings_of (n / 64 / 64 % 462) / 64)
      (kings_of (n / 64 / 64 % 462) % 64) (n / 64 % 64) (n % 64)
      ≡ board_at (men_of (Material.Two m.first m.second (eqb m.colour 1))) n
  unfolding board_at leading men_at
  two-board h =
      board-eq (side-fits (n / 64 / 64) (lead-fits (n / 64) (omega arith))) refl refl
      (ap (λ (d : ℕ). piece_of m.first 0 (n / 64 % 64) ∷ piece_of m.second d (n % 64) ∷ [])
      (colour-is m.colour c))
    where
      lead-fits : (k : ℕ) → k < 59136 → k / 64 < 924
      lead-fits k h = omega arith

module _ (m : Men) (w : T (known (material_for m))) (c : m.colour < 2) (n : ℕ) (h : n < size_of (material_for m)) where
  pub stands_one : 4 ≤ m.second → StandsAt m n (seat_of (n / 64) (n % 64) 64)
  unfolding seat_of
  stands_one k =
      let e = le-leb 4 m.second k in
      let f : n % 64 < 64 = omega arith in
      let kings = kings-of (n / 64 % 462) (omega arith) in
      let l : n < 59136 = subst (λ (x : Material). n < size_of x) (piece-by m w e) h in
      record {
        seated = record {
          ending = w;
          colour = c;
          white = kings.white;
          black = kings.black;
          first = f;
          second = sym e;
        };
        side = omega arith;
        board = board-one m (seat_of (n / 64) (n % 64) 64) f refl ∙ one-board m c n l
            ∙ ap (λ (x : Material). board_at (men_of x) n) (sym (piece-by m w e));
      }

  pub stands-two : m.second < 4 → StandsAt m n (seat_of (n / 64 / 64) (n / 64 % 64) (n % 64))
  unfolding seat_of
  stands-two k =
      let e = lt-leb 4 m.second k in
      let f : n / 64 % 64 < 64 = omega arith in
      let s : leb 64 (n % 64) ≡ false = lt-leb 64 (n % 64) (omega arith) in
      let kings = kings-of (n / 64 / 64 % 462) (omega arith) in
      let l : n < 3784704 = subst (λ (x : Material). n < size_of x) (material-by m false e) h in
      record {
        seated = record {
          ending = w;
          colour = c;
          white = kings.white;
          black = kings.black;
          first = f;
          second = s ∙ sym e;
        };
        side = omega arith;
        board = board-two m (seat_of (n / 64 / 64) (n / 64 % 64) (n % 64)) f s ∙ two-board m c n l
            ∙ ap (λ (x : Material). board_at (men_of x) n) (sym (material-by m false e));
      }

-- ---- used numbers

-- a piece off the board is on no square of it
off : (s t : ℕ) → s < 64 → leb 64 t ≡ true → eqb s t ≡ false
off s t h e = ne_eqb s t (λ z. absurd (omega (arith, z, leb-true 64 t e)))

tests-one : (wb wf bf : Bool) → wb ≡ false
    → (not (wb || (wf || false)) && (not (bf || false) && (not false && true))) ≡ not
    (wf || (bf || (false || (false || false))))
tests-one true wf bf e = absurd (refuted e tt)
tests-one false true bf e = refl
tests-one false false true e = refl
tests-one false false false e = refl

tests-two : (wb wf ws bf bs fs : Bool) → wb ≡ false
    → (not (wb || (wf || (ws || false))) && (not (bf || (bs || false)) && (not (fs || false) && (not false && true))))
    ≡ not (wf || (bf || (ws || (bs || fs))))
tests-two true wf ws bf bs fs e = absurd (refuted e tt)
tests-two false true ws bf bs fs e = refl
tests-two false false true true bs fs e = refl
tests-two false false true false bs fs e = refl
tests-two false false false true bs fs e = refl
tests-two false false false false true fs e = refl
tests-two false false false false false true e = refl
tests-two false false false false false false e = refl

module _ (m : Men) (q : Place) (s : Seated m q) (k : eqb q.white q.black ≡ false) where
  pub apart-shares : apart (pieces (board_in m q)) ≡ not (shares q)
  apart-shares = go (alone q) refl
    where
      go : (e : Bool) → alone q ≡ e → apart (pieces (board_in m q)) ≡ not (shares q)
      go true e = ap (λ (b : Board). apart (pieces b)) (board-one m q s.first e) ∙ one
        where
          one : apart (pieces (one_board m.first q.side q.white q.black q.first)) ≡ not (shares q)
          one = unfold apart any shares in
              rw (
                off q.white q.second s.white e,
                off q.black q.second s.black e,
                off q.first q.second s.first e,
              )
              (tests-one (eqb q.white q.black) (eqb q.white q.first) (eqb q.black q.first) k)
      go false e = ap (λ (b : Board). apart (pieces b)) (board-two m q s.first e) ∙ two
        where
          two : apart (pieces
              (pair_board m.first m.second m.colour q.side q.white q.black q.first q.second))
              ≡ not (shares q)
          two = unfold apart any shares in
              tests-two (eqb q.white q.black) (eqb q.white q.first) (eqb q.white q.second)
              (eqb q.black q.first) (eqb q.black q.second) (eqb q.first q.second) k

module _ (m : Men) (n : ℕ) (q : Place) (a : StandsAt m n q) where
  abbrev there : Board
  there = board_at (men_of (material_for m)) n

  pub kings-apart : eqb q.white q.black ≡ false
  unfolding board_of posed
  kings-apart =
      subst⁻¹ (λ (b : Board). eqb b.white b.black ≡ false) a.board
      (separate-apart there.white there.black
      (ruled-separate there.white there.black (ruled-at (men_of (material_for m)) n)))

  used-there : used there ≡ (not (shares q) && eqb (number_of (board_in m q)) n)
  unfolding used
  used-there =
      ap₂ ◌&&◌
      (ap (λ (b : Board). apart (pieces b)) (sym a.board) ∙ apart-shares m q a.seated kings-apart)
      (ap₂ eqb (ap number_of (sym a.board)) (key-at (men_of (material_for m)) n))

  -- as code finds it
  pub used-not : shares q ≡ true → false ≡ used there
  used-not e = sym (used-there ∙ rw e)

  pub used-is : shares q ≡ false → eqb (number_of (board_in m q)) n ≡ used there
  used-is e = sym (used-there ∙ rw e)

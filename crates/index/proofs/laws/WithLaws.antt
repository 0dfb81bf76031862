-- What numbering and numbering back answer with one man or with two, by the tests that lead to it.
use Rattle.std.specs.Prelude.{◌≡◌, refl, Bool, true, false, cond, not, ◌∷◌, ℕ, ◌<◌, ◌≤◌, T, leb, ltb, eqb, Err, None, Ok, Result, Some}
use Rattle.std.proofs.Math.Path.{ap, subst, subst⁻¹, sym}
use Rattle.std.proofs.Common.{◌∙◌, arith, leb→le, ltb→lt}
use borrow.Author.Tests.{le-leb, lt-leb, eq-eqb, ne_eqb, eqb-true, not-true, not-false}
use Rattle.finite.specs.Truth.{and_left, and_right, of-true}
use Rattle.rules.specs.Rules.{Board, piece_of}
use Rattle.numbering.specs.declared.Material.{Material}
use Rattle.numbering.specs.Keys.{board_at}
use Rattle.numbering.specs.Material.{known, given, one_of, men_of, material_in, size_of}
use Rattle.numbering.proofs.laws.MaterialLaws.{one_piece}
use Rattle.numbering.specs.Number.{number_of, used}
use Rattle.position.specs.declared.Position.{Position}
use Rattle.position.specs.declared.Men.{Men}
use Rattle.position.specs.declared.Place.{Place}
use Rattle.position.specs.Keyed.{slot_men, board_of, keyed}
use Rattle.position.specs.Refusals.{placing_with}
use Rattle.position.specs.Posed.{posed, board_in, material_for}
use Rattle.index.specs.declared.Arranged.{Arranged}
use Rattle.index.specs.Answers.{number_with, found_at, placed_with}
use Rattle.index.specs.Endings.{number_in, used_in}
use Rattle.index.specs.Seats.{Seated, StandsAt, alone}
use Rattle.index.specs.Arranging.{arranged_as, Arranges}
use Rattle.index.proofs.laws.ArrangingLaws.{placed-arranges}
use Rattle.index.proofs.laws.NormalPlaceLaws.{arranged-number}
use Rattle.index.proofs.laws.EndingsLaws.{pieces-number, pieces-board, pieces-used}

-- ---- numbering

-- the number of the men as arranged, of an ending of pieces
number-arranged : (p : Position) (r : Arranged) → r ≡ arranged_as p → T (known (material_in (board_of p).men))
    → placing_with p ≡ 0
    → Seated r.men r.place × (number_of (board_in r.men r.place) ≡ number_of (board_of p))
number-arranged p r e t z =
    let a = subst⁻¹ (Arranges p) e (placed-arranges p t z) in (a.seated, arranged-number p r a)

pub number-pieces : (p : Position) (r : Arranged) → r ≡ arranged_as p → T (known (material_in (board_of p).men))
    → placing_with p ≡ 0
    → Seated r.men r.place
    × (number_of (board_in r.men r.place) ≡ number_in (material_in (board_of p).men) (board_of p))
number-pieces p r e t z =
    let w = number-arranged p r e t z in
    (w.0, w.1 ∙ ap (λ (f : Board → ℕ). f (board_of p)) (sym (pieces-number (material_in (board_of p).men) t)))

module _ (p : Position) where
  pub with_number : placing_with p ≡ 0
      → Ok (number_in (material_in (board_of p).men) (board_of p)) ≡ number_with p
  unfolding number_with
  with_number z = sym (rw (eq-eqb (placing_with p) 0 z))

  pub with-refused : (placing_with p ≡ 0 → ⊥) → Err (placing_with p) ≡ number_with p
  unfolding number_with
  with-refused f = sym (rw (ne_eqb (placing_with p) 0 f))

-- ---- numbering back

-- a seated place is its own board, keyed
posed-keyed : (m : Men) (q : Place) → Seated m q → posed m q ≡ keyed (board_in m q)
unfolding posed board_of
posed-keyed m q s = rw (lt-leb 64 q.first s.first) (go (alone q))
  where
    go : (e : Bool) → ◌≡◌ {A = Position}
        (record {
          side = q.side;
          white_king = q.white;
          black_king = q.black;
          first = Some (piece_of m.first 0 q.first);
          second = cond e None (Some (piece_of m.second m.colour q.second));
        })
        (keyed (record {
          side = q.side;
          white = q.white;
          black = q.black;
          men = piece_of m.first 0 q.first
              ∷ slot_men (cond e None (Some (piece_of m.second m.colour q.second)));
        }))
    go true = refl
    go false = refl

-- the men are a pawn exactly where the ending is a pawn's
pub pawn-ending : (m : Men) → m.first ≡ 4 → T (given (material_for m)) → material_for m ≡ Material.Pawn
pawn-ending m e t = go (leb 4 m.second) t
  where
    go : (x : Bool)
        → T (given (cond x (one_of m.first) (Material.Two m.first m.second (eqb m.colour 1))))
        → cond x (one_of m.first) (Material.Two m.first m.second (eqb m.colour 1)) ≡ Material.Pawn
    go true t = rw (eq-eqb m.first 4 e)
    go false t =
        let j = leb→le m.first m.second (and_left (leb m.first m.second) (ltb m.second 4) t) in
        let k = ltb→lt m.second 4 (and_right (leb m.first m.second) (ltb m.second 4) t) in
        absurd (omega arith)

pub pieces-ending : (m : Men) → (m.first ≡ 4 → ⊥) → T (given (material_for m)) → T (known (material_for m))
pieces-ending m n t = go (leb 4 m.second) t
  where
    one : (x : Bool) → eqb m.first 4 ≡ x → T (given (cond x Material.Pawn (Material.One m.first)))
        → T (known (cond x Material.Pawn (Material.One m.first)))
    one true e t = absurd (n (eqb-true m.first 4 e))
    one false e t = t

    go : (x : Bool)
        → T (given (cond x (one_of m.first) (Material.Two m.first m.second (eqb m.colour 1))))
        → T (known (cond x (one_of m.first) (Material.Two m.first m.second (eqb m.colour 1))))
    go true t = one (eqb m.first 4) refl t
    go false t = t

-- by what the code has in hand: the men, what it has found to stand there, and whether the number is used
module _ (men : Men) (n : ℕ) (t : T (known (material_for men))) (q : Place) (at : StandsAt men n q)
    (u : Bool) (found : StandsAt men n q → u ≡ used (board_at (men_of (material_for men)) n)) where
  used-same : used_in (material_for men) n ≡ u
  used-same = pieces-used (material_for men) n t ∙ sym (found at)

  pub found-unused : not u ≡ true → Err 9 ≡ found_at (material_for men) n
  found-unused z = sym (rw (used-same ∙ not-true u z))

  pub found-position : not u ≡ false → Ok (posed men q) ≡ found_at (material_for men) n
  found-position z =
      ap Ok
      (posed-keyed men q at.seated
      ∙ ap keyed (at.board ∙ ap (λ (f : ℕ → Board). f n) (sym (pieces-board (material_for men) t))))
      ∙ sym (rw (used-same ∙ not-false u z))

module _ (m : Material) (n : ℕ) where
  pub with-unknown : given m ≡ false → Err 1 ≡ placed_with m n
  unfolding placed_with
  with-unknown e = sym (rw e)

  pub with-above : given m ≡ true → size_of m ≤ n → Err 8 ≡ placed_with m n
  unfolding placed_with
  with-above e h = sym (rw (e, le-leb (size_of m) n h))

  -- the men made of the material, and what is found at the number
  pub with-found : (men : Men) → given m ≡ true → (size : ℕ) → size ≡ size_of m → n < size
      → (T (given m) → (material_for men ≡ m) × (men.colour < 2)) → (r : Result Position ℕ)
      → (T (given (material_for men)) → men.colour < 2 → n < size_of (material_for men) → r ≡ found_at (material_for men) n)
      → r ≡ placed_with m n
  unfolding placed_with
  with-found men e size f h made r found =
      let below : n < size_of m = subst (λ (x : ℕ). n < x) f h in
      let same = (made (of-true e)).0 in
      found (of-true (ap given same ∙ e)) (made (of-true e)).1 (subst⁻¹ (λ (x : Material). n < size_of x) same below)
      ∙ ap (λ (x : Material). found_at x n) same
      ∙ sym (rw (e, lt-leb (size_of m) n below))

-- ---- the men of a material

pub men-one : (m : Material) (k : ℕ) → m ≡ Material.One k → T (given m)
    → (material_for (record { first = k; second = 4; colour = 0 }) ≡ m) × (0 < 2)
men-one m k e t =
    let h = ltb→lt k 4 (subst (λ (x : Material). T (given x)) e t) in (one_piece k h ∙ sym e, omega arith)

pub men-two : (m : Material) (j k : ℕ) (r : Bool) (c : ℕ) → m ≡ Material.Two j k r → c ≡ cond r 1 0 → T (given m)
    → (material_for (record { first = j; second = k; colour = c }) ≡ m) × (c < 2)
men-two m j k r c e f t =
    let w = subst (λ (x : Material). T (given x)) e t in
    let h = ltb→lt k 4 (and_right (leb j k) (ltb k 4) w) in
    let rival : eqb c 1 ≡ r = ap (λ (x : ℕ). eqb x 1) f ∙ flag r in
    (rw (lt-leb 4 k h, rival) (sym e), subst⁻¹ (λ (x : ℕ). x < 2) f (small r))
  where
    flag : (r : Bool) → eqb (cond r 1 0) 1 ≡ r
    flag true = refl
    flag false = refl

    small : (r : Bool) → cond r 1 0 < 2
    small true = omega arith
    small false = omega arith

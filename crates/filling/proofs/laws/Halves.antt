-- A number's half of the table is its side to move, with one man and with two. A move that takes none leads into the
-- other half; so does one that takes one of two men of one side, in the table lent for the man left.
use Rattle.std.specs.Prelude.{◌≡◌, Bool, true, false, cond, not, ◌&&◌, List, [], ◌∷◌, map, ℕ, ◌/◌, ◌%◌, ◌<◌, ◌≤◌, T, leb, ltb, eqb}
use Rattle.std.proofs.Math.Path.{sym, ap, subst⁻¹}
use Rattle.std.proofs.Common.{subst, ◌∙◌, arith, leb→le, ltb→lt, ne_eqb}
use Rattle.finite.specs.Truth.{and_left, and_right, and_both}
use Rattle.finite.specs.Members.{◌∈◌, all, map-out}
use Rattle.finite.specs.Filter.{filter, keep}
use Rattle.theory.specs.Game.{next}
use Rattle.rules.specs.declared.Piece.{Piece}
use Rattle.rules.specs.Pawn.{pawn}
use Rattle.rules.specs.Rules.{Board, piece_of, carried_piece, left, moved, played_as, moves}
use Rattle.rules.proofs.laws.MoveLists.{none-promotes}
use Rattle.rules.specs.Changed.{changed, swapped}
use Rattle.rules.specs.Chess.{chess, played}
use Rattle.rules.proofs.laws.ChessLaws.{of-moves}
use Rattle.numbering.specs.Keys.{leading, men_at, board_at}
use Rattle.numbering.specs.Kings.{king_rule}
use Rattle.numbering.specs.Men.{standard}
use Rattle.numbering.specs.Change.{changed_by}
use Rattle.numbering.specs.Number.{normalised, number_of}
use Rattle.numbering.proofs.laws.ChangeLaws.{HasNumber}
use Rattle.numbering.proofs.laws.OrderLaws.{standard-only}
use Rattle.numbering.proofs.laws.ClassLaws.{normalising, normal-image, normal-ruled}
use Rattle.numbering.proofs.laws.AtLaws.{at-number}
use Rattle.numbering.specs.declared.Material.{Material}
use Rattle.numbering.specs.Material.{known, men_of, size_of}
use Rattle.four_men.specs.Reading.{full}
use Rattle.four_men.proofs.laws.Materials.{own-material}

-- ---- the side to move at a number

pub side-below : (m : Material) → T (known m) → (n : ℕ) → n < size_of m / 2 → (board_at (men_of m) n).side ≡ 0
unfolding board_at leading
side-below Material.Pawn w n h = absurd w
side-below (Material.One kind) w n h = omega arith
side-below (Material.Two j k r) w n h = omega arith

pub side-above : (m : Material) → T (known m) → (n : ℕ) → n < size_of m → size_of m / 2 ≤ n → (board_at (men_of m) n).side ≡ 1
unfolding board_at leading
side-above Material.Pawn w n h g = absurd w
side-above (Material.One kind) w n h g = omega arith
side-above (Material.Two j k r) w n h g = omega arith

-- and back
pub below-side : (m : Material) → T (known m) → (n : ℕ) → (board_at (men_of m) n).side ≡ 0 → n < size_of m / 2
unfolding board_at leading
below-side Material.Pawn w n e = absurd w
below-side (Material.One kind) w n e = omega arith
below-side (Material.Two j k r) w n e = omega arith

pub above-side : (m : Material) → T (known m) → (n : ℕ) → (board_at (men_of m) n).side ≡ 1 → size_of m / 2 ≤ n
unfolding board_at leading
above-side Material.Pawn w n e = absurd w
above-side (Material.One kind) w n e = omega arith
above-side (Material.Two j k r) w n e = omega arith

-- ---- men in standard order: the number keeps the side to move

normal-side : {material : List Piece} (b : Board) → HasNumber material b → T (standard b.men)
    → (normalised b).side ≡ b.side
unfolding changed_by changed swapped
normal-side b h t =
    let s = normalising b in
    let r : T (standard (changed_by s b).men) =
    subst (λ (c : Board). T (standard c.men)) (normal-image b)
    (and_right (king_rule (normalised b).white (normalised b).black) (standard (normalised b).men)
    (normal-ruled b h)) in
    let e = (standard-only s.symmetry s.colours s.order b.men h.colours t r).0 in
    ap (λ (c : Board). c.side) (normal-image b) ∙ ap (λ (x : Bool). swapped x b.side) e

pub number-side-with : (m : Material) → T (known m) → (b : Board) → HasNumber (men_of m) b → T (standard b.men)
    → (board_at (men_of m) (number_of b)).side ≡ b.side
number-side-with m w b h t =
    ap (λ (c : Board). c.side) (at-number (own-material m w) b h) ∙ normal-side b h t

-- ---- what a move leaves of the men at a number

abbrev after : Material → ℕ → ℕ → ℕ → List Piece
after m n from to = map (carried_piece from to) (left to (board_at (men_of m) n).men)

-- all of them: they stay in standard order
standard-after : (m : Material) → T (known m) → (n from to : ℕ) → T (full m (after m n from to))
    → T (standard (after m n from to))
unfolding board_at men_at filter standard leading
standard-after Material.Pawn w n from to = elim w [ ]
standard-after (Material.One kind) w n from to = go (not (eqb _ to))
  where
    go : (x : Bool) → T (full (Material.One kind) (map (carried_piece from to) (keep x (piece_of kind 0 (n % 64)) [])))
        → T (standard (map (carried_piece from to) (keep x (piece_of kind 0 (n % 64)) [])))
    go true f = tt
    go false f = absurd f
standard-after (Material.Two j k r) w n from to = go (not (eqb _ to)) (not (eqb _ to))
  where
    a : Piece
    a = piece_of j 0 (leading (piece_of k (cond r 1 0) 0 ∷ []) n % 64)

    c : Piece
    c = piece_of k (cond r 1 0) (n % 64)

    go : (x y : Bool) → T (full (Material.Two j k r) (map (carried_piece from to) (keep x a (keep y c []))))
        → T (standard (map (carried_piece from to) (keep x a (keep y c []))))
    go true true f = and_left (leb j k) (ltb k 4) w
    go true false f = absurd f
    go false true f = absurd f
    go false false f = absurd f

-- one of two of one side: he is White's
white-after : (j k kind colour s n from to : ℕ) → after (Material.Two j k false) n from to ≡ piece_of kind colour s ∷ []
    → colour ≡ 0
unfolding board_at men_at filter leading
white-after j k kind colour s n from to = go (not (eqb _ to)) (not (eqb _ to))
  where
    a : Piece
    a = piece_of j 0 (leading (piece_of k 0 0 ∷ []) n % 64)

    c : Piece
    c = piece_of k 0 (n % 64)

    go : (x y : Bool) → map (carried_piece from to) (keep x a (keep y c [])) ≡ piece_of kind colour s ∷ [] → colour ≡ 0
    go true true e = let z : ◌≡◌ {A = ℕ} 0 1 = cc in absurd (omega arith)
    go true false e = let u : carried_piece from to a ≡ piece_of kind colour s = cc in sym (ap (λ (m : Piece). m.colour) u)
    go false true e = let u : carried_piece from to c ≡ piece_of kind colour s = cc in sym (ap (λ (m : Piece). m.colour) u)
    go false false e = let z : ◌≡◌ {A = ℕ} 0 1 = cc in absurd (omega arith)

-- ---- the successors of the board at a number

kind-pawnless : (k : ℕ) → T (ltb k 4) → T (not (eqb k 4))
kind-pawnless k t = let h = ltb→lt k 4 t in rw (ne_eqb k 4 (λ e. omega arith)) tt

at-pawnless : (m : Material) → T (known m) → (n : ℕ) → T (all (λ a. not (pawn a)) (board_at (men_of m) n).men)
unfolding board_at men_at all
at-pawnless Material.Pawn w n = elim w [ ]
at-pawnless (Material.One kind) w n = and_both (not (eqb kind 4)) true (kind-pawnless kind w) tt
at-pawnless (Material.Two j k r) w n =
    let h = leb→le j k (and_left (leb j k) (ltb k 4) w) in
    let l = ltb→lt k 4 (and_right (leb j k) (ltb k 4) w) in
    and_both (not (eqb j 4)) (not (eqb k 4) && true) (rw (ne_eqb j 4 (λ e. omega arith)) tt)
    (and_both (not (eqb k 4)) true (rw (ne_eqb k 4 (λ e. omega arith)) tt) tt)

module _ (m : Material) (n : ℕ) (q : Board) (i : q ∈ next chess (board_at (men_of m) n)) where
  men-after : T (known m) → (from : ℕ) × (to : ℕ) × (after m n from to ≡ q.men)
  unfolding moved
  men-after w =
      let b = board_at (men_of m) n in
      let v = map-out (played b) q (moves b) i in
      let e = (of-moves b v.0 v.1).1.plain (none-promotes b v.0.from v.0.to (at-pawnless m w n)) in
      (v.0.from, v.0.to, sym (ap (λ (c : Board). c.men) (v.2 ∙ ap (played_as b v.0.from v.0.to) e)))

  pub standard-next : T (known m) → T (full m q.men) → T (standard q.men)
  standard-next w f = let v = men-after w in
      subst (λ (l : List Piece). T (standard l)) v.2
      (standard-after m w n v.0 v.1 (subst⁻¹ (λ (l : List Piece). T (full m l)) v.2 f))

pub white-left : (j k kind colour s n : ℕ) (q : Board) → T (known (Material.Two j k false))
    → q ∈ next chess (board_at (men_of (Material.Two j k false)) n) → q.men ≡ piece_of kind colour s ∷ [] → colour ≡ 0
white-left j k kind colour s n q w i e =
    let v = men-after (Material.Two j k false) n q i w in white-after j k kind colour s n v.0 v.1 (v.2 ∙ e)

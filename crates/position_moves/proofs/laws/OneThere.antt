-- A position that refusals 1 to 5 and 18 let pass: one piece on a square, and who it is.
use Rattle.std.specs.Prelude.{◌≡◌, Bool, cond, not, ◌&&◌, ℕ, zero, suc, ◌<◌, ltb, None, Option, Some}
use Rattle.std.proofs.Math.Path.{refl, subst}
use Rattle.std.proofs.Common.{sym, ◌∙◌, arith, ltb→lt, eq-eqb}
use Rattle.std.proofs.Math.Bool.{true, false}
use mathlib.Core.List.Memᴰ
use mathlib.Core.List.{[], List, ◌∷◌, ◌++◌}
use Rattle.std.proofs.Math.Dec.{T, eqb, eqb→eq, eqb_refl, T_not}
use Rattle.finite.specs.Truth.{and_left, and_right, and_both, of-true, same_test}
use Rattle.finite.specs.Members.{◌∈◌, any, any-in, any_out, all, all-out}
use Rattle.rules.specs.declared.Piece.{Piece}
use Rattle.rules.specs.Rules.{Board, piece_of, pieces, apart, king, stands, goes_to}
use Rattle.rules.proofs.laws.Promotion.{apart-one}
use Rattle.position.specs.declared.Position.{Position}
use Rattle.position.specs.Keyed.{slot_men, board_of}
use Rattle.position.specs.Over.{goes_from, goes_over}
use Rattle.position.specs.Refusals.{bad_men_of, bad_side, bad_square, bad_pawn, shared_square, kings_touch, placing_with}
use Rattle.position.proofs.laws.BothSizes.{six, placed-side-with}
use Rattle.position.proofs.laws.PlacedLaws.{passes}
use Rattle.position.proofs.laws.Unrefused.{placed-kings-with}
use Rattle.position_moves.specs.InPosition.{goes_by, Placed, Held}

pub placed-board : (p : Position) → placing_with p ≡ 0 → Placed (board_of p)
unfolding placing_with bad_square shared_square board_of
placed-board p z =
    let b = board_of p in
    let t = six (bad_men_of p.first p.second) (bad_side p) (bad_square p) (bad_pawn p) (shared_square p) (kings_touch p)
    z in
    let on = passes (all (λ m. ltb m.square 64) (pieces b)) t.2 in
    record {
      side = placed-side-with p z;
      on = λ m i. ltb→lt m.square 64 (all-out (λ m. ltb m.square 64) i on);
      apart = passes (apart (pieces b)) t.4;
      kings = placed-kings-with p z;
    }

-- the men of the two slots
in-front : {x : Piece} (l k : List Piece) → x ∈ l → x ∈ l ++ k
in-front [] k i = elim i [ ]
in-front (y ∷ l) k (Memᴰ.head e) = Memᴰ.head e
in-front (y ∷ l) k (Memᴰ.tail i) = Memᴰ.tail (in-front l k i)

module _ (p : Position) where
  pub first-held : Held p p.first
  unfolding board_of
  first-held m e = in-front (slot_men p.first) (slot_men p.second)
      (subst (λ (s : Option Piece). m ∈ slot_men s) (sym e) (Memᴰ.head refl))

  pub second-held : Held p p.second
  unfolding board_of
  second-held m e = behind p.first
    where
      behind : (f : Option Piece) → m ∈ slot_men f ++ slot_men p.second
      behind None = subst (λ (s : Option Piece). m ∈ slot_men s) (sym e) (Memᴰ.head refl)
      behind (Some n) = Memᴰ.tail (subst (λ (s : Option Piece). m ∈ slot_men s) (sym e) (Memᴰ.head refl))

-- a man is a piece
pub man-piece : (b : Board) {m : Piece} → m ∈ b.men → m ∈ pieces b
man-piece b i = Memᴰ.tail (Memᴰ.tail i)

module _ (b : Board) (w : Placed b) where
  -- a test that only a piece on one square may pass, on some of the pieces
  pub one-there : (l : List Piece) → ((x : Piece) → x ∈ l → x ∈ pieces b) → (g : Piece → Bool) (m : Piece)
      → ((x : Piece) → T (g x) → x.square ≡ m.square) → m ∈ l
      → any g l ≡ g m
  one-there l sub g m at i =
      same_test (any g l) (g m)
      (λ h. let v = any_out g l h in
      subst (λ (x : Piece). T (g x)) (apart-one w.apart (sub v.0 v.1) (sub m i) (at v.0 v.2)) v.2)
      (λ h. any-in g i h)

  module _ (m : Piece) (i : m ∈ pieces b) where
    pub stands_one : (colour : ℕ) → stands b colour m.square ≡ eqb m.colour colour
    unfolding stands
    stands_one colour =
        one-there (pieces b) (λ x j. j) (λ x. eqb x.colour colour && eqb x.square m.square) m
        (λ x h. eqb→eq x.square m.square (and_right (eqb x.colour colour) (eqb x.square m.square) h)) i
        ∙ same_test (eqb m.colour colour && eqb m.square m.square) (eqb m.colour colour)
        (and_left (eqb m.colour colour) (eqb m.square m.square))
        (λ h. and_both (eqb m.colour colour) (eqb m.square m.square) h (eqb_refl m.square))

    pub goes_one : (occ : ℕ → Bool) (t : ℕ) → goes_over occ b m.square t ≡ goes_by occ b.side t m
    unfolding goes_over
    goes_one occ t =
        one-there (pieces b) (λ x j. j) (goes_from occ b.side m.square t) m
        (λ x h. eqb→eq x.square m.square
        (and_right (eqb x.colour b.side) (eqb x.square m.square)
        (and_left (eqb x.colour b.side && eqb x.square m.square) (goes_to occ x t) h))) i
        ∙ rw (eq-eqb m.square m.square refl) (go (eqb m.colour b.side))
      where
        go : (x : Bool) → ((x && true) && goes_to occ m t) ≡ (x && goes_to occ m t)
        go true = refl
        go false = refl

  -- a side's king
  pub king-there : (side : ℕ) → side < 2 → piece_of 5 side (king b side) ∈ pieces b
  king-there zero l = Memᴰ.head refl
  king-there (suc zero) l = Memᴰ.tail (Memᴰ.head refl)
  king-there (suc (suc n)) l = absurd (omega arith)

  -- no man stands on a king's square
  pub no-king : (m : Piece) → m ∈ b.men → (side : ℕ) → king b side ≡ m.square → ⊥
  unfolding apart
  no-king m i side = go (eqb side 0)
    where
      clear : (k : Piece) (l : List Piece) → T (not (any (λ x. eqb k.square x.square) l)) → m ∈ l
          → k.square ≡ m.square → ⊥
      clear k l t j e =
          T_not (any (λ x. eqb k.square x.square) l) t
          (any-in (λ x. eqb k.square x.square) j (of-true (eq-eqb k.square m.square e)))

      white : Piece
      white = piece_of 5 0 b.white

      black : Piece
      black = piece_of 5 1 b.black

      rest : T (apart (black ∷ b.men))
      rest = and_right (not (any (λ x. eqb b.white x.square) (black ∷ b.men))) (apart (black ∷ b.men)) w.apart

      go : (x : Bool) → cond x b.white b.black ≡ m.square → ⊥
      go true =
          clear white (black ∷ b.men)
          (and_left (not (any (λ x. eqb b.white x.square) (black ∷ b.men))) (apart (black ∷ b.men)) w.apart)
          (Memᴰ.tail i)
      go false =
          clear black b.men (and_left (not (any (λ x. eqb b.black x.square) b.men)) (apart b.men) rest) i

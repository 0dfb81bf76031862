-- The normal board and the number of an ending's men on the board, by the least key.
use Rattle.std.specs.Prelude.{◌≡◌, Bool, cond, ◌&&◌, [], ◌∷◌, T, leb, ltb, eqb}
use Rattle.std.proofs.Math.Path.{refl, ap, sym}
use Rattle.std.proofs.Common.{ap₂, subst, ◌∙◌, arith, leb→le}
use Rattle.std.proofs.Math.Bool.{true, false}
use Prim.Native.Nat.{ℕ, ◌+◌, ◌-◌, ◌*◌, ◌/◌, ◌%◌, ◌<◌, ◌≤◌}
use Rattle.std.specs.Int.Bits.{bit_xor}
use borrow.Author.Tests.{lt-ltb, lt-leb, leb-true, leb-false, ne_eqb}
use Rattle.finite.specs.Truth.{and_left}
use Rattle.symmetry.specs.Symmetry.{mapped}
use Rattle.rules.specs.Rules.{Board, piece_of}
use Rattle.rules.specs.Changed.{other, swapped, changed}
use Rattle.rules.specs.Reordered.{crossed}
use Rattle.rules.proofs.laws.Changed.{board-eq}
use Rattle.numbering.specs.declared.Material.{Material}
use Rattle.numbering.specs.Kings.{pair_of}
use Rattle.numbering.specs.Normal.{turn}
use Rattle.numbering.specs.Keys.{key_from, key_of}
use Rattle.numbering.specs.KingMaps.{swapping}
use Rattle.numbering.specs.Material.{known, one_of}
use Rattle.numbering.proofs.laws.MaterialLaws.{one_known}
use Rattle.numbering.specs.Men.{crosses, first_black, exchangeable}
use Rattle.numbering.specs.Change.{change, changed_by}
use Rattle.numbering.specs.Number.{arranged, ruling_map, ruling_order, normalised, number_of}
use Rattle.numbering.proofs.laws.NormalLaws.{stays-diagonal}
use Rattle.numbering.proofs.laws.LoneLaws.{is-arranged}
use Rattle.position.specs.declared.Men.{Men}
use Rattle.position.specs.declared.Place.{Place}
use Rattle.position.specs.Keyed.{board_of, one_man}
use Rattle.position.specs.Posed.{posed, board_in, material_for}
use Rattle.position.proofs.laws.OwnerLaws.{other-side}
use Rattle.index.specs.Least.{flip_of, flipped, packed, turned_key, least_of}
use Rattle.index.proofs.laws.LeastLaws.{flip-turns}
use Rattle.index.proofs.laws.NormalKey.{pair_board, one_board, two_from, one_from, pair-normal, one-normal}
use Rattle.index.specs.Seats.{Seated, alike, alone, least_at, place_from, number_from}

-- ---- the reversals

turned : (white s : ℕ) → s < 64 → bit_xor s (flip_of white) ≡ mapped (turn white) s
unfolding flipped
turned white s h = sym (ap (λ (e : Bool). cond e (bit_xor s (flip_of white)) s) (lt-ltb s 64 h)) ∙ flip-turns white s

module _ (white black first second : ℕ) (hw : white < 64) (hb : black < 64) (hf : first < 64) where
  pub turned-one : leb 64 second ≡ true
      → turned_key white black first second
      ≡ packed (mapped (turn white) white) (mapped (turn white) black) (mapped (turn white) first) 0
  unfolding turned_key
  turned-one e = rw (e, turned white white hw, turned white black hb, turned white first hf)

  pub turned_two : leb 64 second ≡ false
      → turned_key white black first second
      ≡ packed (mapped (turn white) white) (mapped (turn white) black) (mapped (turn white) first)
      (mapped (turn white) second)
  unfolding turned_key
  turned_two e =
      rw (
        e,
        turned white white hw,
        turned white black hb,
        turned white first hf,
        turned white second (leb-false 64 second e),
      )

-- ---- the board

module _ (m : Men) (q : Place) where
  pub board-one : q.first < 64 → alone q ≡ true
      → board_in m q ≡ one_board m.first q.side q.white q.black q.first
  unfolding board_of posed
  board-one h e = rw (lt-leb 64 q.first h, e)

  pub board-two : q.first < 64 → alone q ≡ false
      → board_in m q
      ≡ pair_board m.first m.second m.colour q.side q.white q.black q.first q.second
  unfolding board_of posed
  board-two h e = rw (lt-leb 64 q.first h, e)

module _ (m : Men) (side n : ℕ) where
  from_one : board_in m (place_from true side n) ≡ one_from m.first side n
  unfolding board_of posed place_from
  from_one = rw (lt-leb 64 (n / 64 % 64) (omega arith))

  from-two : board_in m (place_from false side n) ≡ two_from m.first m.second m.colour side n
  unfolding board_of posed place_from
  from-two = rw (lt-leb 64 (n / 64 % 64) (omega arith), lt-leb 64 (n % 64) (omega arith))

-- ---- the men of a known ending

module _ (m : Men) (w : T (known (material_for m))) where
  pub known-one : leb 4 m.second ≡ true → (m.first < 4) × (alike m ≡ false)
  known-one e =
      let t : T (known (one_of m.first)) = subst (λ (x : Bool). T (known (cond x (one_of m.first)
      (Material.Two m.first m.second (eqb m.colour 1))))) e w in
      let h = one_known m.first t in
      let k = leb-true 4 m.second e in
      (h, ap (λ (x : Bool). x && eqb 0 m.colour) (ne_eqb m.first m.second (λ z. absurd (omega (arith, z)))))

  pub known_two : leb 4 m.second ≡ false → (m.first ≤ m.second) × (m.second < 4)
  known_two e =
      let t : T (leb m.first m.second && ltb m.second 4) = subst (λ (x : Bool). T (known (cond x (one_of
      m.first) (Material.Two m.first m.second (eqb m.colour 1))))) e w in (
        leb→le m.first m.second (and_left (leb m.first m.second) (ltb m.second 4) t),
        leb-false 4 m.second e,
      )

-- ---- the normal board

module _ (m : Men) (q : Place) (s : Seated m q) where
  pub normal-place : normalised (board_in m q) ≡ board_in m (place_from (alone q) q.side (least_at m q))
  unfolding least_at
  normal-place = go (alone q) refl
    where
      go : (e : Bool) → alone q ≡ e → normalised (board_in m q) ≡ board_in m (place_from e q.side (least_at m q))
      go true e =
          ap normalised (board-one m q s.first e)
          ∙ one-normal m.first q.side q.white q.black q.first s.white s.black s.first
          ∙ sym (from_one m q.side (least_at m q)
          ∙ ap (one_from m.first q.side)
          (ap₂ least_of (known-one m s.ending (sym s.second ∙ e)).1
          (turned-one q.white q.black q.first q.second s.white s.black s.first e)))
      go false e =
          ap normalised (board-two m q s.first e)
          ∙ pair-normal m.first m.second m.colour q.side q.white q.black q.first q.second
          s.white s.black s.first (leb-false 64 q.second e)
          (known_two m s.ending (sym s.second ∙ e)).0
          ∙ sym (from-two m q.side (least_at m q)
          ∙ ap (λ (n : ℕ). two_from m.first m.second m.colour q.side (least_of (alike m) n))
          (turned_two q.white q.black q.first q.second s.white s.black s.first e))

-- ---- the number

-- the kings' squares, from both together
module _ (n : ℕ) where
  high_digit : (k : ℕ) → k % 4096 / 64 ≡ k / 64 % 64
  high_digit k = omega arith

  pub kings-white : n / 4096 % 4096 / 64 ≡ n / 262144 % 64
  kings-white = high_digit (n / 4096) ∙ (let z : n / 4096 / 64 % 64 ≡ n / 262144 % 64 = omega arith in z)

  kings-black : n / 4096 % 4096 % 64 ≡ n / 4096 % 64
  kings-black = omega arith

key-from : (m : Men) (e : Bool) (side n : ℕ) → key_of (board_in m (place_from e side n)) ≡ number_from e side n
unfolding key_of key_from number_from
key-from m true side n = rw (kings-white n, kings-black n) (ap key_of (from_one m side n))
key-from m false side n =
    rw (kings-white n, kings-black n)
    (ap key_of (from-two m side n) ∙ digits (side * 462 + pair_of (n / 262144 % 64) (n / 4096 % 64)))
  where
    digits : (k : ℕ) → (k * 64 + n / 64 % 64) * 64 + n % 64 ≡ k * 4096 + n % 4096
    digits k = omega arith

pub number-place : (m : Men) (q : Place) → Seated m q
    → number_from (alone q) q.side (least_at m q) ≡ number_of (board_in m q)
unfolding number_of
number-place m q s = sym (ap key_of (normal-place m q s) ∙ key-from m (alone q) q.side (least_at m q))

-- ---- a man left alone

module _ (kind side white black square : ℕ) where
  pub number-lone : white < 64 → black < 64 → square < 64
      → number_from true side (least_of false (turned_key white black square 64))
      ≡ number_of (board_of (one_man kind 0 side white square black))
  unfolding number_of number_from key_of key_from board_of
  number-lone hw hb hx =
      ap (λ (n : ℕ). number_from true side (least_of false n)) (turned-one white black square 64 hw hb hx refl)
      ∙ rw (kings-white key, kings-black key) (sym (ap key_of (one-normal kind side white black square hw hb hx)))
    where
      key : ℕ
      key =
          least_of false (packed (mapped (turn white) white) (mapped (turn white) black) (mapped (turn white) square) 0)

  -- Black's: the colours, the kings and the side to move exchanged
  number-recoloured : side < 2
      → number_of (board_of (one_man kind 0 (1 - side) black square white))
      ≡ number_of (board_of (one_man kind 1 side white square black))
  unfolding number_of normalised
  number-recoloured h =
      ap (λ (b : Board). key_of (changed_by (change (ruling_order b) false (ruling_map b)) b)) same-arranged
    where
      in_place : (s : ℕ) → mapped (swapping false) s ≡ s
      in_place s = stays-diagonal false s (λ t. absurd t)

      exchanged : arranged (board_of (one_man kind 1 side white square black))
          ≡ one_board kind (other side) black white square
      exchanged = unfold arranged crosses crossed first_black exchangeable changed_by changed swapped other board_of in
          board-eq refl (in_place black) (in_place white)
          (ap (λ (s : ℕ). piece_of kind 0 s ∷ []) (in_place square))

      as-it-is : arranged (board_of (one_man kind 0 (1 - side) black square white))
          ≡ one_board kind (1 - side) black white square
      as-it-is = unfold board_of in is-arranged kind (1 - side) black square white

      same-arranged : arranged (board_of (one_man kind 0 (1 - side) black square white))
          ≡ arranged (board_of (one_man kind 1 side white square black))
      same-arranged =
          as-it-is
          ∙ ap (λ (n : ℕ). one_board kind n black white square) (other-side side h)
          ∙ sym exchanged

  pub number-black : (colour : ℕ) → (colour ≡ 0 → ⊥) → colour < 2 → side < 2
      → number_of (board_of (one_man kind 0 (1 - side) black square white))
      ≡ number_of (board_of (one_man kind colour side white square black))
  number-black colour f h k =
      let e : 1 ≡ colour = omega (arith, f) in
      number-recoloured k ∙ ap (λ (c : ℕ). number_of (board_of (one_man kind c side white square black))) e

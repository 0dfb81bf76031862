-- The white king of a least key is in the triangle a1-d1-d4; with that, the number as code finds it.
use Rattle.std.specs.Prelude.{◌≡◌, refl, Bool, true, ℕ, ◌/◌, ◌%◌, ◌<◌}
use Rattle.std.proofs.Common.{ap, subst, sym, ◌∙◌}
use Rattle.std.proofs.Math.Path.{subst⁻¹}
use Rattle.std.proofs.Math.Bool.{false}
use Rattle.std.proofs.Math.Dec.{T}
use Rattle.finite.specs.Truth.{and_left}
use Rattle.symmetry.specs.Symmetry.{mapped}
use Rattle.rules.specs.Rules.{Board}
use Rattle.rules.specs.Changed.{changed}
use Rattle.numbering.specs.Kings.{in_triangle, cornered, pair_of}
use Rattle.numbering.specs.Normal.{turn}
use Rattle.numbering.specs.KingMaps.{king_map}
use Rattle.numbering.specs.Men.{prefers}
use Rattle.numbering.specs.Change.{change, changed_by}
use Rattle.numbering.specs.Number.{arranged, ruling_map, ruling_order, normalised, number_of}
use Rattle.numbering.proofs.laws.KingMaps.{king-map-corners}
use Rattle.numbering.proofs.laws.LoneLaws.{is-arranged}
use Rattle.position.specs.declared.Men.{Men}
use Rattle.position.specs.declared.Place.{Place}
use Rattle.position.specs.Keyed.{board_of, one_man}
use Rattle.position.specs.Posed.{posed, board_in}
use Rattle.index.specs.Least.{turned_key, least_of}
use Rattle.index.specs.Seats.{Seated, alone, least_at, place_from, number_by, number_from}
use Rattle.index.proofs.laws.NormalKey.{one_board, one_from, one-normal}
use Rattle.index.proofs.laws.SeatLaws.{turned-one, normal-place, number-place, number-lone, kings-white}
use Rattle.index.proofs.laws.NormalPlaceLaws.{seated-arranged}

-- a board in standard order: its normal image has the white king in the triangle
corner-of : (b : Board) → arranged b ≡ b → b.white < 64 → b.black < 64 → T (in_triangle (normalised b).white)
unfolding normalised
corner-of b e hw hb =
    subst⁻¹ (λ (a : Board). T (in_triangle (changed_by (change (ruling_order a) false (ruling_map a)) a).white)) e here
  where
    here : T (in_triangle (changed_by (change (ruling_order b) false (ruling_map b)) b).white)
    here = unfold changed_by changed ruling_map cornered in
        and_left
        (in_triangle
        (mapped (king_map b.white b.black (prefers (changed (turn b.white) false b).men)) b.white))
        _ (king-map-corners b.white b.black (prefers (changed (turn b.white) false b).men) hw hb)

-- ---- the number as code finds it

module _ (m : Men) (q : Place) (s : Seated m q) where
  corner-place : T (in_triangle (least_at m q / 4096 % 4096 / 64))
  unfolding board_of posed place_from
  corner-place =
      subst⁻¹ (λ (w : ℕ). T (in_triangle w)) (kings-white (least_at m q))
      (subst (λ (b : Board). T (in_triangle b.white)) (normal-place m q s)
      (corner-of (board_in m q) (seated-arranged m q s) s.white s.black))

  pub number-found : (k : ℕ) → k ≡ least_at m q
      → T (in_triangle (k / 4096 % 4096 / 64)) × (number_from (alone q) q.side k ≡ number_of (board_in m q))
  number-found k e = (
    subst⁻¹ (λ (n : ℕ). T (in_triangle (n / 4096 % 4096 / 64))) e corner-place,
    ap (number_from (alone q) q.side) e ∙ number-place m q s,
  )

module _ (kind side white black square : ℕ) (hw : white < 64) (hb : black < 64) (hx : square < 64) where
  corner-lone : T (in_triangle (least_of false (turned_key white black square 64) / 4096 % 4096 / 64))
  corner-lone =
      let k = least_of false (turned_key white black square 64) in
      subst⁻¹ (λ (w : ℕ). T (in_triangle w)) (kings-white k)
      (subst (λ (b : Board). T (in_triangle b.white))
      (one-normal kind side white black square hw hb hx
      ∙ ap (λ (n : ℕ). one_from kind side (least_of false n)) (sym (turned-one white black square 64 hw hb hx refl)))
      (corner-of (one_board kind side white black square) (is-arranged kind side white square black) hw hb))

  pub lone-found : (k : ℕ) → k ≡ least_of false (turned_key white black square 64)
      → T (in_triangle (k / 4096 % 4096 / 64))
      × (number_from true side k ≡ number_of (board_of (one_man kind 0 side white square black)))
  lone-found k e = (
    subst⁻¹ (λ (n : ℕ). T (in_triangle (n / 4096 % 4096 / 64))) e corner-lone,
    ap (number_from true side) e ∙ number-lone kind side white black square hw hb hx,
  )

-- the number by a pair that another function found
pub by-pair : (single : Bool) (side n pair r : ℕ) → pair ≡ pair_of (n / 4096 % 4096 / 64) (n / 4096 % 4096 % 64)
    → r ≡ number_by single side pair n → r ≡ number_from single side n
unfolding number_from
by-pair single side n pair r e h = h ∙ ap (λ (p : ℕ). number_by single side p n) e

-- The kings under the eight maps: the map that puts them by the rule, and that there is no other but the exchange with
-- both on the diagonal.
use Rattle.std.specs.Prelude.{◌≡◌, refl, Bool, true, false, not, ◌&&◌, ℕ, ◌<◌, T}
use Rattle.std.specs.Bool.{beq}
use Rattle.finite.specs.Truth.{and_left, and_right, implies, implied, same_answer}
use Rattle.finite.specs.Members.{all}
use Rattle.finite.specs.Below.{all_below, all_below2, below2}
use Rattle.symmetry.specs.Symmetry.{Symmetry, mapped}
use Rattle.symmetry.proofs.laws.SymmetryLaws.{all_symmetries, symmetry-at, ltb-mapped, eqb-mapped}
use Rattle.symmetry.proofs.laws.ReachMapped.{reaches-mapped}
use Rattle.numbering.specs.Kings.{on_diagonal, cornered, separate}
use Rattle.numbering.specs.Normal.{turn, swaps_kings}
use Rattle.numbering.specs.KingMaps.{Still, king_map}

-- ---- it puts the kings by the rule, and where both are on the diagonal it goes the men's way

fits : ℕ → ℕ → Bool → Bool
fits white black men =
    let w = mapped (king_map white black men) white in
    let k = mapped (king_map white black men) black in
    cornered w k && implies (on_diagonal w && on_diagonal k) (beq (king_map white black men).swap men)

fits_both : ℕ → ℕ → Bool
fits_both white black = fits white black true && fits white black false

all_fit : T (all_below2 fits_both 64 64)
unfolding all_below all_below2 fits_both fits king_map turn swaps_kings mapped cornered
all_fit = tt

fit : (white black : ℕ) (men : Bool) → white < 64 → black < 64 → T (fits white black men)
unfolding fits_both
fit white black true hw hk =
    and_left (fits white black true) (fits white black false) (below2 fits_both 64 64 all_fit white black hw hk)
fit white black false hw hk =
    and_right (fits white black true) (fits white black false) (below2 fits_both 64 64 all_fit white black hw hk)

module _ (white black : ℕ) (men : Bool) (hw : white < 64) (hk : black < 64) where
  pub king-map-corners : T (cornered (mapped (king_map white black men) white) (mapped (king_map white black men) black))
  unfolding fits
  king-map-corners =
      let w = mapped (king_map white black men) white in
      let k = mapped (king_map white black men) black in
      and_left (cornered w k) (implies (on_diagonal w && on_diagonal k) (beq (king_map white black men).swap men))
      (fit white black men hw hk)

  pub king-map-chooses : T (on_diagonal (mapped (king_map white black men) white) && on_diagonal
      (mapped (king_map white black men) black)) → (king_map white black men).swap ≡ men
  unfolding fits
  king-map-chooses d =
      let w = mapped (king_map white black men) white in
      let k = mapped (king_map white black men) black in
      same_answer (king_map white black men).swap men
      (implied (on_diagonal w && on_diagonal k) (beq (king_map white black men).swap men)
      (and_right (cornered w k) (implies (on_diagonal w && on_diagonal k) (beq (king_map white black men).swap men))
      (fit white black men hw hk)) d)

-- ---- a map from kings by the rule to kings by the rule reverses nothing, and exchanges file and rank only with both on the diagonal

still : ℕ → ℕ → Symmetry → Bool
still white black m = not m.files && not m.ranks && implies m.swap (on_diagonal white && on_diagonal black)

still-if : ℕ → ℕ → Symmetry → Bool
still-if white black m = implies (cornered (mapped m white) (mapped m black)) (still white black m)

stills : ℕ → ℕ → Bool
stills white black = implies (cornered white black) (all_symmetries (still-if white black))

all-still : T (all_below2 stills 64 64)
unfolding all_symmetries all all_below all_below2 stills still-if still mapped cornered
all-still = tt

pub kings-still : (white black : ℕ) (m : Symmetry) → white < 64 → black < 64 → T (cornered white black)
    → T (cornered (mapped m white) (mapped m black)) → Still white black m
unfolding stills still-if still
kings-still white black m hw hk s t =
    let each = implied (cornered white black) (all_symmetries (still-if white black))
    (below2 stills 64 64 all-still white black hw hk) s in
    let r = parts m.files m.ranks m.swap (on_diagonal white && on_diagonal black)
    (implied (cornered (mapped m white) (mapped m black)) (still white black m)
    (symmetry-at (still-if white black) each m) t) in
    record { only = λ i. record { files = r.0 i; ranks = r.1 i; swap = m.swap }; diagonals = r.2 }
  where
    parts : (f r e d : Bool) → T (not f && not r && implies e d) → (f ≡ false) × (r ≡ false) × (T e → T d)
    parts true r e d h = absurd h
    parts false true e d h = absurd h
    parts false false e d h = (refl, refl, λ k. implied e d h k)

-- ---- the maps keep kings apart

pub separate-mapped : (m : Symmetry) (white black : ℕ)
    → separate (mapped m white) (mapped m black) ≡ separate white black
unfolding separate
separate-mapped m white black =
    rw (
      ltb-mapped m white,
      ltb-mapped m black,
      eqb-mapped m white black,
      reaches-mapped m (λ s. false) (λ s. false) (λ s. refl) 5 white black,
    )

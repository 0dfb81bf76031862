-- One white man: the normal board of his class is the image by 01's map, and his number is used exactly as 01 says. On
-- any numbers whatever.
use Rattle.std.specs.Prelude.{◌≡◌, Bool, not, ◌&&◌, ◌||◌, ◌⊎◌, [], ◌∷◌, ℕ, ◌+◌, ◌*◌, ◌/◌, ◌%◌, ◌<◌, ◌≤◌}
use Rattle.std.proofs.Math.Path.{refl, ap, ap₂, sym}
use Rattle.std.proofs.Common.{◌∙◌, inl, inr}
use Rattle.std.proofs.Math.Bool.{true, false}
use Rattle.std.specs.Bool.{beq}
use Rattle.std.proofs.Math.Logic.{⊎_elim}
use native.Mathlib.Omega.{arith}
use Rattle.std.proofs.Math.Dec.{T, ltb, eqb, ltb→lt}
use borrow.Author.Tests.{le-ltb, eq-eqb, ne_eqb, eqb-false, ltb-false}
use Rattle.finite.specs.Truth.{and_left, and_right, implies, implied, false_of, refuted, le-or-lt, same_answer}
use Rattle.finite.specs.Below.{all_below, below}
use Rattle.symmetry.specs.Symmetry.{Symmetry, mapped, exchange}
use Rattle.symmetry.proofs.laws.SymmetryLaws.{mapped-composed, mapped-off, mapped-on}
use Rattle.rules.specs.Rules.{Board, piece_of}
use Rattle.rules.specs.Changed.{swapped, changed}
use Rattle.rules.specs.Reordered.{crossed}
use Rattle.rules.proofs.laws.Changed.{board-eq}
use Rattle.numbering.specs.Kings.{above, on_diagonal, in_triangle, cornered, king_rule, pair_of}
use Rattle.numbering.specs.Normal.{first_above, turn, swaps_kings, normal_map}
use Rattle.numbering.specs.KingMaps.{king_map, swapping}
use Rattle.numbering.specs.Keys.{key_from, key_of}
use Rattle.numbering.specs.Men.{crosses, first_black, like, falling, ordered, prefers}
use Rattle.numbering.specs.Change.{change, changed_by}
use Rattle.numbering.specs.Number.{arranged, ruling_map, ruling_order, normalised, number_of}
use Rattle.numbering.proofs.laws.Numberable.{ruled-cornered, ruled-triangle}
use Rattle.numbering.proofs.laws.NormalLaws.{turn-then, stays-diagonal}

-- ---- which way the man goes counts only with both kings on the diagonal

swaps-by : (aw dw ab db p f : Bool)
    → ((aw || (dw && (ab || (db && p)))) ≡ (aw || (dw && (ab || (db && f))))) ⊎ (T dw × T db)
swaps-by true dw ab db p f = inl refl
swaps-by false false ab db p f = inl refl
swaps-by false true true db p f = inl refl
swaps-by false true false false p f = inl refl
swaps-by false true false true p f = inr (tt, tt)

module _ (white black : ℕ) where
  abbrev w : ℕ
  w = mapped (turn white) white

  abbrev k : ℕ
  k = mapped (turn white) black

  -- the reversals, and then the exchange or nothing
  by_two : (p : Bool) (s : ℕ)
      → mapped (king_map white black p) s ≡ mapped (swapping (swaps_kings w k p)) (mapped (turn white) s)
  unfolding king_map
  by_two p s =
      sym (mapped-composed (turn white) (swapping (swaps_kings w k p)) s
      ∙ ap (λ (m : Symmetry). mapped m s) (turn-then white (swaps_kings w k p)))

  same-image : (p f : Bool) (s : ℕ) → (T (on_diagonal w) → T (on_diagonal k) → T (on_diagonal (mapped (turn white) s)))
      → mapped (king_map white black p) s ≡ mapped (king_map white black f) s
  unfolding swaps_kings
  same-image p f s d =
      by_two p s
      ∙ ⊎_elim (λ e. ap (λ (x : Bool). mapped (swapping x) (mapped (turn white) s)) e)
      (λ t. stays t p ∙ sym (stays t f)) (swaps-by (above w) (on_diagonal w) (above k) (on_diagonal k) p f)
      ∙ sym (by_two f s)
    where
      stays : T (on_diagonal w) × T (on_diagonal k) → (q : Bool)
          → mapped (swapping (swaps_kings w k q)) (mapped (turn white) s) ≡ mapped (turn white) s
      stays t q = stays-diagonal (swaps_kings w k q) (mapped (turn white) s) (λ x. d t.0 t.1)

-- ---- one man prefers to be below the diagonal

-- the exchange lowers the squares above the diagonal and no others
lowered : ℕ → Bool
lowered s = beq (ltb (mapped exchange s) s) (above s) && implies (above s) (not (eqb (mapped exchange s) s))

all-lowered : T (all_below lowered 64)
unfolding all_below lowered mapped
all-lowered = tt

module _ (s : ℕ) (h : s < 64) where
  lower : ltb (mapped exchange s) s ≡ above s
  unfolding lowered
  lower =
      same_answer (ltb (mapped exchange s) s) (above s)
      (and_left (beq (ltb (mapped exchange s) s) (above s)) (implies (above s) (not (eqb (mapped exchange s) s)))
      (below lowered 64 all-lowered s h))

  elsewhere : T (above s) → eqb (mapped exchange s) s ≡ false
  unfolding lowered
  elsewhere a =
      false_of {b = eqb (mapped exchange s) s}
      (implied (above s) (not (eqb (mapped exchange s) s))
      (and_right (beq (ltb (mapped exchange s) s) (above s)) (implies (above s) (not (eqb (mapped exchange s) s)))
      (below lowered 64 all-lowered s h)) a)

module _ (kind s : ℕ) where
  one-prefers : prefers (piece_of kind 0 s ∷ []) ≡ ltb (mapped exchange s) s
  unfolding prefers ordered falling like crossed key_from swapped
  one-prefers = let p : 0 * 64 + mapped exchange s ≡ mapped exchange s = omega arith in let q : 0 * 64 + s ≡ s =
      omega arith in ap₂ ltb p q

  one-above : first_above (piece_of kind 0 s ∷ []) ≡ above s
  unfolding first_above
  one-above = go (above s) (on_diagonal s)
    where
      go : (a d : Bool) → (a || (d && false)) ≡ a
      go true d = refl
      go false true = refl
      go false false = refl

-- ---- the normal board

module _ (kind side white square black : ℕ) where
  abbrev board : Board
  board = record { side = side; white = white; black = black; men = piece_of kind 0 square ∷ [] }

  abbrev turned : ℕ
  turned = mapped (turn white) square

  in_place : (s : ℕ) → mapped (swapping false) s ≡ s
  in_place s = stays-diagonal false s (λ t. absurd t)

  pub is-arranged : arranged board ≡ board
  unfolding arranged crosses crossed first_black changed_by changed swapped
  is-arranged =
      board-eq refl (in_place white) (in_place black) (ap (λ (s : ℕ). piece_of kind 0 s ∷ []) (in_place square))

  same-square : mapped (king_map white black (prefers (piece_of kind 0 turned ∷ []))) square ≡ mapped (king_map white
      black (first_above (piece_of kind 0 turned ∷ []))) square
  same-square = ⊎_elim off on (le-or-lt 64 square)
    where
      off : 64 ≤ square
          → mapped (king_map white black (prefers (piece_of kind 0 turned ∷ []))) square
          ≡ mapped (king_map white black (first_above (piece_of kind 0 turned ∷ []))) square
      off h = mapped-off (king_map white black (prefers (piece_of kind 0 turned ∷ []))) square h
          ∙ sym (mapped-off (king_map white black (first_above (piece_of kind 0 turned ∷ []))) square h)

      on : square < 64
          → mapped (king_map white black (prefers (piece_of kind 0 turned ∷ []))) square
          ≡ mapped (king_map white black (first_above (piece_of kind 0 turned ∷ []))) square
      on h = ap (λ (p : Bool). mapped (king_map white black p) square)
          (one-prefers kind turned ∙ lower turned (mapped-on (turn white) square h) ∙ sym (one-above kind turned))

  same-maps : changed (ruling_map board) false board ≡ changed (normal_map board) false board
  unfolding ruling_map normal_map king_map changed swapped
  same-maps =
      let p = prefers (piece_of kind 0 turned ∷ []) in
      let f = first_above (piece_of kind 0 turned ∷ []) in
      board-eq refl (same-image white black p f white (λ d e. d)) (same-image white black p f black (λ d e. e))
      (ap (λ (s : ℕ). piece_of kind 0 s ∷ []) same-square)

  plain : changed_by (change (ruling_order board) false (ruling_map board)) board ≡ changed (ruling_map board) false board
  unfolding changed_by ruling_order falling crossed
  plain = refl

  -- on the board the two maps are one
  pub lone-map : square < 64 → ruling_map board ≡ normal_map board
  unfolding ruling_map normal_map king_map changed swapped
  lone-map h =
      ap (λ (p : Bool). king_map white black p)
      (one-prefers kind turned ∙ lower turned (mapped-on (turn white) square h) ∙ sym (one-above kind turned))

  -- the image by 01's map, so that the number is the one of 01
  pub lone-normal : normalised board ≡ changed (normal_map board) false board
  unfolding normalised
  lone-normal =
      ap (λ (b : Board). changed_by (change (ruling_order b) false (ruling_map b)) b) is-arranged ∙ plain ∙ same-maps

-- ---- where the kings stand by the rule: the board bears its key unless both are on the diagonal and the man above it

kings-swap : (aw dw ab db a : Bool) → aw ≡ false → (T dw → ab ≡ false)
    → (aw || (dw && (ab || (db && a)))) ≡ (dw && (db && a))
kings-swap true dw ab db a e f = absurd (refuted e tt)
kings-swap false true true db a e f = absurd (refuted (f tt) tt)
kings-swap false true false db a e f = refl
kings-swap false false ab db a e f = refl

module _ (kind side white square black : ℕ) (t : T (king_rule white black)) (h : square < 64) where
  abbrev swaps : Bool
  swaps = on_diagonal white && (on_diagonal black && above square)

  white_low : above white ≡ false
  white_low =
      false_of {b = above white} (and_right (ltb (white % 8) 4) (not (above white)) (ruled-triangle white black t))

  black-low : T (on_diagonal white) → above black ≡ false
  unfolding cornered
  black-low d =
      false_of {b = above black}
      (implied (on_diagonal white) (not (above black))
      (and_right (in_triangle white) (implies (on_diagonal white) (not (above black))) (ruled-cornered white black t)) d)

  no-turn : turn white ≡ swapping false
  unfolding turn
  no-turn =
      let f = ltb→lt (white % 8) 4 (and_left (ltb (white % 8) 4) (not (above white)) (ruled-triangle white black t)) in
      let r = ltb-false (white % 8) (white / 8) white_low in
      ap₂ (λ (a b : Bool). record { files = a; ranks = b; swap = false }) (le-ltb 3 (white % 8) (omega arith))
      (le-ltb 3 (white / 8) (omega arith))

  unturned : (s : ℕ) → mapped (turn white) s ≡ s
  unturned s = ap (λ (m : Symmetry). mapped m s) no-turn ∙ in_place kind side white square black s

  by-swap : normal_map (board kind side white square black) ≡ swapping swaps
  unfolding normal_map changed swapped swaps_kings
  by-swap =
      ap₂ (λ (m : Symmetry) (x : Bool). record { files = m.files; ranks = m.ranks; swap = x }) no-turn
      (rw (unturned white, unturned black, unturned square, one-above kind square)
      (kings-swap (above white) (on_diagonal white) (above black) (on_diagonal black) (above square) white_low
      black-low))

  swaps-white : T swaps → T (on_diagonal white)
  swaps-white s = and_left (on_diagonal white) (on_diagonal black && above square) s

  swaps-black : T swaps → T (on_diagonal black)
  swaps-black s =
      and_left (on_diagonal black) (above square) (and_right (on_diagonal white) (on_diagonal black && above square) s)

  swaps-above : T swaps → T (above square)
  swaps-above s =
      and_right (on_diagonal black) (above square) (and_right (on_diagonal white) (on_diagonal black && above square) s)

  number-by : number_of (board kind side white square black) ≡ (side * 462 + pair_of white black) * 64 + mapped (swapping
      swaps) square
  unfolding number_of key_of key_from changed swapped
  number-by =
      ap key_of (lone-normal kind side white square black
      ∙ ap (λ (m : Symmetry). changed m false (board kind side white square black)) by-swap)
      ∙ rw (stays-diagonal swaps white swaps-white, stays-diagonal swaps black swaps-black)

  pub lone-bears : eqb (number_of (board kind side white square black)) (key_of
      (board kind side white square black)) ≡ not swaps
  unfolding key_of key_from
  lone-bears = rw number-by (go swaps swaps-above)
    where
      differs : (n s : ℕ) → (s ≡ square → ⊥) → eqb (n + s) (n + square) ≡ false
      differs n s f = ne_eqb (n + s) (n + square) (λ z. f (let y : n + s ≡ n + square = z in omega arith))

      go : (e : Bool) → (T e → T (above square))
          → eqb ((side * 462 + pair_of white black) * 64 + mapped (swapping e) square)
          ((side * 462 + pair_of white black) * 64 + square) ≡ not e
      go true a = differs ((side * 462 + pair_of white black) * 64) (mapped exchange square)
          (eqb-false (mapped exchange square) square (elsewhere square h (a tt)))
      go false a =
          eq-eqb _ _
          (ap (λ (s : ℕ). (side * 462 + pair_of white black) * 64 + s) (in_place kind side white square black square))

-- The laws of numbers, once for one man and for two: the number of a board is the least key of its class; boards have
-- one number exactly if a change makes one into the other; a number is in range.
use Rattle.std.specs.Prelude.{◌≡◌, Bool, true, ◌&&◌, ◌↔◌, ℕ, ◌+◌, ◌*◌, ◌<◌, ◌≤◌}
use Rattle.std.proofs.Math.Path.{refl, ap, ap₂, subst, subst⁻¹, sym}
use Rattle.std.proofs.Common.{◌∙◌, ⊎_elim, arith}
use Rattle.std.proofs.Math.Bool.{false}
use mathlib.Core.List.{List, [], ◌∷◌, map}
use Rattle.std.proofs.Math.Nat.{le_antisymm}
use Rattle.std.proofs.Math.Dec.{T}
use Rattle.finite.specs.Truth.{and_left, and_right, and_both, of-true}
use Rattle.finite.specs.Orbit.{least, least-le, least-at, class-kept, class-one}
use Rattle.symmetry.specs.Symmetry.{Symmetry, mapped, inverse, composed, exchange}
use Rattle.rules.specs.declared.Piece.{Piece}
use Rattle.rules.specs.Rules.{Board}
use Rattle.rules.specs.Changed.{swapped, changed_piece, changed}
use Rattle.rules.specs.Reordered.{crossed, reordered}
use Rattle.rules.proofs.laws.Changed.{changed-back, board-eq}
use Rattle.rules.proofs.laws.ReorderedLaws.{crossed-map}
use Rattle.numbering.specs.Kings.{on_diagonal, cornered, king_rule, separate, pair_of}
use Rattle.numbering.specs.Normal.{turn}
use Rattle.numbering.specs.KingMaps.{king_map, swapping, Still}
use Rattle.numbering.specs.Keys.{key_from, key_of, ending_of, spread}
use Rattle.numbering.specs.Men.{exchangeable, standard, crosses, first_black, like, falling, ordered, prefers}
use Rattle.numbering.specs.Change.{Change, change, changed_by, then, undo, changes}
use Rattle.numbering.specs.Number.{arranged, ruling_map, ruling_order, normalised, number_of, ruled, least_key}
use Rattle.numbering.proofs.laws.KingMaps.{king-map-corners, king-map-chooses, kings-still, separate-mapped}
use Rattle.numbering.proofs.laws.Numberable.{Numberable, maps-compose, separate-white, separate-black, ruled-cornered, ruled-separate}
use Rattle.numbering.proofs.laws.NormalLaws.{turn-then, stays-diagonal}
use Rattle.numbering.proofs.laws.KeyLaws.{key-lt, key-own}
use Rattle.numbering.proofs.laws.ChangeLaws.{every-change, changes-compose, change-undone, HasNumber, has-changed}
use Rattle.numbering.proofs.laws.ArrangeLaws.{arranged-standard, standard-material}
use Rattle.numbering.proofs.laws.OrderLaws.{standard-only, standard-map, like-map, standard-like, spread-map, spread-crossed, key-le, ordered-least, not-preferred, preferred-once}

-- ---- boards that stand for their class

abbrev Standard : Board → Type 0
Standard b = T (standard b.men)

abbrev Kings : Board → Type 0
Kings b = T (king_rule b.white b.black)

kings-of : (b : Board) → T (ruled b) → Kings b
kings-of b t = and_left (king_rule b.white b.black) (standard b.men) t

men-of : (b : Board) → T (ruled b) → Standard b
men-of b t = and_right (king_rule b.white b.black) (standard b.men) t

-- such a board has its material for its ending
pub standing : {material : List Piece} (b : Board) → HasNumber material b → Standard b → Numberable material b
unfolding ending_of
standing b h t =
    record {
      men = sym (standard-material b.men h.colours t)
          ∙ h.men;
      side = h.side;
      squares = h.squares;
      kings = h.kings;
    }

pub arranged-men : {material : List Piece} (b : Board) → HasNumber material b → Standard (arranged b)
unfolding arranged changed_by changed
arranged-men b h = arranged-standard (swapping false) b.men h.colours

pub arranged-has : {material : List Piece} (b : Board) → HasNumber material b → HasNumber material (arranged b)
unfolding arranged
arranged-has b h = has-changed _ b h

-- ---- a board in standard order: its kings put by the rule

abbrev image : Symmetry → List Piece → List Piece
image m l = map (changed_piece m false) l

unchanged : (l : List Piece) → image (swapping false) l ≡ l
unfolding swapped
unchanged [] = refl
unchanged (a ∷ l) = rw (stays-diagonal false a.square (λ t. absurd t), unchanged l)

-- where the men choose, they do not choose again
chosen : (e : Bool) (l : List Piece) → e ≡ prefers l → prefers (image (swapping e) l) ≡ false
chosen true l q = preferred-once l (of-true (sym q))
chosen false l q = ap prefers (unchanged l) ∙ sym q

-- of the men's orders, and of the two maps where both are open, the normal one has the least digits
swap-least : (d e : Bool) (l : List Piece) → (T d → prefers l ≡ false)
    → key_from 0 (ordered l) ≤ key_from 0 (image (swapping d) (crossed (e && like l) l))
swap-least false e l h = rw (unchanged (crossed (e && like l) l)) (ordered-least e l)
swap-least true e l h =
    let a = not-preferred l (h tt) in
    let b = ordered-least e (image exchange l) in
    let q : crossed (e && like (image exchange l)) (image exchange l) ≡ image exchange (crossed (e && like l) l)
    = ap (λ (z : Bool). crossed (e && z) (image exchange l)) (like-map exchange l)
    ∙ crossed-map (changed_piece exchange false) (e && like l) l in
    let r : key_from 0 (ordered (image exchange l)) ≤ key_from 0 (image exchange (crossed (e && like l) l)) =
    subst (λ (z : List Piece). key_from 0 (ordered (image exchange l)) ≤ key_from 0 z) q b in
    omega arith

-- a key under the exchange, the kings staying
swapped-key : (d : Bool) (x : Board) (l : List Piece) → (T d → T (on_diagonal x.white && on_diagonal x.black))
    → spread l ≡ spread (image (swapping d) x.men) → key_from 0 l ≤ key_from 0 (image (swapping d) x.men)
    → key_from (x.side * 462 + pair_of x.white x.black) l ≤ key_of (changed (swapping d) false x)
unfolding key_of changed swapped
swapped-key d x l on e h =
    rw (
      stays-diagonal d x.white (λ t. and_left (on_diagonal x.white) (on_diagonal x.black) (on t)),
      stays-diagonal d x.black (λ t. and_right (on_diagonal x.white) (on_diagonal x.black) (on t)),
    )
    (key-le (x.side * 462 + pair_of x.white x.black) l (image (swapping d) x.men) e h)

module _ {material : List Piece} (c : Board) (h : HasNumber material c) (u : Standard c) where
  abbrev men-mid : List Piece
  men-mid = image (ruling_map c) c.men

  abbrev last : Board
  last = changed_by (change (ruling_order c) false (ruling_map c)) c

  white-on : c.white < 64
  white-on = separate-white c.white c.black h.kings

  black-on : c.black < 64
  black-on = separate-black c.white c.black h.kings

  mid-kings : T (king_rule (mapped (ruling_map c) c.white) (mapped (ruling_map c) c.black))
  unfolding king_rule ruling_map
  mid-kings =
      and_both (cornered (mapped (ruling_map c) c.white) (mapped (ruling_map c) c.black))
      (separate (mapped (ruling_map c) c.white) (mapped (ruling_map c) c.black))
      (king-map-corners c.white c.black (prefers (changed (turn c.white) false c).men) white-on black-on)
      (rw (separate-mapped (ruling_map c) c.white c.black) h.kings)

  pub last-men : last.men ≡ ordered men-mid
  unfolding changed_by changed ordered ruling_order
  last-men =
      sym (ap (λ (z : Bool). crossed (falling men-mid && z) men-mid) (like-map (ruling_map c) c.men)
      ∙ crossed-map (changed_piece (ruling_map c) false) (falling men-mid && like c.men) c.men)

  last-standard : Standard last
  unfolding changed_by changed ruling_order
  last-standard =
      rw (standard-map (ruling_map c) (crossed (falling men-mid && like c.men) c.men))
      (standard-like (falling men-mid) c.men u)

  pub last-ruled : T (ruled last)
  unfolding changed_by changed
  last-ruled =
      and_both (king_rule (mapped (ruling_map c) c.white) (mapped (ruling_map c) c.black)) (standard last.men)
      mid-kings last-standard

  -- with both kings on the diagonal the men do not prefer the other map
  settled : T (on_diagonal (mapped (ruling_map c) c.white) && on_diagonal (mapped (ruling_map c) c.black))
      → prefers men-mid ≡ false
  unfolding ruling_map king_map changed
  settled d =
      let e = (king_map c.white c.black (prefers (image (turn c.white) c.men))).swap in
      let q : e ≡ prefers (image (turn c.white) c.men) =
      king-map-chooses c.white c.black (prefers (image (turn c.white) c.men)) white-on black-on d in
      let r : image (swapping e) (image (turn c.white) c.men) ≡ men-mid
      = ap (λ (b : Board). b.men)
      (maps-compose (turn c.white) (swapping e) c
      ∙ ap (λ (n : Symmetry). changed n false c) (turn-then c.white e)) in
      sym (ap prefers r) ∙ chosen e (image (turn c.white) c.men) q

  -- no change with kings and men by the rule gives less
  module _ (t : Change) (r : T (ruled (changed_by t c))) where
    only : ((t.colours && exchangeable c.men) ≡ false) × (crossed t.order c.men
        ≡ crossed (t.order && like c.men) c.men)
    unfolding changed_by changed
    only = standard-only t.symmetry t.colours t.order c.men h.colours u (men-of (changed_by t c) r)

    -- the change is a map, with like men in either order
    abbrev turned-men : Board
    turned-men = reordered (t.order && like c.men) c

    is-map : changed_by t c ≡ changed t.symmetry false turned-men
    unfolding changed_by
    is-map = ap₂ (changed t.symmetry) only.0 (board-eq refl refl refl only.1)

    -- seen from the board with its kings by the rule
    abbrev from-mid : Symmetry
    from-mid = composed (inverse (ruling_map c)) t.symmetry

    abbrev mid-turned : Board
    mid-turned = changed (ruling_map c) false turned-men

    seen : changed from-mid false mid-turned ≡ changed_by t c
    seen = sym (maps-compose (inverse (ruling_map c)) t.symmetry mid-turned)
        ∙ ap (changed t.symmetry false) (changed-back (ruling_map c) false turned-men) ∙ sym is-map

    kings-seen : T (king_rule (mapped from-mid (mapped (ruling_map c) c.white))
        (mapped from-mid (mapped (ruling_map c) c.black)))
    unfolding changed
    kings-seen = subst (λ (b : Board). T (king_rule b.white b.black)) (sym seen) (kings-of (changed_by t c) r)

    stays : Still (mapped (ruling_map c) c.white) (mapped (ruling_map c) c.black) from-mid
    stays =
        let s = ruled-separate (mapped (ruling_map c) c.white) (mapped (ruling_map c) c.black) mid-kings in
        kings-still (mapped (ruling_map c) c.white) (mapped (ruling_map c) c.black) from-mid
        (separate-white _ (mapped (ruling_map c) c.black) s)
        (separate-black (mapped (ruling_map c) c.white) _ s)
        (ruled-cornered (mapped (ruling_map c) c.white) (mapped (ruling_map c) c.black) mid-kings)
        (ruled-cornered (mapped from-mid (mapped (ruling_map c) c.white))
        (mapped from-mid (mapped (ruling_map c) c.black)) kings-seen)

    mid-turned-men : mid-turned.men ≡ crossed (t.order && like men-mid) men-mid
    unfolding changed
    mid-turned-men =
        sym (ap (λ (z : Bool). crossed (t.order && z) men-mid) (like-map (ruling_map c) c.men)
        ∙ crossed-map (changed_piece (ruling_map c) false) (t.order && like c.men) c.men)

    digits : key_from 0 (ordered men-mid) ≤ key_from 0 (image (swapping from-mid.swap) mid-turned.men)
    digits = rw mid-turned-men (swap-least from-mid.swap t.order men-mid (λ z. settled (stays.diagonals z)))

    same-spread : spread (ordered men-mid) ≡ spread (image (swapping from-mid.swap) mid-turned.men)
    unfolding ordered
    same-spread =
        spread-crossed (falling men-mid && like men-mid) men-mid
        ∙ sym (spread-crossed (t.order && like men-mid) men-mid)
        ∙ ap spread (sym mid-turned-men)
        ∙ sym (spread-map (changed_piece (swapping from-mid.swap) false) mid-turned.men)

    last-key : key_of last ≡ key_from (c.side * 462 + pair_of (mapped (ruling_map c) c.white)
        (mapped (ruling_map c) c.black)) (ordered men-mid)
    unfolding key_of changed_by changed swapped
    last-key = ap
        (key_from (c.side * 462 + pair_of (mapped (ruling_map c) c.white) (mapped (ruling_map c) c.black))) last-men

    pub last-least : key_of last ≤ key_of (changed_by t c)
    unfolding changed swapped
    last-least =
        subst (λ (n : ℕ). n ≤ key_of (changed_by t c)) (sym last-key)
        (subst (λ (b : Board). key_from
        (c.side * 462 + pair_of (mapped (ruling_map c) c.white) (mapped (ruling_map c) c.black))
        (ordered men-mid) ≤ key_of b)
        (ap (λ (n : Symmetry). changed n false mid-turned) (sym stays.only) ∙ seen)
        (swapped-key from-mid.swap mid-turned (ordered men-mid) (λ z. stays.diagonals z) same-spread digits))

-- ---- the number of a board

abbrev least_of : List Piece → Board → ℕ
least_of material b = least changed_by ruled key_of (924 * spread material) changes b

-- the change that makes a board normal
abbrev first : Board → Change
first b = change (crosses b.men) (first_black (crossed (crosses b.men) b.men)) (swapping false)

abbrev pub normalising : Board → Change
normalising b = then (first b) (change (ruling_order (arranged b)) false (ruling_map (arranged b)))

pub normal-image : (b : Board) → normalised b ≡ changed_by (normalising b) b
unfolding normalised arranged
normal-image b = changes-compose (first b) (change (ruling_order (arranged b)) false (ruling_map (arranged b))) b

module _ {material : List Piece} where
  pub normal-has : (b : Board) → HasNumber material b → HasNumber material (normalised b)
  normal-has b h = subst⁻¹ (HasNumber material) (normal-image b) (has-changed (normalising b) b h)

  pub normal-ruled : (b : Board) → HasNumber material b → T (ruled (normalised b))
  unfolding normalised
  normal-ruled b h = last-ruled (arranged b) (arranged-has b h) (arranged-men b h)

  pub normal-least : (b : Board) → HasNumber material b → (s : Change) → T (ruled (changed_by s b))
      → number_of b ≤ key_of (changed_by s b)
  unfolding number_of normalised arranged
  normal-least b h s r =
      let t = then (undo (first b)) s in
      let e : changed_by t (arranged b) ≡ changed_by s b = sym (changes-compose (undo (first b)) s (arranged b))
      ∙ ap (changed_by s) (change-undone (first b) b) in
      subst (λ (c : Board). number_of b ≤ key_of c) e
      (last-least (arranged b) (arranged-has b h) (arranged-men b h) t (subst⁻¹ (λ (c : Board). T (ruled c)) e r))

  pub number_lt : (b : Board) → HasNumber material b → number_of b < 924 * spread material
  unfolding number_of
  number_lt b h =
      key-lt (normalised b) (standing (normalised b) (normal-has b h) (men-of (normalised b) (normal-ruled b h)))
      (kings-of (normalised b) (normal-ruled b h))

  number_is : (b : Board) → HasNumber material b → number_of b ≡ least_of material b
  unfolding number_of
  number_is b h =
      le_antisymm
      (⊎_elim (λ z. let l = number_lt b h in omega arith)
      (λ z. subst⁻¹ (λ (n : ℕ). number_of b ≤ n) z.2 (normal-least b h z.0 z.1))
      (least-at changed_by ruled key_of (924 * spread material) changes b))
      (subst⁻¹ (λ (c : Board). least_of material b ≤ key_of c) (normal-image b)
      (least-le changed_by ruled key_of (924 * spread material) b (every-change (normalising b))
      (subst (λ (c : Board). T (ruled c)) (normal-image b) (normal-ruled b h))))

  -- "the smallest number that any king-rule map, or an exchange of like men, or both, can give"
  pub number-least : (b : Board) → HasNumber material b → number_of b ≡ least_key b
  unfolding least_key
  number-least b h = number_is b h ∙ ap (λ (m : List Piece). least_of m b) (sym h.men)

  -- one number throughout a class
  pub number-along : (s : Change) (b : Board) → HasNumber material b → number_of (changed_by s b) ≡ number_of b
  number-along s b h =
      number_is (changed_by s b) (has-changed s b h)
      ∙ class-kept changed_by ruled key_of (924 * spread material) changes every-change then undo (HasNumber material)
      has-changed (λ s t b h. changes-compose s t b) (λ s b h. change-undone s b) s b h
      ∙ sym (number_is b h)

  -- and one class for each number
  pub number-class : (b c : Board) → HasNumber material b → HasNumber material c → number_of b ≡ number_of c
      → (s : Change) × (changed_by s b ≡ c)
  number-class b c h k e =
      class-one changed_by ruled key_of (924 * spread material) changes every-change then undo (HasNumber material)
      has-changed (λ s t b h. changes-compose s t b) (λ s b h. change-undone s b)
      (λ x y o p t u q. key-own x (standing x o (men-of x t)) y (standing y p (men-of y u)) (kings-of x t)
      (kings-of y u) q) b c h k
      (subst (λ (n : ℕ). n < 924 * spread material) (number_is b h) (number_lt b h))
      (sym (number_is b h) ∙ e ∙ number_is c k)

  -- demand 2's sameness, for one man and for two.
  pub same_number : (b c : Board) → HasNumber material b → HasNumber material c
      → (number_of b ≡ number_of c) ↔ ((s : Change) × (changed_by s b ≡ c))
  same_number b c h k = (number-class b c h k, λ s. sym (number-along s.0 b h) ∙ ap number_of s.1)

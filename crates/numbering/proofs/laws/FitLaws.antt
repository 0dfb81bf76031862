-- Which maps make a board with one man or two normal, of either colour: one, or two where kings and men all stand on
-- the diagonal or like men mirror each other; and how that map goes with a turn of the board, the order of the men and
-- the colours.
use Rattle.std.specs.Prelude.{◌≡◌, Bool, ◌&&◌, ◌||◌, ◌⊎◌, eqb}
use Rattle.std.proofs.Math.Path.{refl, ap, ap₂, subst, subst⁻¹, sym}
use Rattle.std.proofs.Common.{◌∙◌}
use Rattle.std.proofs.Math.Bool.{true, false, xor}
use Rattle.std.proofs.Math.Logic.{inl, inr}
use mathlib.Core.List.{List, [], ◌∷◌, map}
use Rattle.std.proofs.Math.Dec.{T}
use Rattle.finite.specs.Truth.{and_left, and_right, and_both, of-true, true-not-false}
use Rattle.finite.specs.Members.{all}
use Rattle.symmetry.specs.Symmetry.{Symmetry, inverse, composed, exchange}
use Rattle.symmetry.proofs.laws.SymmetryLaws.{then-inverse, then-nothing, nothing_then}
use Rattle.rules.specs.declared.Piece.{Piece}
use Rattle.rules.specs.Rules.{Board}
use Rattle.rules.specs.Changed.{swapped, changed_piece, changed}
use Rattle.rules.specs.Reordered.{crossed, reordered}
use Rattle.rules.proofs.laws.Changed.{board-eq, changed-composed}
use Rattle.rules.proofs.laws.ReorderedLaws.{crossed-map, crossed-back}
use Rattle.numbering.specs.Kings.{on_diagonal, cornered, king_rule}
use Rattle.numbering.specs.Normal.{turn}
use Rattle.numbering.specs.KingMaps.{king_map, swapping, Still}
use Rattle.numbering.specs.Men.{exchangeable, standard, crosses, first_black, like, ordered, prefers}
use Rattle.numbering.specs.Change.{Change, change, changed_by, then, undo}
use Rattle.numbering.specs.Number.{arranged, ruling_map, ruling_order, normal_by, normalised, number_of}
use Rattle.numbering.specs.Fits.{facing, aligned, two_fit, mirror}
use Rattle.numbering.proofs.laws.KingMaps.{king-map-chooses, kings-still}
use Rattle.numbering.proofs.laws.Numberable.{Numberable, ruled-cornered, separate-white, separate-black, maps-compose}
use Rattle.numbering.proofs.laws.NormalLaws.{turn-then}
use Rattle.numbering.proofs.laws.KeyLaws.{key-own}
use Rattle.numbering.proofs.laws.ChangeLaws.{HasNumber, has-changed, changes-compose, change-undone}
use Rattle.numbering.proofs.laws.OrderLaws.{standard-only}
use Rattle.numbering.proofs.laws.ClassLaws.{standing, arranged-men, arranged-has, last-men, normalising, normal-image, normal-has, normal-ruled, number-along}
use Rattle.numbering.proofs.laws.MirrorLaws.{diagonal, exchanged, kept, Mirrored, mirrored-men, mirrored-only, mirrored-settled, mirrored-back}

-- ---- with one man, or none, the normal board is a map's image, the colours exchanged where he is Black's

no_more : (x : Bool) → xor x false ≡ x
unfolding xor
no_more true = refl
no_more false = refl

-- the order does not count, and the colours of none are not exchanged
record AtMostOne (l : List Piece) : Type 0 where
  still : (e : Bool) → crossed e l ≡ l
  black : (first_black l && exchangeable l) ≡ first_black l

at_most_one : (l : List Piece) → (l ≡ []) ⊎ ((a : Piece) × (l ≡ a ∷ [])) → AtMostOne l
at_most_one l (inl e) = subst⁻¹ AtMostOne e (record { still = none; black = unfold first_black in refl })
  where
    none : (e : Bool) → crossed e [] ≡ []
    none true = unfold crossed in refl
    none false = unfold crossed in refl
at_most_one l (inr (a, e)) =
    subst⁻¹ AtMostOne e (record { still = same; black = unfold first_black exchangeable in colour (eqb a.colour 1) })
  where
    same : (e : Bool) → crossed e (a ∷ []) ≡ a ∷ []
    same true = unfold crossed in refl
    same false = unfold crossed in refl

    colour : (x : Bool) → (x && true) ≡ x
    colour true = refl
    colour false = refl

module _ (b : Board) (few : (b.men ≡ []) ⊎ ((a : Piece) × (b.men ≡ a ∷ []))) where
  one : AtMostOne b.men
  one = at_most_one b.men few

  pub few-arranged : arranged b ≡ changed (swapping false) (first_black b.men) b
  unfolding arranged changed_by
  few-arranged =
      ap₂ (changed (swapping false))
      (ap (λ (k : List Piece). first_black k && exchangeable b.men) (one.still (crosses b.men)) ∙ one.black)
      (board-eq refl refl refl (one.still (crosses b.men)))

  order : (e : Bool) → crossed e (arranged b).men ≡ (arranged b).men
  unfolding changed
  order e =
      let f = changed_piece (swapping false) (first_black b.men) in
      let m : (arranged b).men ≡ map f b.men = ap (λ (c : Board). c.men) few-arranged in
      ap (crossed e) m ∙ crossed-map f e b.men ∙ ap (map f) (one.still e) ∙ sym m

  few-placed : normalised b ≡ changed (normal_by b) false (arranged b)
  unfolding normalised changed_by
  few-placed = ap (changed (normal_by b) false) (board-eq refl refl refl (order (ruling_order (arranged b))))

  pub few-normal : normalised b ≡ changed (normal_by b) (first_black b.men) b
  few-normal =
      few-placed ∙ ap (changed (normal_by b) false) few-arranged
      ∙ changed-composed (swapping false) (normal_by b) (first_black b.men) false b
      ∙ ap₂ (λ (m : Symmetry) (x : Bool). changed m x b) (nothing_then (normal_by b)) (no_more (first_black b.men))

-- ---- the maps that fit

-- a board that the exchange leaves as it is
record Aligned (b : Board) : Type 0 where
  white : T (on_diagonal b.white)
  black : T (on_diagonal b.black)
  men : T (all diagonal b.men || facing b.men)

aligned-facts : (b : Board) → T (aligned b) → Aligned b
unfolding aligned
aligned-facts b t =
    let w = on_diagonal b.white in
    let k = on_diagonal b.black in
    let m = all diagonal b.men || facing b.men in
    record {
      white = and_left w (k && m) t;
      black = and_left k m (and_right w (k && m) t);
      men = and_right k m (and_right w (k && m) t);
    }

board-kept : (b : Board) → T (aligned b) → (e : Bool) × (changed_by (change e false exchange) b ≡ b)
unfolding changed_by changed swapped
board-kept b t =
    let a = aligned-facts b t in
    let m = mirrored-men b.men a.men in
    let e = m.0 && like b.men in (
      e,
      board-eq refl (kept b.white a.white) (kept b.black a.black)
          (sym (crossed-map (changed_piece exchange false) e b.men) ∙ ap (crossed e) m.1
          ∙ crossed-back e b.men),
    )

-- the map by which a board is made normal, as part of that change
via-normal : (b : Board) → (normalising b).symmetry ≡ normal_by b
unfolding then
via-normal b = nothing_then (normal_by b)

module _ {material : List Piece} (b : Board) (h : HasNumber material b) where
  abbrev n : Board
  n = normalised b

  kings-ruled : T (king_rule n.white n.black)
  kings-ruled = and_left (king_rule n.white n.black) (standard n.men) (normal-ruled b h)

  in-order : T (standard n.men)
  in-order = and_right (king_rule n.white n.black) (standard n.men) (normal-ruled b h)

  pub normal-numberable : Numberable material n
  normal-numberable = standing n (normal-has b h) in-order

  -- a change from the normal board to itself is no map but the exchange, if that
  module _ (s : Change) (e : changed_by s n ≡ n) where
    only : ((s.colours && exchangeable n.men) ≡ false)
        × (crossed s.order n.men ≡ crossed (s.order && like n.men) n.men)
    unfolding changed_by changed
    only =
        standard-only s.symmetry s.colours s.order n.men (normal-has b h).colours in-order
        (subst⁻¹ (λ (c : Board). T (standard c.men)) e in-order)

    abbrev g : Bool
    g = s.order && like n.men

    fixed : changed s.symmetry false (reordered g n) ≡ n
    unfolding changed_by
    fixed = sym (ap₂ (changed s.symmetry) only.0 (board-eq refl refl refl only.1)) ∙ e

    corner : T (cornered n.white n.black)
    corner = ruled-cornered n.white n.black kings-ruled

    still : Still n.white n.black s.symmetry
    unfolding changed
    still =
        kings-still n.white n.black s.symmetry
        (separate-white n.white n.black normal-numberable.kings)
        (separate-black n.white n.black normal-numberable.kings) corner
        (subst⁻¹ (λ (d : Board). T (cornered d.white d.black)) fixed corner)

    still-normal : (s.symmetry ≡ swapping false) ⊎ ((s.symmetry ≡ exchange) × T (two_fit b))
    unfolding two_fit aligned changed
    still-normal = go s.symmetry.swap refl
      where
        go : (x : Bool) → s.symmetry.swap ≡ x
            → (s.symmetry ≡ swapping false) ⊎ ((s.symmetry ≡ exchange) × T (aligned n))
        go false q = inl (still.only ∙ ap swapping q)
        go true q =
            let is : s.symmetry ≡ exchange = still.only ∙ ap swapping q in
            let w = on_diagonal n.white in
            let k = on_diagonal n.black in
            let d = still.diagonals (of-true q) in
            let m : map (changed_piece exchange false) (crossed g n.men) ≡ n.men =
            ap (λ (c : Board). c.men) (subst (λ (x : Symmetry). changed x false (reordered g n) ≡ n) is fixed) in
            let own : Mirrored n.men = (
              s.order,
              sym (crossed-back g (exchanged n.men))
                  ∙ ap (crossed g) (crossed-map (changed_piece exchange false) g n.men ∙ m),
            ) in
            inr (
              is,
              and_both w (k && (all diagonal n.men || facing n.men)) (and_left w k d)
                  (and_both k (all diagonal n.men || facing n.men) (and_right w k d)
                  (mirrored-only n.men normal-numberable.squares own)),
            )

  -- No other map makes the board normal, the men in either order and the colours exchanged or not, but for the exchange
  -- after it where two fit.
  pub fits-only : (s : Change) → changed_by s b ≡ n
      → (s.symmetry ≡ normal_by b) ⊎ ((s.symmetry ≡ composed (normal_by b) exchange) × T (two_fit b))
  unfolding then undo
  fits-only s e = go (still-normal t there)
    where
      t : Change
      t = then (undo (normalising b)) s

      there : changed_by t n ≡ n
      there = sym (changes-compose (undo (normalising b)) s n)
          ∙ ap (changed_by s)
          (ap (changed_by (undo (normalising b))) (normal-image b) ∙ change-undone (normalising b) b) ∙ e

      own : composed (normal_by b) t.symmetry ≡ s.symmetry
      own = ap (λ (k : Symmetry). composed (normal_by b) (composed (inverse k) s.symmetry)) (via-normal b)
          ∙ then-inverse (normal_by b) s.symmetry

      go : (t.symmetry ≡ swapping false) ⊎ ((t.symmetry ≡ exchange) × T (two_fit b))
          → (s.symmetry ≡ normal_by b) ⊎ ((s.symmetry ≡ composed (normal_by b) exchange) × T (two_fit b))
      go (inl q) = inl (sym own ∙ ap (composed (normal_by b)) q ∙ then-nothing (normal_by b))
      go (inr q) = inr (sym own ∙ ap (composed (normal_by b)) q.0, q.1)

  -- There both do, ..
  pub fits-too : T (two_fit b)
      → (s : Change) × (s.symmetry ≡ composed (normal_by b) exchange) × (changed_by s b ≡ n)
  unfolding two_fit then
  fits-too t =
      let w = board-kept n t in
      let s = change w.0 false exchange in (
        then (normalising b) s,
        ap (λ (k : Symmetry). composed k exchange) (via-normal b),
        sym (changes-compose (normalising b) s b) ∙ ap (changed_by s) (sym (normal-image b)) ∙ w.1,
      )

  -- .. and of the two it is the one without the exchange that counts.
  pub fits-plain : T (two_fit b) → (normal_by b).swap ≡ false
  unfolding two_fit normalised ruling_map king_map changed_by changed
  fits-plain t = go (normal_by b).swap refl
    where
      c : Board
      c = arranged b

      men : List Piece
      men = (changed (turn c.white) false c).men

      has : HasNumber material c
      has = arranged-has b h

      a : Aligned n
      a = aligned-facts n t

      chooses : (normal_by b).swap ≡ prefers men
      chooses =
          king-map-chooses c.white c.black (prefers men) (separate-white c.white c.black has.kings)
          (separate-black c.white c.black has.kings)
          (and_both (on_diagonal n.white) (on_diagonal n.black) a.white a.black)

      through : (x : Bool) → (normal_by b).swap ≡ x
          → map (changed_piece (swapping x) false) men ≡ map (changed_piece (normal_by b) false) c.men
      through x q =
          ap (λ (d : Board). d.men)
          (maps-compose (turn c.white) (swapping x) c
          ∙ ap (λ (k : Symmetry). changed k false c) (turn-then c.white x
          ∙ ap (λ (z : Bool). record { files = (turn c.white).files; ranks = (turn c.white).ranks; swap = z })
          (sym q)))

      go : (x : Bool) → (normal_by b).swap ≡ x → (normal_by b).swap ≡ false
      go false q = q
      go true q =
          chooses
          ∙ mirrored-settled men
          (mirrored-back men
          (subst Mirrored (last-men c has (arranged-men b h) ∙ ap ordered (sym (through true q)))
          (mirrored-men n.men a.men)))

  -- the mirror leaves the board as it is, like men in either order
  pub mirror-kept : T (two_fit b) → (e : Bool) × (changed_by (change e false (mirror b)) b ≡ b)
  unfolding two_fit mirror then undo
  mirror-kept t =
      let w = board-kept n t in
      let u = normalising b in
      let k = change w.0 false exchange in
      let e : changed_by (then (then u k) (undo u)) b ≡ b = sym (changes-compose (then u k) (undo u) b)
      ∙ ap (changed_by (undo u))
      (sym (changes-compose u k b) ∙ ap (changed_by k) (sym (normal-image b)) ∙ w.1 ∙ normal-image b)
      ∙ change-undone u b in
      let order = xor (xor u.order w.0) u.order in (
        order,
        ap₂ (λ (x : Bool) (m : Symmetry). changed_by (change order x (composed (composed m exchange) (inverse m))) b)
            (sym (undone u.colours)) (sym (via-normal b)) ∙ e,
      )
    where
      undone : (x : Bool) → xor (xor x false) x ≡ false
      undone true = unfold xor in refl
      undone false = unfold xor in refl

  -- ---- a turn of the board, the men in either order and the colours exchanged or not

  -- the normal board stays
  pub same-normal : (s : Change) → normalised (changed_by s b) ≡ n
  unfolding number_of
  same-normal s =
      let c = changed_by s b in
      let k : HasNumber material c = has-changed s b h in
      let kings = king_rule (normalised c).white (normalised c).black in
      let r = normal-ruled c k in
      key-own (normalised c)
      (standing (normalised c) (normal-has c k) (and_right kings (standard (normalised c).men) r)) n
      normal-numberable (and_left kings (standard (normalised c).men) r) kings-ruled (number-along s b h)

module _ {material : List Piece} (s : Change) (b : Board) (h : HasNumber material b) where
  abbrev c : Board
  c = changed_by s b

  abbrev m : Symmetry
  m = s.symmetry

  -- the turn, and then the map by which the turned board is made normal
  abbrev through : Symmetry
  through = composed m (normal_by c)

  through-fits : (through ≡ normal_by b) ⊎ ((through ≡ composed (normal_by b) exchange) × T (two_fit b))
  unfolding then
  through-fits =
      subst (λ (k : Symmetry). (k ≡ normal_by b) ⊎ ((k ≡ composed (normal_by b) exchange) × T (two_fit b)))
      (ap (composed m) (via-normal c))
      (fits-only b h (then s (normalising c))
      (sym (changes-compose s (normalising c) b) ∙ sym (normal-image c) ∙ same-normal b h s))

  -- where two fit, it exchanges file and rank exactly if the turn does
  through-swap : T (two_fit b) → through.swap ≡ m.swap
  unfolding two_fit composed
  through-swap t =
      ap (xor m.swap)
      (fits-plain c (has-changed s b h) (subst⁻¹ (λ (d : Board). T (aligned d)) (same-normal b h s) t))
      ∙ no_more m.swap

  other-swap : T (two_fit b) → (composed (normal_by b) exchange).swap ≡ true
  unfolding composed xor
  other-swap t = ap (λ (x : Bool). xor x true) (fits-plain b h t)

  -- It is the map by which the board itself is made normal, ..
  pub turn-plain : (T (two_fit b) → m.swap ≡ false) → through ≡ normal_by b
  turn-plain g = go through-fits
    where
      go : (through ≡ normal_by b) ⊎ ((through ≡ composed (normal_by b) exchange) × T (two_fit b)) → through ≡ normal_by b
      go (inl e) = e
      go (inr e) =
          absurd (true-not-false (other-swap e.1)
          (sym (ap (λ (k : Symmetry). k.swap) e.0) ∙ through-swap e.1 ∙ g e.1))

  -- .. but where two fit and the turn exchanges file and rank, it is the other one.
  pub turn-mirrored : T (two_fit b) → m.swap ≡ true → through ≡ composed (normal_by b) exchange
  turn-mirrored t g = go through-fits
    where
      go : (through ≡ normal_by b) ⊎ ((through ≡ composed (normal_by b) exchange) × T (two_fit b))
          → through ≡ composed (normal_by b) exchange
      go (inl e) =
          absurd (true-not-false g (sym (through-swap t) ∙ ap (λ (k : Symmetry). k.swap) e ∙ fits-plain b h t))
      go (inr e) = e.0

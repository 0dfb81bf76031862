-- The men in standard order and colours, as code puts them, are the numbering's arrangement; and the least key then
-- leads to the normal place and the map.
use Rattle.std.specs.Prelude.{◌≡◌, Bool, ◌&&◌, ◌||◌, T, leb, None, Option, Some}
use Rattle.std.proofs.Math.Path.{refl, ap, ap₂, subst, subst⁻¹, sym}
use Rattle.std.proofs.Common.{◌∙◌, arith, le→leb, lt→ltb, ltb→lt}
use Rattle.std.proofs.Math.Bool.{true, false, cond, not}
use mathlib.Core.List.{[], ◌∷◌}
use Prim.Native.Nat.{ℕ, zero, suc, ◌-◌, ◌<◌, ◌≤◌}
use Rattle.std.proofs.Math.Dec.{ltb, eqb}
use borrow.Author.Tests.{le-ltb, lt-leb, leb-false, eq-eqb, ne_eqb, eqb-true, eqb-false, ltb-true, ltb-false}
use Rattle.finite.specs.Truth.{and_left, and_right, and_both, refuted, eqb-sym}
use Rattle.finite.specs.Members.{all}
use Rattle.symmetry.specs.Symmetry.{mapped}
use Rattle.rules.specs.declared.Piece.{Piece}
use Rattle.rules.specs.Rules.{Board, piece_of}
use Rattle.rules.specs.Changed.{other, swapped, changed}
use Rattle.rules.specs.Reordered.{crossed}
use Rattle.rules.proofs.laws.Changed.{board-eq}
use Rattle.numbering.specs.declared.Material.{Material}
use Rattle.numbering.specs.KingMaps.{swapping}
use Rattle.numbering.specs.Men.{exchangeable, crosses, first_black}
use Rattle.numbering.specs.Material.{known, one_of, material_in}
use Rattle.numbering.proofs.laws.MaterialLaws.{one_piece, one_known}
use Rattle.numbering.specs.Change.{changed_by}
use Rattle.numbering.specs.Number.{arranged}
use Rattle.numbering.proofs.laws.NormalLaws.{stays-diagonal}
use Rattle.position.specs.declared.Position.{Position}
use Rattle.position.specs.Keyed.{board_of, man_in, nobody}
use Rattle.position.specs.Refusals.{placing_with}
use Rattle.position.specs.Posed.{board_in, material_for}
use Rattle.position.proofs.laws.OwnerLaws.{other-side}
use Rattle.index.specs.declared.Arranged.{Arranged}
use Rattle.index.specs.Seats.{Seated}
use Rattle.index.specs.Arranging.{goes_after, white_first, arranged_as, Arranges}
use Rattle.index.proofs.laws.SeatLaws.{board-one, board-two}
use Rattle.index.proofs.laws.CompleteLaws.{PlacedOf, placed-facts-with}

-- ---- as code finds it

module _ (p : Position) (a c : Piece) (e : a ≡ man_in p.first) (f : c ≡ man_in p.second) where
  pub arranged-after : goes_after a c ≡ true → white_first c a p ≡ arranged_as p
  unfolding arranged_as
  arranged-after t = sym (rw (← e, ← f, t))

  pub arranged-before : goes_after a c ≡ false → white_first a c p ≡ arranged_as p
  unfolding arranged_as
  arranged-before t = sym (rw (← e, ← f, t))

  pub arranged-chosen : (after : Bool) → after ≡ goes_after a c → (x y : Piece) → x ≡ cond after c a → y ≡ cond after a c
      → white_first x y p ≡ arranged_as p
  arranged-chosen true g x y u v = ap₂ (λ (i j : Piece). white_first i j p) u v ∙ arranged-after (sym g)
  arranged-chosen false g x y u v = ap₂ (λ (i j : Piece). white_first i j p) u v ∙ arranged-before (sym g)

-- ---- the first man White's, in standard order: kinds j and k, colours c and d

in_place : (s : ℕ) → mapped (swapping false) s ≡ s
in_place s = stays-diagonal false s (λ t. absurd t)

-- of two men in order, the colours may be exchanged where the first is Black's
may-exchange : (j k d : ℕ) → d < 2 → (j ≡ k → 1 ≤ d) → not (eqb j k && not (eqb 1 d)) ≡ true
may-exchange j k d h f = go (eqb j k) refl
  where
    go : (e : Bool) → eqb j k ≡ e → not (e && not (eqb 1 d)) ≡ true
    go true e = let g = f (eqb-true j k e) in rw (eq-eqb 1 d (omega (arith, g)))
    go false e = refl

two-eq : {j j' k k' : ℕ} {r r' : Bool} → j ≡ j' → k ≡ k' → r ≡ r' → Material.Two j k r ≡ Material.Two j' k' r'
two-eq p q r = λ i. Material.Two (p i) (q i) (r i)

rivals : (c d : ℕ) → c < 2 → d < 2 → eqb (cond (eqb c 1) (1 - d) d) 1 ≡ not (eqb c d)
rivals zero zero h k = refl
rivals zero (suc zero) h k = refl
rivals (suc zero) zero h k = refl
rivals (suc zero) (suc zero) h k = refl
rivals zero (suc (suc n)) h k = absurd (omega arith)
rivals (suc zero) (suc (suc n)) h k = absurd (omega arith)
rivals (suc (suc n)) d h k = absurd (omega arith)

-- what the code has made, of a board
record Owned (b : Board) (m : Material) (r : Arranged) : Type 0 where
  seated : Seated r.men r.place
  side : r.place.side < 2
  board : board_in r.men r.place ≡ b
  material : material_for r.men ≡ m

module _ (j k x y : ℕ) (hx : x < 64) (hy : y < 64) (hk : k < 4) (h : j ≤ k) where
  seat-two : (d side white black : ℕ) → d < 2 → white < 64 → black < 64
      → Seated (record { first = j; second = k; colour = d })
      (record { side = side; white = white; black = black; first = x; second = y })
  seat-two d side white black hd hw hb = record {
    ending = rw (lt-leb 4 k hk) (and_both (leb j k) (ltb k 4) (le→leb j k h) (lt→ltb k 4 hk));
    colour = hd;
    white = hw;
    black = hb;
    first = hx;
    second = lt-leb 64 y hy ∙ sym (lt-leb 4 k hk);
  }

  two-material : (d : ℕ) → material_for (record { first = j; second = k; colour = d }) ≡ Material.Two j k (eqb d 1)
  two-material d = rw (lt-leb 4 k hk)

  -- two men in order, their colours exchanged where the first is Black's
  owned-two : (c d side white black : ℕ) (first second : Option Piece) → c < 2 → d < 2 → side < 2 → white < 64 → black < 64
      → (j ≡ k → c ≤ d)
      → Owned (changed (swapping false) (eqb c 1 && not (eqb j k && not (eqb c d)))
      (record { side = side; white = white; black = black; men = piece_of j c x ∷ piece_of k d y ∷ [] }))
      (Material.Two j k (not (eqb c d)))
      (white_first (piece_of j c x) (piece_of k d y)
      (record { side = side; white_king = white; black_king = black; first = first; second = second }))
  unfolding white_first changed swapped other
  owned-two zero d side white black first second hc hd hs hw hb o =
      let s = seat-two d side white black hd hw hb in
      record {
        seated = s;
        side = hs;
        board = board-two _ _ hx (lt-leb 64 y hy)
            ∙ sym (board-eq refl (in_place white) (in_place black)
            (ap₂ (λ (s t : ℕ). piece_of j 0 s ∷ piece_of k d t ∷ []) (in_place x) (in_place y)));
        material = two-material d ∙ ap (Material.Two j k) (rivals 0 d hc hd);
      }
  owned-two (suc zero) d side white black first second hc hd hs hw hb o =
      let s = seat-two (1 - d) (1 - side) black white (omega arith) hb hw in
      record {
        seated = s;
        side = omega arith;
        board = board-two _ _ hx (lt-leb 64 y hy)
            ∙ sym (ap (λ (e : Bool). changed (swapping false) e
            (record { side = side; white = white; black = black; men = piece_of j 1 x ∷ piece_of k d y ∷ [] }))
            (may-exchange j k d hd o)
            ∙ board-eq (sym (other-side side hs)) (in_place black) (in_place white)
            (ap₂ (λ (s : ℕ) (t : Piece). piece_of j 0 s ∷ t ∷ []) (in_place x)
            (ap₂ (λ (e t : ℕ). piece_of k e t) (sym (other-side d hd)) (in_place y))));
        material = two-material (1 - d) ∙ ap (Material.Two j k) (rivals 1 d hc hd);
      }
  owned-two (suc (suc n)) d side white black first second hc hd hs hw hb o = absurd (omega arith)

-- one man, the colours exchanged where he is Black's
seat-one : (kind colour side white black square : ℕ) → kind < 4 → colour < 2 → white < 64 → black < 64 → square < 64
    → Seated (record { first = kind; second = 4; colour = colour })
    (record { side = side; white = white; black = black; first = square; second = 64 })
seat-one kind colour side white black square hk hc hw hb hx = record {
  ending = subst⁻¹ (λ (x : Material). T (known x)) (one_piece kind hk) (lt→ltb kind 4 hk);
  colour = hc;
  white = hw;
  black = hb;
  first = hx;
  second = refl;
}

owned-one : (kind colour side white black square : ℕ) (first second : Option Piece) → kind < 4 → colour < 2 → side < 2
    → white < 64 → black < 64 → square < 64
    → Owned (changed (swapping false) (eqb colour 1 && true)
    (record { side = side; white = white; black = black; men = piece_of kind colour square ∷ [] }))
    (one_of kind)
    (white_first (piece_of kind colour square) nobody
    (record { side = side; white_king = white; black_king = black; first = first; second = second }))
unfolding white_first changed swapped other
owned-one kind zero side white black square first second hk hc hs hw hb hx = record {
  seated = seat-one kind 0 side white black square hk hc hw hb hx;
  side = hs;
  board = board-one _ _ hx refl
      ∙ sym (board-eq refl (in_place white) (in_place black)
      (ap (λ (s : ℕ). piece_of kind 0 s ∷ []) (in_place square)));
  material = refl;
}
owned-one kind (suc zero) side white black square first second hk hc hs hw hb hx = record {
  seated = seat-one kind 1 (1 - side) black white square hk hc hb hw hx;
  side = omega arith;
  board = board-one _ _ hx refl
      ∙ sym (board-eq (sym (other-side side hs)) (in_place black) (in_place white)
      (ap (λ (s : ℕ). piece_of kind 0 s ∷ []) (in_place square)));
  material = refl;
}
owned-one kind (suc (suc n)) side white black square first second hk hc hs hw hb hx = absurd (omega arith)

-- ---- a placed position

-- the facts of its two men
either-false : (a b : Bool) → (a || b) ≡ false → (a ≡ false) × (b ≡ false)
either-false true b e = absurd (refuted e tt)
either-false false b e = (refl, e)

module _ (side white black : ℕ) (hs : side < 2) (hw : white < 64) (hb : black < 64) where
  abbrev keyed_with : Option Piece → Option Piece → Position
  keyed_with f s = record { side = side; white_king = white; black_king = black; first = f; second = s }

  abbrev Goal : Option Piece → Option Piece → Type 0
  Goal f s = Owned (arranged (board_of (keyed_with f s))) (material_in (board_of (keyed_with f s)).men)
      (arranged_as (keyed_with f s))

  single : (a : Piece) → a.kind < 4 → a.colour < 2 → a.square < 64 → Goal (Some a) None
  unfolding arranged crosses crossed first_black changed_by exchangeable board_of
  single a hk hc hx =
      subst (Owned (arranged (board_of (keyed_with (Some a) None))) (one_of a.kind))
      (arranged-before (keyed_with (Some a) None) a nobody refl refl
      (unfold goes_after in
      rw (ne_eqb a.kind 4 (λ z. absurd (omega (arith, z))), le-ltb 4 a.kind (omega arith))))
      (owned-one a.kind a.colour side white black a.square (Some a) None hk hc hs hw hb hx)

  -- in order already, or to be crossed
  module _ (a c : Piece) (ka : a.kind < 4) (kc : c.kind < 4) (ca : a.colour < 2) (cc : c.colour < 2)
      (xa : a.square < 64) (xc : c.square < 64) where
    abbrev placing : Position
    placing = keyed_with (Some a) (Some c)

    arranged-by : (e : Bool) → goes_after a c ≡ e
        → arranged (board_of placing)
        ≡ changed (swapping false)
        (first_black (crossed e (a ∷ c ∷ [])) && not
        (eqb a.kind c.kind && not (eqb a.colour c.colour)))
        (record { side = side; white = white; black = black; men = crossed e (a ∷ c ∷ []) })
    unfolding arranged crosses changed_by exchangeable board_of goes_after
    arranged-by e t = rw t

    in-order : goes_after a c ≡ false → (a.kind ≤ c.kind) × (a.kind ≡ c.kind → a.colour ≤ c.colour)
    unfolding goes_after
    in-order t = go (eqb a.kind c.kind) refl t
      where
        go : (e : Bool) → eqb a.kind c.kind ≡ e
            → cond e (ltb c.colour a.colour) (ltb c.kind a.kind) ≡ false
            → (a.kind ≤ c.kind) × (a.kind ≡ c.kind → a.colour ≤ c.colour)
        go true e t = (omega (arith, eqb-true a.kind c.kind e), λ z. ltb-false c.colour a.colour t)
        go false e t = (ltb-false c.kind a.kind t, λ z. absurd (eqb-false a.kind c.kind e z))

    out_of_order : goes_after a c ≡ true → (c.kind ≤ a.kind) × (c.kind ≡ a.kind → c.colour ≤ a.colour)
    unfolding goes_after
    out_of_order t = go (eqb a.kind c.kind) refl t
      where
        go : (e : Bool) → eqb a.kind c.kind ≡ e
            → cond e (ltb c.colour a.colour) (ltb c.kind a.kind) ≡ true
            → (c.kind ≤ a.kind) × (c.kind ≡ a.kind → c.colour ≤ a.colour)
        go true e t =
            let l = ltb-true c.colour a.colour t in
            (omega (arith, eqb-true a.kind c.kind e), λ z. omega (arith, l))
        go false e t =
            let l = ltb-true c.kind a.kind t in (omega (arith, l), λ z. absurd (omega (arith, l, z)))

    kept : goes_after a c ≡ false → Goal (Some a) (Some c)
    unfolding board_of crossed first_black
    kept t =
        let o = in-order t in
        let l : a.kind ≤ c.kind = o.0 in
        subst (Owned (arranged (board_of placing)) (material_in (a ∷ c ∷ []))) (arranged-before placing a c refl refl t)
        (subst⁻¹ (λ (b : Board). Owned b (material_in (a ∷ c ∷ [])) (white_first a c placing)) (arranged-by false t)
        (subst (λ (m : Material). Owned (changed (swapping false)
        (eqb a.colour 1 && not (eqb a.kind c.kind && not (eqb a.colour c.colour)))
        (record { side = side; white = white; black = black; men = a ∷ c ∷ [] })) m (white_first a c placing))
        (two-eq (omega arith) (omega arith) refl)
        (owned-two a.kind c.kind a.square c.square xa xc kc l a.colour c.colour side white black
        (Some a) (Some c) ca cc hs hw hb o.1)))

    turned : goes_after a c ≡ true → Goal (Some a) (Some c)
    unfolding board_of crossed first_black
    turned t =
        let o = out_of_order t in
        let l : c.kind ≤ a.kind = o.0 in
        let e : not (eqb c.kind a.kind && not (eqb c.colour a.colour))
        ≡ not (eqb a.kind c.kind && not (eqb a.colour c.colour))
        = ap₂ (λ (x y : Bool). not (x && not y)) (eqb-sym c.kind a.kind) (eqb-sym c.colour a.colour) in
        subst (Owned (arranged (board_of placing)) (material_in (a ∷ c ∷ []))) (arranged-after placing a c refl refl t)
        (subst⁻¹ (λ (b : Board). Owned b (material_in (a ∷ c ∷ [])) (white_first c a placing)) (arranged-by true t)
        (subst (λ (x : Bool). Owned (changed (swapping false) (eqb c.colour 1 && x)
        (record { side = side; white = white; black = black; men = c ∷ a ∷ [] })) (material_in (a ∷ c ∷ []))
        (white_first c a placing)) e
        (subst (λ (m : Material). Owned (changed (swapping false)
        (eqb c.colour 1 && not (eqb c.kind a.kind && not (eqb c.colour a.colour)))
        (record { side = side; white = white; black = black; men = c ∷ a ∷ [] })) m (white_first c a placing))
        (two-eq (omega arith) (omega arith) (ap not (eqb-sym c.colour a.colour)))
        (owned-two c.kind a.kind c.square a.square xc xa ka l c.colour a.colour side white black
        (Some a) (Some c) cc ca hs hw hb o.1))))

    both : Goal (Some a) (Some c)
    both = go (goes_after a c) refl
      where
        go : (e : Bool) → goes_after a c ≡ e → Goal (Some a) (Some c)
        go true t = turned t
        go false t = kept t

  arranges : (f s : Option Piece) → PlacedOf (keyed_with f s) → T (known (material_in (board_of (keyed_with f s)).men)) → Goal f s
  unfolding board_of all
  arranges None s w t = absurd (refuted w.men tt)
  arranges (Some a) None w t =
      let on = and_right (ltb black 64) (ltb a.square 64 && true)
      (and_right (ltb white 64) (ltb black 64 && (ltb a.square 64 && true)) w.squares) in
      single a (one_known a.kind t) (ltb→lt a.colour 2 (and_left (ltb a.colour 2) true w.colours))
      (ltb→lt a.square 64 (and_left (ltb a.square 64) true on))
  arranges (Some a) (Some c) w t =
      let xc = ltb c.square 64 && true in
      let on = and_right (ltb black 64) (ltb a.square 64 && xc)
      (and_right (ltb white 64) (ltb black 64 && (ltb a.square 64 && xc)) w.squares) in
      let kinds = either-false (leb 4 a.kind) (leb 4 c.kind) w.men in
      let dc = ltb c.colour 2 && true in
      both a c (leb-false 4 a.kind kinds.0) (leb-false 4 c.kind kinds.1)
      (ltb→lt a.colour 2 (and_left (ltb a.colour 2) dc w.colours))
      (ltb→lt c.colour 2
      (and_left (ltb c.colour 2) true (and_right (ltb a.colour 2) dc w.colours)))
      (ltb→lt a.square 64 (and_left (ltb a.square 64) xc on))
      (ltb→lt c.square 64 (and_left (ltb c.square 64) true (and_right (ltb a.square 64) xc on)))

-- of an ending of pieces
pub placed-arranges : (p : Position) → T (known (material_in (board_of p).men)) → placing_with p ≡ 0
    → Arranges p (arranged_as p)
unfolding board_of all
placed-arranges p t z =
    let w = placed-facts-with p z in
    let men = all (λ a. ltb a.square 64) (board_of p).men in
    let white = ltb→lt p.white_king 64
    (and_left (ltb p.white_king 64) (ltb p.black_king 64 && men) w.squares) in
    let black = ltb→lt p.black_king 64
    (and_left (ltb p.black_king 64) men
    (and_right (ltb p.white_king 64) (ltb p.black_king 64 && men) w.squares)) in
    let r = arranges p.side p.white_king p.black_king w.side white black p.first p.second w t in
    record { seated = r.seated; side = r.side; board = r.board; material = r.material }

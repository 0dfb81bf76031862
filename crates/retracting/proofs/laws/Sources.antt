-- Where the piece on a square may have come from: by its own steps, back over the squares as they stand, to a square that is free.
use Rattle.std.specs.Prelude.{◌≡◌, refl, Bool, false, cond, ◌&&◌, ◌||◌, ◌⊎◌, ℕ, ◌-◌, ◌<◌, leb, eqb}
use Rattle.std.proofs.Math.Path.{sym, ap, subst, subst⁻¹}
use Rattle.std.proofs.Common.{◌∙◌, inl, inr, arith, eqb→eq, leb-true, leb-false, eq-eqb, ne_eqb, eqb-true}
use Rattle.std.proofs.Math.Bool.{true, not, and-false}
use Rattle.std.proofs.Math.Dec.{T}
use Rattle.std.proofs.lemmas.Bool.{lt-leb, eqb-false}
use Rattle.finite.specs.Truth.{decided, and_left, and_right, and_both, or_left, or_right, false_of, refuted}
use Rattle.board.specs.Reach.{reaches}
use Rattle.board.proofs.laws.ReachLaws.{reaches-squares}
use Rattle.board.proofs.laws.Blocking.{reaches-own}
use Rattle.rules.specs.Rules.{Board, occupied, in_check, legal, stands, goes, carried, moved, can_move}
use Rattle.rules.proofs.laws.Legal.{legal-facts}
use Rattle.rules.proofs.laws.CanMove.{can-facts, can-on, reach-piece}
use Rattle.rules.proofs.laws.Closed.{takes-no-king}
use Rattle.position.specs.declared.Men.{Men}
use Rattle.position.specs.declared.Place.{Place}
use Rattle.position.specs.Keyed.{board_of}
use Rattle.position.specs.Over.{goes_over}
use Rattle.position.specs.Posed.{posed, board_in, Complete}
use Rattle.position.specs.Spread.{Spread}
use Rattle.position.proofs.laws.PosedLaws.{complete-spread}
use Rattle.index.specs.Seats.{Seated}
use Rattle.index.proofs.laws.CompleteLaws.{complete-seated}
use Rattle.movegen.specs.Places.{square_after, place_after}
use Rattle.movegen.proofs.laws.Places.{occupied-men, stands-men, place-moved}
use Rattle.movegen.proofs.laws.Lines.{reaches-again}
use Rattle.movegen.specs.Reach.{Alone}
use Rattle.movegen.proofs.laws.Alone.{white-alone, black-alone, first_alone, second-alone}
use Rattle.retracting.specs.Retracting.{Leads, Missing, LegalLeft, Seat, loser, put_again, place_before}
use Rattle.retracting.proofs.laws.Back.{Free, king-again, man-again, gone-king, gone-man, there_and_back, before-and-after, free-after, occupied-else, occupied-before}

-- ---- the piece on a square

seat-alone : (m : Men) (q : Place) (kind owner s : ℕ) → Spread m q → Seat m q kind owner s → Alone m q kind owner s
seat-alone m q kind owner s w Seat.white = white-alone m q w
seat-alone m q kind owner s w Seat.black = black-alone m q w
seat-alone m q kind owner s w Seat.first = first_alone m q w
seat-alone m q kind owner s w Seat.second = second-alone m q w

-- it is moved
seat-after : (m : Men) (q : Place) (kind owner x y : ℕ) → (x ≡ y → ⊥) → Seat m q kind owner x
    → Seat m (place_after q x y) kind owner y
unfolding place_after
seat-after m q kind owner x y d Seat.white =
    subst (λ (s : ℕ). Seat m (place_after q q.white y) 5 0 s) (rw (eq-eqb q.white q.white refl)) Seat.white
seat-after m q kind owner x y d Seat.black =
    subst (λ (s : ℕ). Seat m (place_after q q.black y) 5 1 s) (rw (eq-eqb q.black q.black refl)) Seat.black
seat-after m q kind owner x y d Seat.first =
    subst (λ (s : ℕ). Seat m (place_after q q.first y) m.first 0 s)
    (rw (ne_eqb q.first y d, eq-eqb q.first q.first refl)) Seat.first
seat-after m q kind owner x y d Seat.second =
    subst (λ (s : ℕ). Seat m (place_after q q.second y) m.second m.colour s)
    (rw (ne_eqb q.second y d, eq-eqb q.second q.second refl)) Seat.second

pub seat-before : (m : Men) (q : Place) (taken kind owner x y : ℕ) → Missing m q taken → (x ≡ y → ⊥) → x < 64 → Seat m q kind owner x
    → Seat m (place_before q taken y x) kind owner y
unfolding put_again place_after
seat-before m q taken kind owner x y (Missing.nobody a b) d l seat = seat-after m q kind owner x y d seat
seat-before m q taken kind owner x y (Missing.first a b c) d l seat = go kind owner x d l seat
  where
    go : (i j t : ℕ) → (t ≡ y → ⊥) → t < 64 → Seat m q i j t → Seat m (place_before q 1 y t) i j y
    go i j t d l Seat.white =
        subst (λ (s : ℕ). Seat m (place_before q 1 y q.white) 5 0 s) (rw (eq-eqb q.white q.white refl)) Seat.white
    go i j t d l Seat.black =
        subst (λ (s : ℕ). Seat m (place_before q 1 y q.black) 5 1 s) (rw (eq-eqb q.black q.black refl)) Seat.black
    go i j t d l Seat.first = absurd (omega (arith, l, a))
    go i j t d l Seat.second =
        subst (λ (s : ℕ). Seat m (place_before q 1 y q.second) m.second m.colour s)
        (rw (ne_eqb q.second y d, eq-eqb q.second q.second refl)) Seat.second
seat-before m q taken kind owner x y (Missing.second a b c) d l seat = go kind owner x d l seat
  where
    go : (i j t : ℕ) → (t ≡ y → ⊥) → t < 64 → Seat m q i j t → Seat m (place_before q 2 y t) i j y
    go i j t d l Seat.white =
        subst (λ (s : ℕ). Seat m (place_before q 2 y q.white) 5 0 s) (rw (eq-eqb q.white q.white refl)) Seat.white
    go i j t d l Seat.black =
        subst (λ (s : ℕ). Seat m (place_before q 2 y q.black) 5 1 s) (rw (eq-eqb q.black q.black refl)) Seat.black
    go i j t d l Seat.first =
        subst (λ (s : ℕ). Seat m (place_before q 2 y q.first) m.first 0 s)
        (rw (ne_eqb q.first y d, eq-eqb q.first q.first refl)) Seat.first
    go i j t d l Seat.second = absurd (omega (arith, l, b))

-- it does not stand on a free square
pub seat-free : (m : Men) (q : Place) (kind owner s t : ℕ) → Seat m q kind owner s → Free q t → s ≡ t → ⊥
seat-free m q kind owner s t Seat.white f e = f.white e
seat-free m q kind owner s t Seat.black f e = f.black e
seat-free m q kind owner s t Seat.first f e = f.first e
seat-free m q kind owner s t Seat.second f e = f.second e

-- ---- free squares

none : (x : Bool) (a b : ℕ) → (a ≡ b → ⊥) → (x && eqb a b) ≡ false
none x a b n = rw (ne_eqb a b n) (and-false x)

free-stands : (m : Men) (q : Place) (colour t : ℕ) → t < 64 → Free q t → stands (board_in m q) colour t ≡ false
free-stands m q colour t h f =
    stands-men m q colour t h
    ∙ rw (
      none (eqb 0 colour) q.white t f.white,
      none (eqb 1 colour) q.black t f.black,
      none (eqb 0 colour) q.first t f.first,
      none (eqb m.colour colour) q.second t f.second,
    )

-- an unoccupied square is free
pub free_of : (m : Men) (q : Place) (t : ℕ) → t < 64 → occupied (board_in m q) t ≡ false → Free q t
free_of m q t h e =
    go (eqb t q.white) refl (eqb t q.black) refl (eqb t q.first) refl (eqb t q.second) refl
    (sym (occupied-men m q t h) ∙ e)
  where
    go : (a : Bool) → eqb t q.white ≡ a → (b : Bool) → eqb t q.black ≡ b → (c : Bool) → eqb t q.first ≡ c
        → (d : Bool) → eqb t q.second ≡ d → (a || (b || (c || d))) ≡ false → Free q t
    go false x false y false z false w e = record {
      white = λ p. eqb-false t q.white x (sym p);
      black = λ p. eqb-false t q.black y (sym p);
      first = λ p. eqb-false t q.first z (sym p);
      second = λ p. eqb-false t q.second w (sym p);
    }
    go true x b y c z d w e = absurd (refuted e tt)
    go false x true y c z d w e = absurd (refuted e tt)
    go false x false y true z d w e = absurd (refuted e tt)
    go false x false y false z true w e = absurd (refuted e tt)

-- a free one is unoccupied
pub free-empty : (m : Men) (q : Place) (t : ℕ) → t < 64 → Free q t → occupied (board_in m q) t ≡ false
free-empty m q t h f =
    occupied-men m q t h
    ∙ rw (
      ne_eqb t q.white (λ e. f.white (sym e)),
      ne_eqb t q.black (λ e. f.black (sym e)),
      ne_eqb t q.first (λ e. f.first (sym e)),
      ne_eqb t q.second (λ e. f.second (sym e)),
    )

-- all are there
pub all_left : (m : Men) (q : Place) → Complete m q → T (legal (board_in m q)) → LegalLeft m q 0
all_left m q c l =
    let w = complete-spread c in
    let s = complete-seated m q c in
    record {
      ending = c.ending;
      colour = c.colour;
      side = w.side;
      white = w.white;
      black = w.black;
      white-black = w.white-black;
      white-first = w.white-first;
      white-second = w.white-second;
      black-first = w.black-first;
      black-second = w.black-second;
      first-second = w.first-second;
      missing = Missing.nobody w.first s.second;
      legality = l;
    }

-- the mover has no piece of his own on the target
other-than : (c side : ℕ) → side < 2 → c ≡ side → eqb c (1 - side) ≡ false
other-than c side h e = ne_eqb c (1 - side) (λ z. omega (arith, z, e, h))

taken-stands : (m : Men) (q : Place) (taken from to : ℕ) → Missing m q taken → to < 64 → from < 64 → (to ≡ from → ⊥) → q.side < 2
    → ((taken ≡ 0 → ⊥) → loser m taken ≡ q.side) → stands (board_in m (place_before q taken from to)) (1 - q.side) to ≡ false
unfolding put_again
taken-stands m q taken from to (Missing.nobody a b) h k d l e =
    free-stands m (place_after q to from) (1 - q.side) to h (free-after q to from h d)
taken-stands m q taken from to (Missing.first a b c) h k d l e =
    unfold place_after in
    stands-men m (place_before q 1 from to) (1 - q.side) to h
    ∙ rw (
      none (eqb 0 (1 - q.side)) (carried to from q.white) to (gone-king to from q.white d),
      none (eqb 1 (1 - q.side)) (carried to from q.black) to (gone-king to from q.black d),
      other-than 0 q.side l (e (λ z. omega (arith, z))),
      none (eqb m.colour (1 - q.side)) (square_after to from q.second) to (gone-man to from q.second d h),
    )
taken-stands m q taken from to (Missing.second a b c) h k d l e =
    unfold place_after in
    stands-men m (place_before q 2 from to) (1 - q.side) to h
    ∙ rw (
      none (eqb 0 (1 - q.side)) (carried to from q.white) to (gone-king to from q.white d),
      none (eqb 1 (1 - q.side)) (carried to from q.black) to (gone-king to from q.black d),
      none (eqb 0 (1 - q.side)) (square_after to from q.first) to (gone-man to from q.first d h),
      other-than m.colour q.side l (e (λ z. omega (arith, z))),
    )

pub side_before : (q : Place) (taken from to : ℕ) → (place_before q taken from to).side ≡ 1 - q.side
unfolding put_again place_after
side_before q taken from to = refl

-- ---- put back, the piece has the move

module _ (m : Men) (q : Place) (taken : ℕ) (g : LegalLeft m q taken) (kind owner from to : ℕ) (seat : Seat m q kind owner to)
    (mover : owner ≡ 1 - q.side) (lost : (taken ≡ 0 → ⊥) → loser m taken ≡ q.side)
    (h : T (reaches (occupied (board_in m q)) kind to from)) (f : Free q from) where
  lt : to < 64
  lt = (reaches-squares (occupied (board_in m q)) kind to from h).0

  lf : from < 64
  lf = (reaches-squares (occupied (board_in m q)) kind to from h).1

  differ : to ≡ from → ⊥
  differ = seat-free m q kind owner to from seat f

  abbrev o : Place
  o = place_before q taken from to

  back : place_after (place_before q taken from to) from to ≡ q
  back = before-and-after m q taken from to g.missing f differ lt g.side

  reach-back : T (reaches (occupied (board_in m o)) kind from to)
  reach-back =
      reaches-again (occupied (board_in m q)) (occupied (board_in m o)) kind to from
      (λ u l a b. occupied-before m q taken from to u g.missing l a b) h

  abbrev side-o : o.side ≡ 1 - q.side
  side-o = side_before q taken from to

  goes_back : Complete m o → T (goes (board_in m o) from to)
  unfolding goes goes_over
  goes_back c =
      subst⁻¹ T
      ((seat-alone m o kind owner from (complete-spread c) (seat-before m q taken kind owner to from g.missing differ lt seat)
      ).goes (occupied (board_in m o)) to)
      (and_both (eqb owner o.side) (reaches (occupied (board_in m o)) kind from to)
      (subst⁻¹ T (eq-eqb owner o.side (mover ∙ sym side-o)) tt) reach-back)

  board-side : (board_in m o).side ≡ 1 - q.side
  unfolding board_of posed
  board-side = side-o

  safe-back : in_check (moved (board_in m o) from to) (board_in m o).side ≡ false
  safe-back =
      ap (λ (b : Board). in_check b (board_in m o).side)
      (sym (place-moved from to lf lt m o) ∙ ap (λ (p : Place). board_in m p) back)
      ∙ ap (in_check (board_in m q)) board-side ∙ (unfold board_of posed in (legal-facts (board_in m q) g.legality).safe)

  pub leads-back : Complete m o → T (legal (board_in m o)) → Leads m o from to q
  leads-back c l = record {
    complete = c;
    legality = l;
    can = unfold can_move in
        subst⁻¹ (λ (b : Bool). T (goes (board_in m o) from to && not b && not (in_check (moved (board_in m o) from to) (board_in m o).side)))
        (ap (λ (x : ℕ). stands (board_in m o) x to) board-side
        ∙ taken-stands m q taken from to g.missing lt lf differ g.side lost)
        (subst⁻¹ (λ (b : Bool). T (goes (board_in m o) from to && true && not b)) safe-back
        (and_both (goes (board_in m o) from to && true) true (and_both (goes (board_in m o) from to) true (goes_back c) tt) tt));
    arrives = back;
  }

-- ---- whatever has a move to this place is it with the piece put back

-- a man who is off the board then stood on the target
taken-there : (from to s : ℕ) → to < 64 → s < 64 → square_after from to s ≡ 64 → s ≡ to
taken-there from to s h k e = go (eqb s to) refl e
  where
    kept : (y : Bool) → cond y to s ≡ 64 → ⊥
    kept true e = omega (arith, e, h)
    kept false e = omega (arith, e, k)

    go : (x : Bool) → eqb s to ≡ x → cond x 64 (carried from to s) ≡ 64 → s ≡ to
    go true z e = eqb-true s to z
    go false z e = absurd (kept (eqb s from) e)

abbrev placed : ℕ → ℕ → ℕ → ℕ → ℕ → Place
placed side white black first second = record { side = side; white = white; black = black; first = first; second = second }

again-first : (o : Place) (from to : ℕ) → (o.white ≡ to → ⊥) → (o.black ≡ to → ⊥) → (o.second ≡ to → ⊥) → o.first ≡ to
    → (from ≡ to → ⊥) → o.side < 2 → place_before (place_after o from to) 1 from to ≡ o
unfolding put_again place_after
again-first o from to a b c e d h =
    let z : 1 - (1 - o.side) ≡ o.side = omega arith in
    rw (z, king-again from to o.white a, king-again from to o.black b, man-again from to o.second c d)
    (ap (λ (s : ℕ). placed o.side o.white o.black s o.second) (sym e))

again-second : (o : Place) (from to : ℕ) → (o.white ≡ to → ⊥) → (o.black ≡ to → ⊥) → (o.first ≡ to → ⊥) → o.second ≡ to
    → (from ≡ to → ⊥) → o.side < 2 → place_before (place_after o from to) 2 from to ≡ o
unfolding put_again place_after
again-second o from to a b c e d h =
    let z : 1 - (1 - o.side) ≡ o.side = omega arith in
    rw (z, king-again from to o.white a, king-again from to o.black b, man-again from to o.first c d)
    (ap (λ (s : ℕ). placed o.side o.white o.black o.first s) (sym e))

-- a man on the target is the other side's
not_own : (m : Men) (o : Place) (from to : ℕ) → T (can_move (board_in m o) from to) → (c : ℕ) → c < 2 → o.side < 2
    → (c ≡ o.side → T (stands (board_in m o) o.side to)) → c ≡ 1 - o.side
unfolding can_move board_of posed
not_own m o from to can c h k f = go (decided (eqb c o.side))
  where
    bars : T (stands (board_in m o) o.side to) → ⊥
    bars t =
        let x = and_left (goes (board_in m o) from to && not (stands (board_in m o) (board_in m o).side to))
        (not (in_check (moved (board_in m o) from to) (board_in m o).side)) can in
        refuted {b = stands (board_in m o) (board_in m o).side to}
        (false_of (and_right (goes (board_in m o) from to) (not (stands (board_in m o) (board_in m o).side to)) x)) t

    go : T (eqb c o.side) ⊎ T (not (eqb c o.side)) → c ≡ 1 - o.side
    go (inl x) = absurd (bars (f (eqb→eq c o.side x)))
    go (inr x) =
        let z : eqb c o.side ≡ false = false_of x in
        let n = eqb-false c o.side z in
        omega (arith, n, h, k)

module _ (m : Men) (q o : Place) (from to taken : ℕ) (g : LegalLeft m q taken) (l : Leads m o from to q) where
  on : (from < 64) × (to < 64)
  on = can-on (board_in m o) from to l.can

  pub moves-on : from ≡ to → ⊥
  moves-on e =
      let c = can-facts (board_in m o) from to l.can in
      refuted (reaches-own (occupied (board_in m o)) c.piece.kind from)
      (subst⁻¹ (λ (t : ℕ). T (reaches (occupied (board_in m o)) c.piece.kind from t)) e
      (reach-piece (board_in m o) from to l.legality c))

  abbrev w : Spread m o
  w = complete-spread l.complete

  abbrev so : Seated m o
  so = complete-seated m o l.complete

  no-king : (o.white ≡ to → ⊥) × (o.black ≡ to → ⊥)
  unfolding board_of posed
  no-king = takes-no-king (board_in m o) from to l.legality l.can

  first_then : square_after from to o.first ≡ q.first
  unfolding place_after
  first_then = ap (λ (p : Place). p.first) l.arrives

  second-then : square_after from to o.second ≡ q.second
  unfolding place_after
  second-then = ap (λ (p : Place). p.second) l.arrives

  pub side_then : o.side ≡ 1 - q.side
  unfolding place_after
  side_then = let z : 1 - o.side ≡ q.side = ap (λ (p : Place). p.side) l.arrives in omega (arith, z, w.side)

  target_free : q.first < 64 → leb 64 q.second ≡ leb 4 m.second → Free o to
  target_free a b = record {
    white = no-king.0;
    black = no-king.1;
    first = λ e.
        let y : square_after from to o.first ≡ 64 = rw (eq-eqb o.first to e) in
        absurd (omega (arith, first_then, y, a));
    second = λ e.
        let y : square_after from to o.second ≡ 64 = rw (eq-eqb o.second to e) in
        let x : leb 64 q.second ≡ true = ap (leb 64) (sym second-then ∙ y) in
        let v = leb-true 64 o.second (so.second ∙ sym b ∙ x) in
        absurd (omega (arith, v, e, on.1));
  }

  took-first : q.first ≡ 64 → o.first ≡ to
  took-first a = taken-there from to o.first on.1 w.first (first_then ∙ a)

  took-second : q.second ≡ 64 → m.second < 4 → o.second ≡ to
  took-second a b =
      taken-there from to o.second on.1 (leb-false 64 o.second (so.second ∙ lt-leb 4 m.second b)) (second-then ∙ a)

  put-by : (i : ℕ) → Missing m q i → o ≡ place_before q i from to
  put-by i (Missing.nobody a b) =
      unfold put_again in
      sym (there_and_back o from to (target_free a b) moves-on w.side) ∙ ap (λ (p : Place). place_after p to from) l.arrives
  put-by i (Missing.first a b c) =
      let e = took-first a in
      sym (again-first o from to no-king.0 no-king.1 (λ z. w.first-second (e ∙ sym z)) e moves-on w.side)
      ∙ ap (λ (p : Place). place_before p 1 from to) l.arrives
  put-by i (Missing.second a b c) =
      let e = took-second b c in
      sym (again-second o from to no-king.0 no-king.1 (λ z. w.first-second (z ∙ sym e)) e moves-on w.side)
      ∙ ap (λ (p : Place). place_before p 2 from to) l.arrives

  pub put_back : o ≡ place_before q taken from to
  put_back = put-by taken g.missing

  lost-by : (i : ℕ) → Missing m q i → (i ≡ 0 → ⊥) → loser m i ≡ q.side
  lost-by i (Missing.nobody a b) n = absurd (n refl)
  lost-by i (Missing.first a b c) n =
      let z = not_own m o from to l.can 0 (omega arith) w.side
      (λ e. subst⁻¹ T (stands-men m o o.side to on.1)
      (or_right (eqb 0 o.side && eqb o.white to) _
      (or_right (eqb 1 o.side && eqb o.black to) _
      (or_left (eqb 0 o.side && eqb o.first to) _
      (and_both (eqb 0 o.side) (eqb o.first to) (subst⁻¹ T (eq-eqb 0 o.side e) tt)
      (subst⁻¹ T (eq-eqb o.first to (took-first a)) tt)))))) in
      let y = side_then in
      omega (arith, z, y, g.side)
  lost-by i (Missing.second a b c) n =
      let z = not_own m o from to l.can m.colour g.colour w.side
      (λ e. subst⁻¹ T (stands-men m o o.side to on.1)
      (or_right (eqb 0 o.side && eqb o.white to) _
      (or_right (eqb 1 o.side && eqb o.black to) _
      (or_right (eqb 0 o.side && eqb o.first to) _
      (and_both (eqb m.colour o.side) (eqb o.second to) (subst⁻¹ T (eq-eqb m.colour o.side e) tt)
      (subst⁻¹ T (eq-eqb o.second to (took-second b c)) tt)))))) in
      let y = side_then in
      omega (arith, z, y, g.side)

  -- the man taken was of the side then to move
  pub lost-then : (taken ≡ 0 → ⊥) → loser m taken ≡ q.side
  lost-then = lost-by taken g.missing

  pub was_free : Free q from
  was_free = subst (λ (p : Place). Free p from) l.arrives (free-after o from to on.0 moves-on)

  module _ (kind owner : ℕ) (seat : Seat m q kind owner to) where
    abbrev there : Seat m o kind owner from
    there = subst⁻¹ (λ (p : Place). Seat m p kind owner from) put_back
        (seat-before m q taken kind owner to from g.missing (λ e. moves-on (sym e)) on.1 seat)

    goes-there : T (eqb owner o.side && reaches (occupied (board_in m o)) kind from to)
    unfolding goes goes_over
    goes-there =
        subst T ((seat-alone m o kind owner from (complete-spread l.complete) there).goes (occupied (board_in m o)) to)
        (and_left (goes (board_in m o) from to) (not (stands (board_in m o) (board_in m o).side to))
        (and_left (goes (board_in m o) from to && not (stands (board_in m o) (board_in m o).side to))
        (not (in_check (moved (board_in m o) from to) (board_in m o).side)) (unfold can_move in l.can)))

    pub came : T (reaches (occupied (board_in m q)) kind to from)
    came =
        reaches-again (occupied (board_in m o)) (occupied (board_in m q)) kind from to
        (λ u h a b. ap (λ (p : Place). occupied (board_in m p) u) (sym l.arrives) ∙ occupied-else m o from to u h a b)
        (and_right (eqb owner o.side) (reaches (occupied (board_in m o)) kind from to) goes-there)

    pub its-move : owner ≡ 1 - q.side
    its-move =
        eqb→eq owner o.side (and_left (eqb owner o.side) (reaches (occupied (board_in m o)) kind from to) goes-there)
        ∙ side_then

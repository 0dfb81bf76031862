-- A square that spares a piece's side the loss does so wherever the piece came from: what stands after its move there is the same.
use Rattle.std.specs.Prelude.{◌≡◌, Bool, true, false, cond, not, ◌&&◌, ◌||◌, ◌⊎◌, List, ℕ, zero, suc, ◌-◌, ◌<◌, T, eqb}
use Rattle.std.proofs.Math.Path.{refl, subst⁻¹}
use Rattle.std.proofs.Common.{sym, ap, subst, ◌∙◌, inl, inr, eq-eqb, ne_eqb}
use native.Mathlib.Omega.{arith}
use Rattle.std.specs.Int.Bits.{bit_or}
use Rattle.finite.specs.Truth.{decided, true_of, false_of, refuted, and_left, and_right}
use Rattle.board.specs.Reach.{reaches}
use Rattle.board.specs.Sets.{has, set_of}
use Rattle.board.proofs.laws.SetLaws.{has-none, has-or, set-has}
use Rattle.board.proofs.laws.ReachLaws.{reaches-squares}
use Rattle.board.proofs.laws.Blocking.{reaches-own}
use Rattle.symmetry.proofs.laws.Opposite.{reaches-sym}
use Rattle.rules.specs.Rules.{occupied, carried}
use Rattle.rules.proofs.laws.CanMove.{can-on}
use Rattle.numbering.specs.Number.{number_of}
use Rattle.position.specs.declared.Men.{Men}
use Rattle.position.specs.declared.Place.{Place}
use Rattle.position.specs.Posed.{board_in}
use Rattle.index.specs.Seats.{Seated}
use Rattle.index.proofs.laws.CompleteLaws.{complete-seated}
use Rattle.movegen.specs.Places.{square_after, place_after}
use Rattle.retracting.specs.Retracting.{Leads, LegalLeft, Seat, put_again, place_before}
use Rattle.retracting.proofs.laws.Back.{Free}
use Rattle.retracting.proofs.laws.Causes.{place-eq}
use Rattle.movegen.proofs.laws.Lines.{line-own}
use Rattle.retracting.proofs.laws.Sources.{free_of, seat-free, side_before, was_free, moves-on}
use Rattle.retracting.proofs.laws.Unchecked.{or-none, off, still-king, stood-then, stood-free}
use Rattle.working_back.specs.Admitted.{Admitted}
use Rattle.working_back.specs.Back.{TriesPlace, Unsettled}
use Rattle.working_back.specs.Lines.{Serves, LinedAfter}
use Rattle.working_back.specs.Spared.{Quietly, Sparing, Spared, place_on, Grounds}
use Rattle.working_back.specs.declared.lines.Line.{Line}
use Rattle.working_back.specs.declared.spared.Ground.{Ground}
use Rattle.working_back.proofs.laws.Places.{tried-unless}
use Rattle.working_back.proofs.laws.Spared.{whole, seat-then, tried-spared}

-- ---- from s to t, a piece that went from s to `to`

king-on : (s t to w : ℕ) → (w ≡ s → ⊥) → carried s t (carried to s w) ≡ carried to t w
king-on s t to w n = go (decided (eqb w to))
  where
    go : T (eqb w to) ⊎ T (not (eqb w to)) → carried s t (carried to s w) ≡ carried to t w
    go (inl x) = let e : eqb w to ≡ true = true_of x in rw (e, eq-eqb s s refl)
    go (inr x) = let e : eqb w to ≡ false = false_of x in rw (e, ne_eqb w s n)

man-on : (s t to x : ℕ) → (x ≡ s → ⊥) → (s ≡ t → ⊥) → (square_after to s x ≡ t → ⊥) → square_after s t (square_after to s x) ≡ carried to t x
man-on s t to x a b c = go (decided (eqb x to))
  where
    go : T (eqb x to) ⊎ T (not (eqb x to)) → square_after s t (square_after to s x) ≡ carried to t x
    go (inl y) = let e : eqb x to ≡ true = true_of y in rw (ne_eqb x s a, e, ne_eqb s t b, eq-eqb s s refl)
    go (inr y) =
        let e : eqb x to ≡ false = false_of y in
        let z : square_after to s x ≡ x = rw (ne_eqb x s a, e) in
        ap (square_after s t) z ∙ rw (ne_eqb x t (λ i. c (z ∙ i)), ne_eqb x s a, e)

-- he may have been taken on `to`
put_on : (b : Bool) (s t to x : ℕ) → (x ≡ s → ⊥) → (s ≡ t → ⊥) → (s ≡ to → ⊥) → (cond b to (square_after to s x) ≡ t → ⊥)
    → square_after s t (cond b to (square_after to s x)) ≡ cond b to (carried to t x)
put_on true s t to x a b d c = rw (ne_eqb to t c, ne_eqb to s (λ e. d (sym e)))
put_on false s t to x a b d c = man-on s t to x a b c

-- the king of the side not to move
other-king : (s side w b : ℕ) → s < 2 → side ≡ 1 - s → cond (eqb side 0) b w ≡ cond (eqb s 0) w b
other-king zero side w b h e = ap (λ (z : ℕ). cond (eqb z 0) b w) e
other-king (suc zero) side w b h e = ap (λ (z : ℕ). cond (eqb z 0) b w) e
other-king (suc (suc s)) side w b h e = absurd (omega arith)

module _ (m : Men) (q : Place) (taken kind to : ℕ) (g : LegalLeft m q taken) (seat : Seat m q kind (1 - q.side) to) where
  module _ (s : ℕ) (l : Leads m (place_before q taken s to) s to q) where
    abbrev o : Place
    o = place_before q taken s to

    on : (s < 64) × (to < 64)
    on = can-on (board_in m o) s to l.can

    was : Free q s
    was = was_free m q o s to taken g l

    place-on : (t : ℕ) → Quietly m o kind s t → place_after o s t ≡ place_on q taken to t
    unfolding place_after put_again place_on
    place-on t w =
        let f = free_of m o t (reaches-squares (occupied (board_in m o)) kind s t w.reached).1 w.free in
        let n = seat-free m o kind o.side s t (seat-then m q taken kind s to g l seat) f in
        let d = moves-on m q o s to taken g l in
        place-eq (twice q.side g.side) (king-on s t to q.white was.white) (king-on s t to q.black was.black)
        (put_on (eqb taken 1) s t to q.first was.first n d f.first)
        (put_on (eqb taken 2) s t to q.second was.second n d f.second)
      where
        twice : (z : ℕ) → z < 2 → 1 - (1 - z) ≡ z
        twice z h = omega arith

    foe : cond (eqb o.side 0) o.black o.white ≡ cond (eqb q.side 0) q.white q.black
    unfolding place_after put_again
    foe =
        other-king q.side o.side o.white o.black g.side (side_before q taken s to)
        ∙ still-king q to s q.side (cond (eqb q.side 0) q.white q.black) refl
        (off m q taken g kind (1 - q.side) to q.side seat g.side refl)

    module _ (ground : Ground) (gr : Grounds m q taken kind to ground) (t : ℕ) (h : t < 64) (e : has ground.shut t ≡ false)
        (r : T (reaches (has ground.stood) kind t s)) where
      same : (u : ℕ) → u < 64 → (u ≡ s → ⊥) → occupied (board_in m o) u ≡ has ground.stood u
      same = stood-then m q taken g kind (1 - q.side) to s seat on.1 on.0 was (has ground.stood) gr.stood

      differ : t ≡ s → ⊥
      differ x =
          refuted (reaches-own (has ground.stood) kind s) (subst (λ (i : ℕ). T (reaches (has ground.stood) kind i s)) x r)

      quietly-from : Quietly m o kind s t
      quietly-from = record {
        reached = subst⁻¹ T
            (line-own (occupied (board_in m o)) (has ground.stood) s t same
            (stood-free m q taken g kind (1 - q.side) to s seat on.1 on.0 was (has ground.stood) gr.stood) kind) r;
        free = same t h differ ∙ gr.free t h e;
        apart = λ k. ap (λ (x : ℕ). reaches (has 0) 5 x t) foe ∙ gr.apart k t h e;
      }

      spared-there : (k : ℕ) (u : List ℕ) → Sparing m k (place_on q taken to t) u → Spared m k o kind s u
      spared-there k u x = record {
        target = t;
        quietly = quietly-from;
        sparing = subst⁻¹ (λ (p : Place). Sparing m k p u) (place-on t quietly-from) x;
      }

      -- the byte that was read
      sparing-there : (k : ℕ) (u : List ℕ) (line : Line) → LinedAfter m q taken to line → (made : Place) → made ≡ o
          → (Serves m made s t line → Seated m (place_after made s t) → Sparing m k (place_after made s t) u)
          → Sparing m k (place_on q taken to t) u
      sparing-there k u line f made z w =
          let there = seat-then m q taken kind s to g l seat in
          subst (λ (p : Place). Sparing m k p u) (place-on t quietly-from)
          (subst (λ (p : Place). Serves m p s t line → Seated m (place_after p s t) → Sparing m k (place_after p s t) u) z w
          (f.serves kind s t l there quietly-from)
          (complete-seated m (place_after o s t) (whole m o kind s t l.complete l.legality there quietly-from)))

  -- ---- as code has it

  module _ (ground : Ground) (gr : Grounds m q taken kind to ground) (first second : List ℕ) (k : ℕ) (some : 0 < k) (u : List ℕ)
      (a : Admitted m first second u) where
    unsettled : (t : ℕ) → t < 64 → has ground.shut t ≡ false → Sparing m k (place_on q taken to t) u → (spared : ℕ)
        → spared ≡ set_of (reaches (has ground.stood) kind t) → Unsettled m first second k q taken to u spared
    unsettled t h e x spared es s hs gs l =
        tried-unless m (place_before q taken s to) q first second k u a (number_of (board_in m (place_before q taken s to))) refl
        (λ i one. tried-spared m (place_before q taken s to) q s to l first second k u a (number_of (board_in m (place_before q taken s to))) refl i one some kind
        (seat-then m q taken kind s to g l seat)
        (spared-there s l ground gr t h e (subst T (set-has (reaches (has ground.stood) kind t) es s hs) gs) k u x))

    -- a square was found: from s and from all that it is reached from
    pub found-spares : (s : ℕ) → Leads m (place_before q taken s to) s to q → (line : Line) → LinedAfter m q taken to line → (reach goals : ℕ)
        → reach ≡ set_of (reaches (has ground.stood) kind s) → goals ≡ set_of (λ (i : ℕ). has reach i && not (has ground.shut i))
        → (made : Place) → made ≡ place_before q taken s to → (t : ℕ) → t < 64
        → T (has goals t) × (Serves m made s t line → Seated m (place_after made s t) → Sparing m k (place_after made s t) u) → (spared : ℕ)
        → spared ≡ set_of (reaches (has ground.stood) kind t)
        → TriesPlace m first second k q (place_before q taken s to) u u 0 × Unsettled m first second k q taken to u spared
    found-spares s l line f reach goals er eg made z t h w spared es =
        let x = subst T (set-has (λ (i : ℕ). has reach i && not (has ground.shut i)) eg t h) w.0 in
        let e : has ground.shut t ≡ false = false_of (and_right (has reach t) (not (has ground.shut t)) x) in
        let r = subst T (set-has (reaches (has ground.stood) kind s) er t h ∙ reaches-sym (has ground.stood) kind s t)
        (and_left (has reach t) (not (has ground.shut t)) x) in
        let all = unsettled t h e (sparing-there s l ground gr t h e r k u line f made z w.1) spared es in
        (all s (on s l).0 (subst⁻¹ T (set-has (reaches (has ground.stood) kind t) es s (on s l).0) r) l, all)

pub unsettled-none : (m : Men) (first second : List ℕ) (k : ℕ) (q : Place) (taken to : ℕ) (v : List ℕ)
    → Unsettled m first second k q taken to v 0
unsettled-none m first second k q taken to v s h g = absurd (refuted (has-none s) g)

-- ---- the squares shut to a piece

module _ (m : Men) (q : Place) (taken kind to occ stood shut : ℕ) (eo : occ ≡ set_of (occupied (board_in m q)))
    (et : (u : ℕ) → u < 64 → has stood u ≡ (has occ u && not (eqb taken 0 && eqb u to)))
    (es : shut ≡ set_of (λ (u : ℕ). has stood u || eqb u to)) where
  stands : (u : ℕ) → u < 64 → has stood u ≡ (occupied (board_in m q) u && not (eqb taken 0 && eqb u to))
  stands u h = et u h ∙ ap (λ (b : Bool). b && not (eqb taken 0 && eqb u to)) (set-has (occupied (board_in m q)) eo u h)

  clear : (u : ℕ) → u < 64 → has shut u ≡ false → has stood u ≡ false
  clear u h e = (or-none (has stood u) (eqb u to) (sym (set-has (λ (u : ℕ). has stood u || eqb u to) es u h) ∙ e)).0

  pub grounds-man : (kind ≡ 5 → ⊥) → Grounds m q taken kind to (record { stood = stood; shut = shut })
  grounds-man n = record { stood = stands; free = clear; apart = λ k. absurd (n k) }

  pub grounds-king : (foe near : ℕ) → foe ≡ cond (eqb q.side 0) q.white q.black → near ≡ set_of (reaches (has 0) 5 foe)
      → Grounds m q taken kind to (record { stood = stood; shut = bit_or shut near })
  grounds-king foe near ef en = record {
    stood = stands;
    free = λ u h e. clear u h (or-none (has shut u) (has near u) (sym (has-or shut near u) ∙ e)).0;
    apart = λ k u h e.
        ap (λ (x : ℕ). reaches (has 0) 5 x u) (sym ef) ∙ sym (set-has (reaches (has 0) 5 foe) en u h)
        ∙ (or-none (has shut u) (has near u) (sym (has-or shut near u) ∙ e)).1;
  }

-- A piece's other move spares its side the loss: a byte that is not 0 stands at a legal number, so that the move is legal.
use Rattle.std.specs.Prelude.{◌≡◌, Bool, true, cond, not, ◌&&◌, ◌⊎◌, List, ℕ, ◌+◌, ◌-◌, ◌<◌, eqb, length, get_or}
use Rattle.std.proofs.Math.Path.{refl, subst, subst⁻¹}
use Rattle.std.proofs.Common.{sym, ap, ◌∙◌, inl, inr}
use Rattle.std.proofs.Math.Bool.{false}
use native.Mathlib.Omega.{arith}
use Rattle.std.proofs.Math.Dec.{T}
use borrow.Author.Tests.{eq-eqb, ne_eqb}
use Rattle.finite.specs.Truth.{and_left, and_right, of-true, true_of, refuted}
use Rattle.theory.specs.Required.{required_at}
use Rattle.theory.specs.Judge.{refutes}
use Rattle.board.specs.Reach.{reaches}
use Rattle.board.specs.Sets.{has}
use Rattle.board.proofs.laws.ReachLaws.{reaches-squares, king-reaches}
use Rattle.symmetry.proofs.laws.Opposite.{reaches-sym}
use Rattle.rules.specs.Rules.{occupied, touching, legal, moved, can_move, carried}
use Rattle.rules.specs.Chess.{chess}
use Rattle.rules.proofs.laws.Legal.{legal-facts}
use Rattle.rules.proofs.laws.CanMove.{can-on}
use Rattle.table_theory.specs.Tables.{settles}
use Rattle.numbering.specs.Number.{number_of}
use Rattle.numbering.specs.declared.Material.{Material}
use Rattle.position.specs.declared.Men.{Men}
use Rattle.position.specs.declared.Place.{Place}
use Rattle.position.specs.Keyed.{board_of}
use Rattle.position.specs.Posed.{posed, board_in, material_for, Complete}
use Rattle.movegen.specs.Places.{place_after}
use Rattle.movegen.proofs.laws.Lines.{reaches-again}
use Rattle.four_men.specs.Reading.{legal_number_of, numbered}
use Rattle.successors.specs.Successors.{bytes_in}
use Rattle.successors.proofs.laws.PlaceVerdicts.{plain}
use Rattle.successors.proofs.laws.ByteLaws.{all_there, byte-own, byte-moved}
use Rattle.successors.proofs.laws.VerdictLaws.{depth-refuted}
use Rattle.retracting.specs.Retracting.{Leads, LegalLeft, Seat, put_again, place_before}
use Rattle.retracting.proofs.laws.Back.{Free, there_and_back, free-after, occupied-else}
use Rattle.retracting.proofs.laws.Placing.{complete-before}
use Rattle.retracting.proofs.laws.Sources.{free_of, seat-free, seat-before, side_before, all_left, leads-back, moves-on}
use Rattle.working_back.specs.Admitted.{over, Admitted}
use Rattle.working_back.specs.Trying.{Midway, Alive}
use Rattle.working_back.specs.Back.{TriesPlace}
use Rattle.working_back.specs.Spared.{Quietly, Sparing, Spared}
use Rattle.working_back.proofs.laws.Trying.{held_one}
use Rattle.working_back.proofs.laws.Numbers.{number-legal}
use Rattle.working_back.proofs.laws.Places.{tried-kept}

module _ (m : Men) (o : Place) (kind s t : ℕ) (c : Complete m o) (l : T (legal (board_in m o))) (seat : Seat m o kind o.side s)
    (w : Quietly m o kind s t) where
  abbrev a : Place
  a = place_after o s t

  squares : (s < 64) × (t < 64)
  squares = reaches-squares (occupied (board_in m o)) kind s t w.reached

  f : Free o t
  f = free_of m o t squares.1 w.free

  differ : s ≡ t → ⊥
  differ = seat-free m o kind o.side s t seat f

  here : LegalLeft m o 0
  here = all_left m o c l

  far : reaches (has 0) 5 o.white o.black ≡ false
  far = (unfold touching board_of posed in king-reaches (has 0) (λ s. false) o.white o.black ∙ (legal-facts (board_in m o) l).kings)

  -- the kings do not touch then
  kings-apart : reaches (has 0) 5 a.white a.black ≡ false
  unfolding place_after
  kings-apart = by kind o.side s refl seat w.apart
    where
      by : (kind side s : ℕ) → side ≡ o.side → Seat m o kind side s
          → (kind ≡ 5 → reaches (has 0) 5 (cond (eqb o.side 0) o.black o.white) t ≡ false)
          → reaches (has 0) 5 (carried s t o.white) (carried s t o.black) ≡ false
      by kind side s e Seat.white n =
          rw (eq-eqb o.white o.white refl, ne_eqb o.black o.white (λ z. here.white-black (sym z)))
          (reaches-sym (has 0) 5 t o.black ∙ subst (λ (x : ℕ). reaches (has 0) 5 (cond (eqb x 0) o.black o.white) t ≡ false) (sym e) (n refl))
      by kind side s e Seat.black n =
          rw (eq-eqb o.black o.black refl, ne_eqb o.white o.black here.white-black)
          (subst (λ (x : ℕ). reaches (has 0) 5 (cond (eqb x 0) o.black o.white) t ≡ false) (sym e) (n refl))
      by kind side s e Seat.first n = rw (ne_eqb o.white o.first here.white-first, ne_eqb o.black o.first here.black-first) far
      by kind side s e Seat.second n = rw (ne_eqb o.white o.second here.white-second, ne_eqb o.black o.second here.black-second) far

  pub whole : Complete m a
  unfolding put_again
  whole =
      complete-before s t squares.0 squares.1 differ m o 0 here f
      (unfold touching board_of posed in king-reaches (λ s. false) (has 0) a.white a.black ∙ kings-apart)

  abbrev M : Material
  M = material_for m

  module _ (live : T (legal_number_of M (number_of (board_in m a)))) where
    side-of : o.side ≡ 1 - a.side
    unfolding place_after
    side-of = let h = here.side in omega arith

    back : place_before a 0 s t ≡ o
    unfolding put_again
    back = there_and_back o s t f differ here.side

    can : T (can_move (board_in m o) s t)
    can =
        subst (λ (p : Place). T (can_move (board_in m p) s t)) back
        (leads-back m a 0 (all_left m a whole (number-legal m a whole live)) kind o.side s t
        (unfold put_again in seat-before m o 0 kind o.side s t here.missing differ squares.0 seat)
        side-of (λ n. absurd (n refl))
        (reaches-again (occupied (board_in m o)) (occupied (board_in m a)) kind s t (λ u h x y. occupied-else m o s t u h x y) w.reached)
        (free-after o s t squares.0 differ)
        (subst⁻¹ (Complete m) back c) (subst⁻¹ (λ (p : Place). T (legal (board_in m p))) back l)).can

    pub unrequired : (first second u : List ℕ) (k : ℕ) → (k ≡ 0 → ⊥) → refutes (2 + k) (get_or u (number_of (board_in m a)) 0) ≡ true
        → eqb (required_at chess (bytes_in m first second u) (board_in m o)) (2 + k) ≡ false
    unrequired first second u k some e =
        sym (depth-refuted (bytes_in m first second u) (board_in m o) (plain m o c) k some
        (s, t, can, of-true (ap (refutes (2 + k)) (sym byte) ∙ e)))
      where
        byte : get_or u (number_of (board_in m a)) 0 ≡ bytes_in m first second u (moved (board_in m o) s t)
        byte = byte-moved m o c first second u s t _ a can refl (λ r. byte-own m a r first second u (all_there m a whole) _ _ refl refl)

-- the byte read at the number made, and what the test tells
pub sparing-of : (m : Men) (k : ℕ) (p : Place) (u : List ℕ) (n c : ℕ) (r : Bool) → n ≡ number_of (board_in m p) → c ≡ get_or u n 0
    → r ≡ refutes (2 + k) c → (not (eqb c 0) && r) ≡ true → Sparing m k p u
sparing-of m k p u n c r hn hc hr e =
    let z = hc ∙ ap (λ (i : ℕ). get_or u i 0) hn in
    let x = of-true e in
    record {
      some = λ y. refuted (ap not (eq-eqb c 0 (z ∙ y))) (and_left (not (eqb c 0)) r x);
      refuting = ap (refutes (2 + k)) (sym z) ∙ sym hr ∙ true_of (and_right (not (eqb c 0)) r x);
    }

-- a byte that is not 0, while the pass goes on
alive-midway : (m : Men) (first second : List ℕ) (k : ℕ) (t u : List ℕ) → Midway chess (over m first second) k t u
    → Alive chess (over m first second) t → (n : ℕ) → (get_or u n 0 ≡ 0 → ⊥) → T (legal_number_of (material_for m) n)
unfolding numbered
alive-midway m first second k t u w a n d = go (w.byte n)
  where
    go : (get_or u n 0 ≡ get_or t n 0) ⊎ (T (settles chess (over m first second) k t n) × (get_or u n 0 ≡ 2 + k)) → T (legal_number_of (material_for m) n)
    go (inl e) = a n (λ z. d (e ∙ z))
    go (inr e) = a n (λ z. let y = held_one chess (over m first second) k t n e.0 in omega (arith, y, z))

-- the piece on `to` put back
pub seat-then : (m : Men) (q : Place) (taken kind s to : ℕ) → LegalLeft m q taken → Leads m (place_before q taken s to) s to q
    → Seat m q kind (1 - q.side) to → Seat m (place_before q taken s to) kind (place_before q taken s to).side s
seat-then m q taken kind s to g l seat =
    subst⁻¹ (λ (c : ℕ). Seat m (place_before q taken s to) kind c s) (side_before q taken s to)
    (seat-before m q taken kind (1 - q.side) to s g.missing (λ e. moves-on m q (place_before q taken s to) s to taken g l (sym e))
    (can-on (board_in m (place_before q taken s to)) s to l.can).1 seat)

pub tried-spared : (m : Men) (o q : Place) (from to : ℕ) (l : Leads m o from to q) (first second : List ℕ) (k : ℕ) (u : List ℕ)
    (a : Admitted m first second u) (n : ℕ) → n ≡ number_of (board_in m o) → n < length u → get_or u n 0 ≡ 1 → 0 < k → (kind : ℕ)
    → Seat m o kind o.side from → Spared m k o kind from u → TriesPlace m first second k q o u u 0
tried-spared m o q from to l first second k u a n z h e some kind seat x =
    tried-kept m o q from to l first second k u a n z h e
    (λ t w r. unrequired m o kind from x.target l.complete l.legality seat x.quietly
    (alive-midway m first second k t u w r.ready.alive _ x.sparing.some) first second u k (λ e. omega (arith, some, e)) x.sparing.refuting)

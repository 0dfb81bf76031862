-- The three pieces that may have moved into a position.
use Rattle.finite.specs.Truth.{of-true, and_left, and_right, or_cases}
use Rattle.std.specs.Prelude.{◌≡◌, Bool, true, false, cond, ◌&&◌, ◌||◌, ◌⊎◌, List, ℕ, zero, suc, ◌+◌, ◌-◌, ◌<◌, ◌≤◌, leb, eqb}
use Rattle.std.proofs.Common.{sym, subst, ◌∙◌, inl, ⊎_elim, arith, eqb→eq, leb→le, eq-eqb, ne_eqb}
use Rattle.std.proofs.Math.Path.{ap, subst⁻¹}
use Rattle.std.proofs.Math.Logic.{inr}
use Rattle.std.proofs.lemmas.Bool.{eqb-false}
use Rattle.board.proofs.laws.SetLaws.{members-none}
use Rattle.rules.specs.Rules.{carried}
use Rattle.rules.specs.Chess.{chess}
use Rattle.rules.proofs.laws.CanMove.{can-on}
use Rattle.numbering.specs.Number.{number_of}
use Rattle.position.specs.declared.Men.{Men}
use Rattle.position.specs.declared.Place.{Place}
use Rattle.position.specs.Posed.{board_in}
use Rattle.position.proofs.laws.PosedLaws.{complete-spread}
use Rattle.movegen.specs.Places.{square_after, place_after}
use Rattle.successors.specs.Successors.{king_at}
use Rattle.successors.proofs.laws.PlaceLaws.{starts}
use Rattle.retracting.specs.Retracting.{Leads, LegalLeft, Seat}
use Rattle.retracting.proofs.laws.Sources.{moves-on}
use Rattle.retracting.proofs.laws.Code.{no_source, mover}
use Rattle.retracting.proofs.laws.Unchecked.{or-none}
use Rattle.working_back.specs.Admitted.{over, Admitted}
use Rattle.working_back.specs.Back.{TriesTo, TriesInto}
use Rattle.working_back.proofs.laws.Admitted.{sized, admitted-kept}
use Rattle.working_back.proofs.laws.Few.{few-then}
use Rattle.working_back.proofs.laws.Sources.{taken_start, taken-end}
use Rattle.working_back.proofs.laws.Trying.{went_then, tried-kept}

king-went : (o : Place) (from to : ℕ) → o.side < 2 → from ≡ king_at o
    → to ≡ cond (eqb (1 - (place_after o from to).side) 0) (place_after o from to).white (place_after o from to).black
unfolding place_after
king-went o from to h e = by o.side h e
  where
    by : (s : ℕ) → s < 2 → from ≡ cond (eqb s 0) o.white o.black
        → to ≡ cond (eqb (1 - (1 - s)) 0) (carried from to o.white) (carried from to o.black)
    by zero h e = sym (rw (eq-eqb o.white from (sym e)))
    by (suc zero) h e = sym (rw (eq-eqb o.black from (sym e)))
    by (suc (suc s)) h e = absurd (omega arith)

-- what code asks of a king without men
pub bare-told : (a b : ℕ) → (eqb a 0 && eqb b 0) ≡ true → (a ≡ 0) × (b ≡ 0)
bare-told a b e =
    let f = of-true e in
    (eqb→eq a 0 (and_left (eqb a 0) (eqb b 0) f), eqb→eq b 0 (and_right (eqb a 0) (eqb b 0) f))

-- with White to move the king who moved is Black's
pub black-king : (q : Place) → q.side ≡ 0 → (mover to : ℕ) → mover ≡ 1 - q.side → to ≡ cond (eqb mover 0) q.white q.black → to ≡ q.black
black-king q e mover to f g =
    g ∙ ap (λ (b : Bool). cond b q.white q.black) (ne_eqb mover 0 (λ z. omega (arith, e, f, z)))

pub bare-seat : (m : Men) (q : Place) → q.side ≡ 0 → Seat m q 5 (1 - q.side) q.black
bare-seat m q e = subst (λ (o : ℕ). Seat m q 5 o q.black) (omega arith) Seat.black

module _ (m : Men) (q : Place) (taken : ℕ) (w : LegalLeft m q taken) where
  -- where a move into q went
  went_to : (o : Place) (from to : ℕ) → Leads m o from to q
      → (to ≡ cond (eqb (1 - q.side) 0) q.white q.black) ⊎ ((to ≡ q.first) ⊎ (to ≡ q.second))
  went_to o from to l = go (starts m o from to l.can)
    where
      man : (s : ℕ) → from ≡ s → to ≡ square_after from to s
      man s e = sym (rw (ne_eqb s to (λ z. moves-on m q o from to taken w l (e ∙ z)), eq-eqb s from (sym e)))

      go : (from ≡ king_at o) ⊎ ((from ≡ o.first) ⊎ (from ≡ o.second))
          → (to ≡ cond (eqb (1 - q.side) 0) q.white q.black) ⊎ ((to ≡ q.first) ⊎ (to ≡ q.second))
      go (inl e) =
          inl (subst (λ (p : Place). to ≡ cond (eqb (1 - p.side) 0) p.white p.black) l.arrives
          (king-went o from to (complete-spread l.complete).side e))
      go (inr (inl e)) =
          inr (inl (man o.first e ∙ (unfold place_after in ap (λ (p : Place). p.first) l.arrives)))
      go (inr (inr e)) =
          inr (inr (man o.second e ∙ (unfold place_after in ap (λ (p : Place). p.second) l.arrives)))

  pub king-seat : (mover king : ℕ) → mover ≡ 1 - q.side → king ≡ cond (eqb mover 0) q.white q.black
      → Seat m q 5 mover king
  king-seat mover king e f = go mover f (omega (arith, e))
    where
      go : (c : ℕ) → king ≡ cond (eqb c 0) q.white q.black → c < 2 → Seat m q 5 c king
      go zero f h = subst⁻¹ (λ (s : ℕ). Seat m q 5 0 s) f Seat.white
      go (suc zero) f h = subst⁻¹ (λ (s : ℕ). Seat m q 5 1 s) f Seat.black
      go (suc (suc c)) f h = absurd (omega arith)

  pub man-seat : (latter : Bool) (kind owner to : ℕ) → kind ≡ cond latter m.second m.first → owner ≡ cond latter m.colour 0
      → to ≡ cond latter q.second q.first → Seat m q kind owner to × ((to ≡ q.first) ⊎ (to ≡ q.second))
  man-seat true kind owner to a b c = (rw (a, b, c) Seat.second, inr c)
  man-seat false kind owner to a b c = (rw (a, b, c) Seat.first, inl c)

  module _ (first second : List ℕ) (k : ℕ) (u : List ℕ) (a : Admitted m first second u) where
    pub tries-at : (v : List ℕ) (s to did : ℕ) → s ≡ to → TriesTo m first second k q s u v did → TriesTo m first second k q to u v did
    tries-at v s to did e f = subst (λ (x : ℕ). TriesTo m first second k q x u v did) e f

    pub into-all : (v x y : List ℕ) (i j h : ℕ) → TriesTo m first second k q (cond (eqb (1 - q.side) 0) q.white q.black) u v i
        → TriesTo m first second k q q.first v x j → TriesTo m first second k q q.second x y h
        → TriesInto m first second k q u y (i + j + h)
    into-all v x y i j h fa fb fc = (
      few-then k 128 64 u x y (i + j) h (few-then k 64 64 u v x i j fa.0 fb.0) fc.0,
      λ t w ripe.
          let long = sym w.long ∙ sized m first second u a in
          let pa = fa.1 t w ripe in
          let pb = fb.1 t pa.0.midway ripe in
          let pc = fc.1 t pb.0.midway ripe in
          let G = over m first second in
          let ab = went_then chess G k t long u v x i j pa.0 pb.0 in (
            went_then chess G k t long u x y (i + j) h ab pc.0,
            λ o from to l.
                let n = number_of (board_in m o) in
                ⊎_elim
                (λ e. tried-kept chess G k t long x y h n pc.0
                (tried-kept chess G k t long v x j n pb.0
                (pa.1 o from (subst (λ (s : ℕ). Leads m o from s q) e l))))
                (λ r. ⊎_elim
                (λ e. tried-kept chess G k t long x y h n pc.0
                (pb.1 o from (subst (λ (s : ℕ). Leads m o from s q) e l)))
                (λ e. pc.1 o from (subst (λ (s : ℕ). Leads m o from s q) e l)) r)
                (went_to o from to l),
          ),
    )

    -- the man of the side to move has not just moved
    own-none : (kind owner to : ℕ) → Seat m q kind owner to → owner ≡ q.side → TriesTo m first second k q to u u 0
    own-none kind owner to seat e =
        taken-end m first second k q taken to u a 0 u 0 0 members-none (taken_start m first second k q taken to u a 0)
        (no_source m q taken kind owner to w seat e).all

    -- nor has one who is not on the board
    off-none : (to : ℕ) → 64 ≤ to → TriesTo m first second k q to u u 0
    off-none to h =
        taken-end m first second k q taken to u a 0 u 0 0 members-none (taken_start m first second k q taken to u a 0)
        (λ o from l. let x = (can-on (board_in m o) from to l.can).1 in absurd (omega (arith, x, h)))

    pub man-none : (kind owner s to : ℕ) → Seat m q kind owner s → s ≡ to → (eqb owner q.side || leb 64 s) ≡ true → TriesTo m first second k q to u u 0
    man-none kind owner s to seat z e = tries-at u s to 0 z
        (⊎_elim (λ x. own-none kind owner s seat (eqb→eq owner q.side x)) (λ x. off-none s (leb→le 64 s x))
        (or_cases (eqb owner q.side) (leb 64 s) (of-true e)))

    -- one who moved is the other side's
    pub man-moved : (kind owner s : ℕ) → Seat m q kind owner s → (eqb owner q.side || leb 64 s) ≡ false → Seat m q kind (1 - q.side) s
    man-moved kind owner s seat e =
        subst (λ (o : ℕ). Seat m q kind o s) (mover m q taken kind owner s w seat (eqb-false owner q.side (or-none (eqb owner q.side) (leb 64 s) e).0)) seat

-- Black has no men: his king alone
pub into-king : (m : Men) (q : Place) (taken : ℕ) → LegalLeft m q taken → (first second : List ℕ) (k : ℕ) (u : List ℕ) → Admitted m first second u
    → (v : List ℕ) (did : ℕ) → (eqb q.side 0 && eqb m.colour 0) ≡ true
    → TriesTo m first second k q (cond (eqb (1 - q.side) 0) q.white q.black) u v did → TriesInto m first second k q u v did
into-king m q taken w first second k u a v did e f =
    let x = bare-told q.side m.colour e in
    let b = admitted-kept m first second u a v f.0.long in
    subst (TriesInto m first second k q u v) (none did)
    (into-all m q taken w first second k u a v v v did 0 0 f (own-none m q taken w first second k v b m.first 0 q.first Seat.first (sym x.0))
    (own-none m q taken w first second k v b m.second m.colour q.second Seat.second (x.1 ∙ sym x.0)))
  where
    none : (i : ℕ) → i + 0 + 0 ≡ i
    none i = omega arith

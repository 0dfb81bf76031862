-- An ending's men on a place that 1 to 5 do not refuse, byte by byte.
use Rattle.std.specs.Prelude.{◌≡◌, Bool, cond, not, ◌&&◌, ◌||◌, ◌++◌, ℕ, ◌≤◌, ◌<◌, T, leb, ltb, eqb, None, Option, Some}
use Rattle.std.proofs.Math.Path.{refl}
use Rattle.std.proofs.Common.{◌∙◌, ⊎_elim, arith, leb→le, ltb→lt}
use Rattle.std.proofs.Math.Bool.{true, false}
use borrow.Author.Tests.{leb-true, leb-false, lt-leb, eqb-false, ne_eqb}
use Rattle.finite.specs.Truth.{and_left, and_right, and_both, of-true, refuted, le-or-lt}
use Rattle.finite.specs.Members.{all}
use Rattle.rules.specs.declared.Piece.{Piece}
use Rattle.rules.specs.Pawn.{pawn}
use Rattle.rules.specs.Rules.{piece_of}
use Rattle.numbering.specs.declared.Material.{Material}
use Rattle.numbering.specs.Material.{known, one_of}
use Rattle.numbering.proofs.laws.MaterialLaws.{one_known}
use Rattle.numbering.proofs.laws.ChangeLaws.{coloured}
use Rattle.position.specs.declared.Men.{Men}
use Rattle.position.specs.declared.Place.{Place}
use Rattle.position.specs.Keyed.{slot_men, board_of}
use Rattle.position.specs.Refusals.{bad_men_of, bad_side, bad_square, bad_pawn, shared_square, kings_touch, placing_with, slot_off, slot_on, slots_share}
use Rattle.position.specs.Spread.{Spread}
use Rattle.position.specs.Posed.{slot_at, posed, board_in, material_for, Complete}
use Rattle.position.proofs.laws.SlotLaws.{off-by-slots, shared-by-slots}
use Rattle.position.proofs.laws.PlacedLaws.{either}
use Rattle.position.proofs.laws.BothSizes.{six}

neither : (a b : Bool) → (a || b) ≡ false → (a ≡ false) × (b ≡ false)
neither true b e = absurd (refuted e tt)
neither false b e = (refl, e)

-- the first slot holds a man
there : (kind colour square : ℕ) (s : Option Piece) → bad_men_of (slot_at kind colour square) s ≡ false → square < 64
there kind colour square s e = go (leb 64 square) refl e
  where
    go : (x : Bool) → leb 64 square ≡ x → bad_men_of (cond x None (Some (piece_of kind colour square))) s ≡ false
        → square < 64
    go true h e = absurd (refuted e tt)
    go false h e = leb-false 64 square h

-- and no pawn
no-pawn : (kind square : ℕ) → (square < 64 → leb 4 kind ≡ false) → kind ≡ 4 → 64 ≤ square
no-pawn kind square h e =
    ⊎_elim (λ l. l) (λ l. absurd (omega (arith, leb-false 4 kind (h l)))) (le-or-lt 64 square)

first_kind : (m : Men) → T (known (material_for m)) → leb 4 m.first ≡ false
first_kind m t = lt-leb 4 m.first (go (leb 4 m.second) t)
  where
    go : (x : Bool)
        → T (known (cond x (one_of m.first) (Material.Two m.first m.second (eqb m.colour 1))))
        → m.first < 4
    go true t = one_known m.first t
    go false t =
        let j = leb→le m.first m.second (and_left (leb m.first m.second) (ltb m.second 4) t) in
        let k = ltb→lt m.second 4 (and_right (leb m.first m.second) (ltb m.second 4) t) in
        omega arith

second-kind : (f : Option Piece) (kind colour square : ℕ) → bad_men_of f (slot_at kind colour square) ≡ false → square < 64
    → leb 4 kind ≡ false
second-kind None kind colour square e l = absurd (refuted e tt)
second-kind (Some m) kind colour square e l = go (leb 64 square) refl e
  where
    go : (x : Bool) → leb 64 square ≡ x
        → bad_men_of (Some m) (cond x None (Some (piece_of kind colour square))) ≡ false → leb 4 kind ≡ false
    go true h e = absurd (omega (arith, leb-true 64 square h))
    go false h e = (neither (leb 4 m.kind) (leb 4 kind) e).1

-- nobody in the slot stands on this square
elsewhere : (at kind colour square : ℕ) → at < 64 → slot_on at (slot_at kind colour square) ≡ false → at ≡ square → ⊥
elsewhere at kind colour square l e = go (leb 64 square) refl e
  where
    go : (x : Bool) → leb 64 square ≡ x → slot_on at (cond x None (Some (piece_of kind colour square))) ≡ false
        → at ≡ square → ⊥
    go true h e = λ p. absurd (omega (arith, leb-true 64 square h))
    go false h e = eqb-false at square e

-- nor does the man of another slot
unshared : (k c s : ℕ) (l : Option Piece) → s < 64 → slots_share (slot_at k c s) l ≡ false → slot_on s l ≡ false
unshared k c s l h e = go (leb 64 s) refl e
  where
    go : (x : Bool) → leb 64 s ≡ x → slots_share (cond x None (Some (piece_of k c s))) l ≡ false
        → slot_on s l ≡ false
    go true i e = absurd (omega (arith, leb-true 64 s i))
    go false i e = e

pub placed-spread : (m : Men) (q : Place) → T (known (material_for m)) → placing_with (posed m q) ≡ 0 → Spread m q
unfolding placing_with bad_side posed board_of
placed-spread m q known z =
    let p = posed m q in
    let f = slot_at m.first 0 q.first in
    let s = slot_at m.second m.colour q.second in
    let t = six (bad_men_of f s) (bad_side p) (bad_square p) (bad_pawn p) (shared_square p) (kings_touch p) z in
    let off = off-by-slots p ∙ t.2 in
    let o = neither (leb 64 q.white) (leb 64 q.black || (slot_off f || slot_off s)) off in
    let wl = leb-false 64 q.white o.0 in
    let bl = leb-false 64 q.black (neither (leb 64 q.black) (slot_off f || slot_off s) o.1).0 in
    let fl = there m.first 0 q.first s t.0 in
    let wf = slot_on q.white f in
    let ws = slot_on q.white s in
    let bf = slot_on q.black f in
    let bs = slot_on q.black s in
    let shared = shared-by-slots p ∙ t.4 in
    let x = neither (eqb q.white q.black) ((wf || ws) || ((bf || bs) || slots_share f s)) shared in
    let y = neither (wf || ws) ((bf || bs) || slots_share f s) x.1 in
    let v = neither wf ws y.0 in
    let n = neither (bf || bs) (slots_share f s) y.1 in
    let u = neither bf bs n.0 in
    record {
      side = leb-false 2 q.side (either (leb 2 q.side) (all coloured (board_of p).men) t.1).0;
      white = wl;
      black = bl;
      first = fl;
      white-black = eqb-false q.white q.black x.0;
      white-first = elsewhere q.white m.first 0 q.first wl v.0;
      white-second = elsewhere q.white m.second m.colour q.second wl v.1;
      black-first = elsewhere q.black m.first 0 q.first bl u.0;
      black-second = elsewhere q.black m.second m.colour q.second bl u.1;
      first-second = elsewhere q.first m.second m.colour q.second fl
          (unshared m.first 0 q.first s fl n.1);
      kings = t.5;
      pawnless = record {
        first = no-pawn m.first q.first (λ l. first_kind m known);
        second = no-pawn m.second q.second (second-kind f m.second m.colour q.second t.0);
      };
    }

pub complete-spread : {m : Men} {q : Place} → Complete m q → Spread m q
complete-spread {m} {q} c = placed-spread m q c.ending c.placed

-- none of an ending's men is a pawn
slot-plain : (kind colour square : ℕ) → (kind ≡ 4 → 64 ≤ square)
    → all (λ a. not (pawn a)) (slot_men (slot_at kind colour square)) ≡ true
slot-plain kind colour square h = go (leb 64 square) refl
  where
    go : (x : Bool) → leb 64 square ≡ x
        → all (λ a. not (pawn a)) (slot_men (cond x None (Some (piece_of kind colour square)))) ≡ true
    go true e = unfold all in refl
    go false e =
        let l = leb-false 64 square e in
        unfold all in rw (ne_eqb kind 4 (λ z. let g = h z in absurd (omega (arith, g, l))))

pub complete-pawnless : {m : Men} {q : Place} → Complete m q → T (all (λ a. not (pawn a)) (board_in m q).men)
unfolding board_of posed
complete-pawnless {m} {q} c =
    let s = (complete-spread c).pawnless in
    both (slot_at m.first 0 q.first) (slot_at m.second m.colour q.second)
    (slot-plain m.first 0 q.first s.first) (slot-plain m.second m.colour q.second s.second)
  where
    plain : Piece → Bool
    plain a = not (pawn a)

    both : (f k : Option Piece) → all plain (slot_men f) ≡ true → all plain (slot_men k) ≡ true
        → T (all plain (slot_men f ++ slot_men k))
    both None k e g = of-true g
    both (Some a) None e g = of-true e
    both (Some a) (Some d) e g =
        unfold all in and_both (plain a) (plain d && true) (and_left (plain a) true (of-true (unfold all in e)))
        (of-true (unfold all in g))

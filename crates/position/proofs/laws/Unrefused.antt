-- One quick test that none of refusals 2 to 5 and 18 applies.
use Rattle.rules.specs.declared.Piece.{Piece}
use Rattle.std.specs.Prelude.{◌≡◌, refl, Bool, true, false, cond, ◌||◌, ℕ, leb, eqb, None, Option, Some}
use Rattle.std.proofs.Common.{sym, ◌∙◌}
use Rattle.finite.specs.Truth.{refuted}
use Rattle.position.specs.declared.Position.{Position}
use Rattle.position.specs.Refusals.{bad_man, bad_men_of, bad_side, bad_square, bad_pawn, shared_square, kings_touch, later_refusal, placing_refusal, placing_with, slot_foreign, slot_off, slot_astray, slot_on, slots_share, slot_misplaced}
use Rattle.position.proofs.laws.BothSizes.{six}
use Rattle.position.proofs.laws.SlotLaws.{foreign-by-slots, off-by-slots, astray-by-slots, shared-by-slots}

four : (a b c d : Bool) → (a || (b || (c || d))) ≡ false → (a ≡ false) × (b ≡ false) × (c ≡ false) × (d ≡ false)
four true b c d z = absurd (refuted z tt)
four false true c d z = absurd (refuted z tt)
four false false true d z = absurd (refuted z tt)
four false false false d z = (refl, refl, refl, z)

five : (a b c d e : Bool) → (a || (b || (c || (d || e)))) ≡ false
    → (a ≡ false) × (b ≡ false) × (c ≡ false) × (d ≡ false) × (e ≡ false)
five true b c d e z = absurd (refuted z tt)
five false b c d e z = let f = four b c d e z in (refl, f.0, f.1, f.2, f.3)

-- a man that is not misplaced, test by test
slot-well : (white black : ℕ) (k : Option Piece) → slot_misplaced white black k ≡ false
    → (slot_foreign k ≡ false)
    × (slot_off k ≡ false)
    × (slot_astray k ≡ false)
    × (slot_on white k ≡ false)
    × (slot_on black k ≡ false)
slot-well white black None z = (refl, refl, refl, refl, refl)
slot-well white black (Some m) z =
    five (slot_foreign (Some m)) (slot_off (Some m)) (slot_astray (Some m)) (slot_on white (Some m))
    (slot_on black (Some m)) z

pub unrefused : (p : Position)
    → (leb 2 p.side
    || (leb 64 p.white_king
    || (leb 64 p.black_king || eqb p.white_king p.black_king))) ≡ false
    → slot_misplaced p.white_king p.black_king p.first ≡ false
    → slot_misplaced p.white_king p.black_king p.second ≡ false
    → slots_share p.first p.second ≡ false → kings_touch p ≡ false
    → later_refusal p ≡ 0
unrefused p ek ef es em et =
    let white = p.white_king in
    let black = p.black_king in
    let k = four (leb 2 p.side) (leb 64 white) (leb 64 black) (eqb white black) ek in
    let f = slot-well white black p.first ef in
    let s = slot-well white black p.second es in
    let side : bad_side p ≡ false = sym (foreign-by-slots p) ∙ rw (k.0, f.0, s.0) in
    let square : bad_square p ≡ false = sym (off-by-slots p) ∙ rw (k.1, k.2, f.1, s.1) in
    let pawn : bad_pawn p ≡ false = sym (astray-by-slots p) ∙ rw (f.2, s.2) in
    let shared : shared_square p ≡ false = sym (shared-by-slots p) ∙ rw (k.3, f.3, s.3, f.4, s.4, em) in
    rw (side, square, pawn, shared, et)

-- where no refusal applies the kings do not touch
kings-apart : (p : Position) (men : Bool) → cond men 1 (later_refusal p) ≡ 0 → kings_touch p ≡ false
kings-apart p men z = (six men (bad_side p) (bad_square p) (bad_pawn p) (shared_square p) (kings_touch p) z).5

pub placing-kings : (p : Position) → placing_refusal p ≡ 0 → kings_touch p ≡ false
unfolding placing_refusal
placing-kings p z = kings-apart p (bad_man p) z

pub placed-kings-with : (p : Position) → placing_with p ≡ 0 → kings_touch p ≡ false
unfolding placing_with
placed-kings-with p z = kings-apart p (bad_men_of p.first p.second) z

-- One set of the last man's squares tells for a row of numbers where the position is legal, and where the side to move may
-- be in check.
use Rattle.std.specs.Prelude.{◌≡◌, refl, Bool, true, false, cond, not, ◌&&◌, List, ℕ, ◌+◌, ◌-◌, ◌*◌, ◌/◌, ◌%◌, ◌<◌, eqb}
use Rattle.std.proofs.Common.{sym, ap, ap₂, subst, ◌∙◌, arith}
use Rattle.board.specs.Reach.{reaches}
use Rattle.board.specs.Sets.{has, set_of}
use Rattle.board.proofs.laws.SetLaws.{has-none, has-not, set-has}
use Rattle.rules.specs.Rules.{piece_of, occupied, in_check}
use Rattle.numbering.specs.Keys.{board_at}
use Rattle.numbering.specs.Material.{men_of}
use Rattle.numbering.specs.Number.{used}
use Rattle.position.specs.declared.Men.{Men}
use Rattle.position.specs.declared.Place.{Place}
use Rattle.position.specs.Posed.{board_in, material_for, Complete}
use Rattle.position.proofs.laws.PosedLaws.{complete-spread}
use Rattle.movegen.specs.Places.{piece_strikes, men_strike}
use Rattle.index.specs.Seats.{StandsAt, shares}
use Rattle.index.proofs.laws.PlaceLaws.{used-not}
use Rattle.index.proofs.laws.CompleteLaws.{shared-complete, complete-seated}
use Rattle.four_men.specs.Reading.{legal_number_of}
use Rattle.successors.proofs.laws.NumberLaws.{found-unused, found-illegal, found-legal}
use Rattle.deciding.specs.Deciding.{required_of}
use Rattle.deciding.specs.Rows.{RowOf, with_last, last_kind, last_owner, LegalRow, ChecksIn, MateRow, PlainRow}
use Rattle.deciding.proofs.laws.Rows.{row_kept, row-square}
use Rattle.deciding.proofs.laws.SettlingLaws.{calm-required}
use Rattle.deciding.proofs.laws.LastMan.{free-square, shared-square, check-last}
use Rattle.deciding.proofs.laws.PlainRows.{plain-used}

pub every-square : (u : ℕ) → u < 64 → has 18446744073709551615 u ≡ true
every-square u h = has-not 0 u h (omega arith) ∙ ap not (has-none u)

-- the side to move is the other of the other
pub mover : (m : Men) (n : ℕ) (row q : Place) → q ≡ with_last m row 64 → RowOf m n row → (foe : ℕ) → foe ≡ 1 - q.side
    → q.side ≡ 1 - foe
mover m n row q e r foe f = omega (arith, f, ap (λ (p : Place). p.side) e, r.side)

-- As code has them in hand: the pieces that stand still, and the squares from which the last man strikes a king's. None of
-- the others strikes it.
module _ (m : Men) (row q : Place) (eq : q ≡ with_last m row 64) (occ : ℕ) (eo : occ ≡ set_of (occupied (board_in m q)))
    (side owner square : ℕ) (ew : owner ≡ 1 - side) (es : square ≡ cond (eqb side 0) q.white q.black)
    (hit : Bool) (eh : hit ≡ men_strike m q (has occ) owner square) (none : hit ≡ false) (kind colour struck : ℕ) (ek : kind ≡ last_kind m)
    (ec : colour ≡ last_owner m)
    (et : struck ≡ set_of (λ (t : ℕ). piece_strikes (has occ) owner t (piece_of kind colour square))) where
  still : occ ≡ set_of (occupied (board_in m (with_last m row 64)))
  still = eo ∙ ap (λ (p : Place). set_of (occupied (board_in m p))) eq

  check-told : (s : ℕ) → s < 64 → Complete m (with_last m row s) → has occ s ≡ false
      → in_check (board_in m (with_last m row s)) side ≡ has struck s
  check-told s h c gone =
      check-last m row s h (complete-seated m (with_last m row s) c) c occ still gone side owner square ew
      (es ∙ ap (λ (p : Place). cond (eqb side 0) p.white p.black) eq)
      (ap (λ (p : Place). men_strike m p (has occ) owner square) (sym eq) ∙ sym eh ∙ none)
      ∙ sym (ap₂ (λ (k o : ℕ). eqb o owner && reaches (has occ) k square s) ek ec) ∙ sym (set-has _ et s h)

  -- ---- where the side is in check

  pub checks-in : side ≡ q.side → ChecksIn m row struck
  checks-in e s h c z =
      ap (in_check (board_in m (with_last m row s))) (sym (e ∙ ap (λ (p : Place). p.side) eq))
      ∙ check-told s h c (free-square m row s h occ still (complete-spread c)) ∙ z

  -- ---- where the position is legal

  module _ (n : ℕ) (r : RowOf m n row) (p : PlainRow m q) (e : side ≡ 1 - q.side) where
    plain : PlainRow m (with_last m row 64)
    plain = subst (PlainRow m) eq p

    legal-square : (s : ℕ) → s < 64 → (not (has occ s) && not (has struck s)) ≡ legal_number_of (material_for m) (n / 64 * 64 + s)
    legal-square s h = go (shares (with_last m row s)) refl
      where
        at : Place
        at = with_last m row s

        a : StandsAt m (n / 64 * 64 + s) at
        a = row-square m n row r s h

        taken : has occ s ≡ shares at
        taken = sym (shared-square m row s h occ still a.seated plain.clear)

        by-check : (x : Bool) → has struck s ≡ x → shares at ≡ false → not x ≡ legal_number_of (material_for m) (n / 64 * 64 + s)
        by-check x f z =
            let c = shared-complete m (n / 64 * 64 + s) at a z in
            let u = plain-used m (n / 64 * 64 + s) at a plain.unlike plain.exchange z in
            let k = ap (in_check (board_in m at)) (sym (e ∙ ap (λ (p : Place). 1 - p.side) eq)) ∙ check-told s h c (taken ∙ z) ∙ f in
            told x u c k
          where
            told : (x : Bool) → used (board_at (men_of (material_for m)) (n / 64 * 64 + s)) ≡ true → Complete m at
                → in_check (board_in m at) (1 - row.side) ≡ x → not x ≡ legal_number_of (material_for m) (n / 64 * 64 + s)
            told true u c k = sym (found-illegal m (n / 64 * 64 + s) at a.seated.ending a.board u c k)
            told false u c k = sym (found-legal m (n / 64 * 64 + s) at a.seated.ending a.board u c k).0

        go : (x : Bool) → shares at ≡ x → (not (has occ s) && not (has struck s)) ≡ legal_number_of (material_for m) (n / 64 * 64 + s)
        go true z =
            rw (taken ∙ z) (sym (found-unused m (n / 64 * 64 + s) at a.seated.ending a.board (sym (used-not m (n / 64 * 64 + s) at a z))))
        go false z = rw (taken ∙ z) (by-check (has struck s) refl z)

    -- as code makes it
    pub legal-told : (free set : ℕ) → free ≡ set_of (λ (u : ℕ). has 18446744073709551615 u && not (has occ u))
        → set ≡ set_of (λ (u : ℕ). has free u && not (has struck u)) → LegalRow m n set
    legal-told free set ef e s h =
        set-has _ e s h ∙ ap (λ (x : Bool). x && not (has struck s)) (set-has _ ef s h ∙ ap (λ (x : Bool). x && not (has occ s)) (every-square s h))
        ∙ legal-square s h

-- ---- at a number of the row

pub legal-in-row : (m : Men) (n set : ℕ) → LegalRow m n set → has set (n % 64) ≡ legal_number_of (material_for m) n
legal-in-row m n set l =
    let e : n / 64 * 64 + n % 64 ≡ n = omega arith in
    l (n % 64) (omega arith) ∙ ap (legal_number_of (material_for m)) e

pub mate-in-row : (m : Men) (n set : ℕ) → MateRow m n set → has set (n % 64) ≡ false → (first second table : List ℕ)
    → false ≡ required_of m first second table 0 n
mate-in-row m n set l z first second table =
    let e : n / 64 * 64 + n % 64 ≡ n = omega arith in
    l (n % 64) (omega arith) z first second table ∙ ap (required_of m first second table 0) e

-- and at the next, if it is in the row
module _ (m : Men) (n set : ℕ) (h : (n + 1) % 64 ≡ 0 → ⊥) where
  pub legal-next : LegalRow m n set → LegalRow m (n + 1) set
  legal-next = row_kept (λ (x : ℕ). (s : ℕ) → s < 64 → has set s ≡ legal_number_of (material_for m) (x + s)) n h

  pub mate-next : MateRow m n set → MateRow m (n + 1) set
  mate-next =
      row_kept
      (λ (x : ℕ). (s : ℕ) → s < 64 → has set s ≡ false → (first second table : List ℕ)
      → false ≡ required_of m first second table 0 (x + s)) n h

-- no mate without a check
pub mate-row : (m : Men) (n set : ℕ) (row : Place) → RowOf m n row → ChecksIn m row set → MateRow m n set
mate-row m n set row r calm s h z first second table =
    let a = row-square m n row r s h in
    calm-required m first second table 0 (n / 64 * 64 + s) a.seated.ending (with_last m row s) a (λ c. calm s h c z) refl

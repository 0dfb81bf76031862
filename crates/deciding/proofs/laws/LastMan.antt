-- Check at the numbers of a row: where none of the pieces that stand still gives it, by the last man alone, told from the
-- king's square.
use Rattle.std.specs.Prelude.{◌≡◌, refl, Bool, cond, ◌&&◌, ◌||◌, ℕ, ◌-◌, ◌<◌, ◌≤◌}
use Rattle.std.proofs.Math.Path.{sym}
use Rattle.std.proofs.Common.{ap, ap₂, ◌∙◌, inl, arith}
use Rattle.std.proofs.Math.Bool.{true, false, and-false, or-false}
use Rattle.std.proofs.Math.Dec.{leb, eqb}
use borrow.Author.Tests.{ne_eqb, leb-true}
use Rattle.finite.specs.Truth.{eqb-sym}
use Rattle.board.specs.Reach.{reaches}
use Rattle.board.specs.Sets.{has, set_of}
use Rattle.board.proofs.laws.ReachLaws.{reaches-off}
use Rattle.board.proofs.laws.SetLaws.{set-has}
use Rattle.rules.specs.Rules.{occupied, in_check, attacked, king}
use Rattle.position.specs.declared.Men.{Men}
use Rattle.position.specs.declared.Place.{Place}
use Rattle.position.specs.Keyed.{board_of}
use Rattle.position.specs.Over.{attacked_over}
use Rattle.position.specs.Posed.{posed, board_in, Complete}
use Rattle.position.specs.Spread.{Spread}
use Rattle.position.proofs.laws.PosedLaws.{complete-spread}
use Rattle.movegen.specs.Places.{men_strike}
use Rattle.movegen.proofs.laws.Places.{occupied-men}
use Rattle.movegen.proofs.laws.Lines.{line-cut, line-own}
use Rattle.movegen.proofs.laws.Struck.{attacked-king}
use Rattle.movegen.proofs.laws.Opening.{neither}
use Rattle.index.specs.Seats.{Seated, shares}
use Rattle.deciding.specs.Rows.{with_last, last_kind, last_owner}

-- one who is off the board stands nowhere
nowhere : (u y : ℕ) → u < 64 → 64 ≤ y → eqb u y ≡ false
nowhere u y h l = ne_eqb u y (λ e. absurd (omega (arith, e, h, l)))

module _ (m : Men) (row : Place) (s : ℕ) (h : s < 64) (occ : ℕ)
    (eo : occ ≡ set_of (occupied (board_in m (with_last m row 64)))) where
  abbrev at : Place
  at = with_last m row s

  -- elsewhere the same pieces stand
  same : (u : ℕ) → u < 64 → (u ≡ s → ⊥) → occupied (board_in m at) u ≡ has occ u
  same u l n =
      occupied-men m at u l ∙ go (leb 4 m.second) ∙ sym (set-has _ eo u l ∙ occupied-men m (with_last m row 64) u l)
    where
      off : eqb u s ≡ eqb u 64
      off = ne_eqb u s n ∙ sym (nowhere u 64 l (omega arith))

      go : (x : Bool)
          → (eqb u row.white || (eqb u row.black || (eqb u (cond x s row.first) || eqb u (cond x row.second s))))
          ≡ (eqb u row.white || (eqb u row.black || (eqb u (cond x 64 row.first) || eqb u (cond x row.second 64))))
      go true = ap (λ (b : Bool). eqb u row.white || (eqb u row.black || (b || eqb u row.second))) off
      go false = ap (λ (b : Bool). eqb u row.white || (eqb u row.black || (eqb u row.first || b))) off

  off : eqb s 64 ≡ false
  off = nowhere s 64 h (omega arith)

  -- and he stands on a free square
  pub free-square : Spread m at → has occ s ≡ false
  free-square w =
      set-has _ eo s h ∙ occupied-men m (with_last m row 64) s h
      ∙ go (leb 4 m.second) w.white-first w.white-second w.black-first w.black-second w.first-second
    where
      go : (x : Bool) → (row.white ≡ cond x s row.first → ⊥) → (row.white ≡ cond x row.second s → ⊥)
          → (row.black ≡ cond x s row.first → ⊥) → (row.black ≡ cond x row.second s → ⊥)
          → (cond x s row.first ≡ cond x row.second s → ⊥)
          → (eqb s row.white || (eqb s row.black || (eqb s (cond x 64 row.first) || eqb s (cond x row.second 64))))
          ≡ false
      go true wf ws bf bs fs =
          rw (
            ne_eqb s row.white (λ e. wf (sym e)),
            ne_eqb s row.black (λ e. bf (sym e)),
            off,
            ne_eqb s row.second fs,
          )
      go false wf ws bf bs fs =
          rw (
            ne_eqb s row.white (λ e. ws (sym e)),
            ne_eqb s row.black (λ e. bs (sym e)),
            ne_eqb s row.first (λ e. fs (sym e)),
            off,
          )

  module _ (a : Seated m at) where
    -- where those who stand still are apart, he shares a square exactly if it is taken
    pub shared-square : (eqb row.white (with_last m row 64).first || eqb row.black (with_last m row 64).first) ≡ false
        → shares at ≡ has occ s
    unfolding shares
    shared-square z =
        go (leb 4 m.second) z a.second ∙ sym (set-has _ eo s h ∙ occupied-men m (with_last m row 64) s h)
      where
        go : (x : Bool) → (eqb row.white (cond x 64 row.first) || eqb row.black (cond x 64 row.first)) ≡ false
            → leb 64 (cond x row.second s) ≡ x
            → (eqb row.white (cond x s row.first) || (eqb row.black (cond x s row.first)
            || (eqb row.white (cond x row.second s) || (eqb row.black (cond x row.second s)
            || eqb (cond x s row.first) (cond x row.second s)))))
            ≡ (eqb s row.white || (eqb s row.black || (eqb s (cond x 64 row.first) || eqb s (cond x row.second 64))))
        go true e w =
            let l = leb-true 64 row.second w in
            rw (
              eqb-sym s row.white,
              eqb-sym s row.black,
              off,
              nowhere row.white row.second a.white l,
              nowhere row.black row.second a.black l,
            )
        go false e w =
            let f = neither (eqb row.white row.first) (eqb row.black row.first) e in
            rw (f.0, f.1, eqb-sym s row.white, eqb-sym s row.black, eqb-sym s row.first, off, or-false (eqb row.first s))

    -- ---- who strikes a square

    module _ (gone : has occ s ≡ false) (owner t : ℕ) (none : men_strike m (with_last m row 64) (has occ) owner t ≡ false) where
      abbrev over : ℕ → Bool
      over = occupied (board_in m at)

      cut : (x : Bool) (kind from : ℕ) → (x && reaches (has occ) kind from t) ≡ false → (x && reaches over kind from t) ≡ false
      cut true kind from e = line-cut over (has occ) s t same gone kind from e
      cut false kind from e = refl

      strike-last : men_strike m at over owner t ≡ (eqb (last_owner m) owner && reaches (has occ) (last_kind m) t s)
      strike-last = go (leb 4 m.second) a.second none
        where
          go : (x : Bool) → leb 64 (cond x row.second s) ≡ x
              → ((eqb 0 owner && reaches (has occ) m.first (cond x 64 row.first) t)
              || (eqb m.colour owner && reaches (has occ) m.second (cond x row.second 64) t)) ≡ false
              → ((eqb 0 owner && reaches over m.first (cond x s row.first) t)
              || (eqb m.colour owner && reaches over m.second (cond x row.second s) t))
              ≡ (eqb (cond x 0 m.colour) owner && reaches (has occ) (cond x m.first m.second) t s)
          go true w e =
              rw (
                reaches-off over m.second row.second t (inl (leb-true 64 row.second w)),
                and-false (eqb m.colour owner),
                or-false (eqb 0 owner && reaches over m.first s t),
                line-own over (has occ) s t same gone m.first,
              )
          go false w e =
              rw (cut (eqb 0 owner) m.first row.first (neither _ _ e).0, line-own over (has occ) s t same gone m.second)

-- ---- check

men-check : (m : Men) (q : Place) → Complete m q → (side : ℕ)
    → in_check (board_in m q) side
    ≡ men_strike m q (occupied (board_in m q)) (1 - side) (king (board_in m q) side)
unfolding in_check attacked attacked_over
men-check m q c side =
    let w = complete-spread c in attacked-king m q w.pawnless w.kings (occupied (board_in m q)) side

-- a side is in check exactly if the last man strikes its king's square from his, over those who stand still
pub check-last : (m : Men) (row : Place) (s : ℕ) → s < 64 → Seated m (with_last m row s) → Complete m (with_last m row s)
    → (occ : ℕ) → occ ≡ set_of (occupied (board_in m (with_last m row 64))) → has occ s ≡ false
    → (side owner square : ℕ) → owner ≡ 1 - side → square ≡ cond (eqb side 0) row.white row.black
    → men_strike m (with_last m row 64) (has occ) owner square ≡ false
    → in_check (board_in m (with_last m row s)) side
    ≡ (eqb (last_owner m) owner && reaches (has occ) (last_kind m) square s)
unfolding board_of posed
check-last m row s h a c occ eo gone side owner square ew es none =
    men-check m (with_last m row s) c side
    ∙ sym (ap₂ (men_strike m (with_last m row s) (occupied (board_in m (with_last m row s)))) ew es)
    ∙ strike-last m row s h occ eo a gone owner square none

-- Where the piece on a square goes back to, whether the position before is legal or not: the kings apart, the men are all there.
use Rattle.std.specs.Prelude.{◌≡◌, refl, Bool, false, cond, not, ◌&&◌, ℕ, ◌-◌, ◌<◌, T, eqb}
use Rattle.std.proofs.Common.{sym, ap, subst, ◌∙◌}
use Rattle.std.proofs.Math.Path.{subst⁻¹}
use Rattle.finite.specs.Truth.{and_left, and_right, and_both, false_of, refuted}
use Rattle.board.specs.Reach.{reaches}
use Rattle.board.specs.Sets.{has, set_of}
use Rattle.board.proofs.laws.ReachLaws.{reaches-squares, king-reaches}
use Rattle.board.proofs.laws.SetLaws.{has-none, set-has}
use Rattle.rules.specs.Rules.{occupied, touching, legal}
use Rattle.rules.proofs.laws.Legal.{legal-facts}
use Rattle.rules.proofs.laws.CanMove.{can-on}
use Rattle.position.specs.declared.Men.{Men}
use Rattle.position.specs.declared.Place.{Place}
use Rattle.position.specs.Posed.{board_in}
use Rattle.retracting.specs.Retracting.{Leads, LegalLeft, Seat, loser, place_before, Steps, Retracts, GoesBack, StepsBack}
use Rattle.retracting.proofs.laws.Sources.{free_of, free-empty, leads-back, put_back, was_free, came}
use Rattle.retracting.proofs.laws.Unchecked.{king-touches, man-touches}
use Rattle.retracting.proofs.laws.Code.{no_capture, reached, unoccupied, apart-there, came-among}

-- whatever has a move to this place goes back to it
pub leads_goes : (m : Men) (q : Place) (taken s to : ℕ) → LegalLeft m q taken → Leads m (place_before q taken s to) s to q → GoesBack m q taken s to
leads_goes m q taken s to g l =
    let on = can-on (board_in m (place_before q taken s to)) s to l.can in
    record {
      target = on.1;
      square = on.0;
      free = free-empty m q s on.0 (was_free m q (place_before q taken s to) s to taken g l);
      complete = l.complete;
      legally = λ h. l;
    }

module _ (m : Men) (q : Place) (taken kind to : ℕ) (g : LegalLeft m q taken) (seat : Seat m q kind (1 - q.side) to) where
  -- a man of its own it does not take
  pub no_steps : (taken ≡ 0 → ⊥) → (loser m taken ≡ q.side → ⊥) → StepsBack m q taken to 0
  no_steps n e = record {
    sound = λ s h t. absurd (refuted (has-none s) t);
    all = (no_capture m q taken kind (1 - q.side) to g seat n e).all;
  }

  abbrev foe : ℕ
  foe = cond (eqb q.side 0) q.white q.black

  abbrev stood : ℕ → Bool
  stood u = occupied (board_in m q) u && not (eqb taken 0 && eqb u to)

  module _ (occ squares : ℕ) (st : Steps m q kind to occ squares) (lost : (taken ≡ 0 → ⊥) → loser m taken ≡ q.side) where
    module _ (s : ℕ) (h : s < 64) (t : T (has squares s)) where
      abbrev o : Place
      o = place_before q taken s to

      reach : T (reaches (occupied (board_in m q)) kind to s)
      reach = reached m q taken kind (1 - q.side) to g seat occ squares st s h t

      clear : occupied (board_in m q) s ≡ false
      clear = unoccupied m q taken kind (1 - q.side) to g seat occ squares st s h t

      goes : touching (board_in m o) ≡ false → GoesBack m q taken s to
      goes e =
          let c = apart-there m q taken kind (1 - q.side) to g seat occ squares st s h t e in
          record {
            target = (reaches-squares (occupied (board_in m q)) kind to s reach).0;
            square = h;
            free = clear;
            complete = c;
            legally = leads-back m q taken g kind (1 - q.side) s to seat refl lost reach (free_of m q s h clear) c;
          }

      man-goes : (kind ≡ 5 → ⊥) → GoesBack m q taken s to
      man-goes n =
          goes (man-touches m q taken g kind (1 - q.side) to s seat refl lost reach (free_of m q s h clear) foe refl stood (λ u l. refl) n)

      king-goes : kind ≡ 5 → reaches (has 0) 5 foe s ≡ false → GoesBack m q taken s to
      king-goes e n =
          goes (king-touches m q taken g kind (1 - q.side) to s seat refl lost reach (free_of m q s h clear) foe refl stood (λ u l. refl) e
          ∙ king-reaches stood (has 0) foe s ∙ n)

    among : (p : Place) (s : ℕ) → Leads m p s to q → T (has squares s)
    among = came-among m q taken kind (1 - q.side) to g seat occ squares st

    pub man-steps : (kind ≡ 5 → ⊥) → StepsBack m q taken to squares
    man-steps n = record {
      sound = λ s h t. man-goes s h t n;
      all = λ p s l. (among p s l, put_back m q p s to taken g l);
    }

    -- a king keeps away from the other
    pub king-steps : kind ≡ 5 → (k near r : ℕ) → k ≡ foe → near ≡ set_of (reaches (has 0) 5 k)
        → r ≡ set_of (λ (u : ℕ). has squares u && not (has near u)) → StepsBack m q taken to r
    king-steps e k near r ek en er = record {
      sound = λ s h t.
          let b = subst T (set-has (λ (u : ℕ). has squares u && not (has near u)) er s h) t in
          king-goes s h (and_left (has squares s) (not (has near s)) b) e
          (sym (beside s h) ∙ false_of (and_right (has squares s) (not (has near s)) b));
      all = λ p s l. (kept p s l, put_back m q p s to taken g l);
    }
      where
        beside : (s : ℕ) → s < 64 → has near s ≡ reaches (has 0) 5 foe s
        beside s h = set-has (reaches (has 0) 5 k) en s h ∙ ap (λ (x : ℕ). reaches (has 0) 5 x s) ek

        away : (p : Place) (s : ℕ) → s < 64 → Leads m p s to q → has near s ≡ false
        away p s h l =
            beside s h ∙ king-reaches (has 0) stood foe s
            ∙ sym (king-touches m q taken g kind (1 - q.side) to s seat refl lost (came m q p s to taken g l kind (1 - q.side) seat)
            (was_free m q p s to taken g l) foe refl stood (λ u l. refl) e)
            ∙ (legal-facts (board_in m (place_before q taken s to))
            (subst (λ (c : Place). T (legal (board_in m c))) (put_back m q p s to taken g l) l.legality)).kings

        kept : (p : Place) (s : ℕ) → Leads m p s to q → T (has r s)
        kept p s l =
            let h = (can-on (board_in m p) s to l.can).0 in
            subst⁻¹ T (set-has (λ (u : ℕ). has squares u && not (has near u)) er s h)
            (and_both (has squares s) (not (has near s)) (among p s l) (subst⁻¹ (λ (b : Bool). T (not b)) (away p s h l) tt))

-- of these squares those that leave a legal position are exactly the ones from which the piece may have come
pub legal-steps : (m : Men) (q : Place) (taken to set kept : ℕ) → StepsBack m q taken to set
    → ((s : ℕ) → s < 64 → has kept s ≡ (has set s && legal (board_in m (place_before q taken s to)))) → Retracts m q taken to kept
legal-steps m q taken to set kept st e = record {
  sound = λ s h t.
      let b = subst T (e s h) t in
      (st.sound s h (and_left (has set s) (legal (board_in m (place_before q taken s to))) b)).legally
      (and_right (has set s) (legal (board_in m (place_before q taken s to))) b);
  all = λ p s l.
      let w = st.all p s l in
      let h = (can-on (board_in m p) s to l.can).0 in
      let there = subst (λ (c : Place). T (legal (board_in m c))) w.1 l.legality in
      (subst⁻¹ T (e s h) (and_both (has set s) (legal (board_in m (place_before q taken s to))) w.0 there), w.1);
}

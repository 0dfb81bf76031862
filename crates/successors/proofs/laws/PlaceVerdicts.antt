-- The verdict on a byte of a complete place, and whether a depth is required there.
use Rattle.std.proofs.Math.Path.{◌≡◌, refl, sym, ap, subst⁻¹}
use Rattle.std.proofs.Common.{subst, ◌∙◌, arith, eq-eqb, ne_eqb}
use Rattle.std.specs.Prelude.{Bool, ◌&&◌, List, ℕ, ◌≤◌, ◌<◌, eqb, Option, Some, None}
use Rattle.std.proofs.Math.Bool.{true, false, cond, and-false}
use Rattle.theory.specs.Required.{required_at}
use Rattle.board.specs.Sets.{set_of}
use Rattle.rules.specs.declared.Move.{Move}
use Rattle.rules.specs.Rules.{Board, empty, king, in_check, can_move, taking, move_of, move_on, moves, mated}
use Rattle.rules.specs.Chess.{chess}
use Rattle.position.specs.declared.Men.{Men}
use Rattle.position.specs.declared.Place.{Place}
use Rattle.position.specs.Keyed.{board_of}
use Rattle.position.specs.Posed.{posed, board_in, Complete}
use Rattle.position.proofs.laws.PosedLaws.{complete-pawnless}
use Rattle.movegen.specs.declared.Reach.{Reach}
use Rattle.successors.specs.declared.Verdict.{Verdict}
use Rattle.successors.specs.declared.Seen.{Seen}
use Rattle.successors.specs.declared.Weighed.{Weighed}
use Rattle.successors.specs.Successors.{bytes_in, king_at, Reaches, judged_from, seen_in, verdict_of, no_targets, end_verdict, over_of, NoneSuits, OneSuits, Weighs}
use Rattle.successors.proofs.laws.Plain.{Plain}
use Rattle.successors.proofs.laws.PlaceLaws.{whole, manned, starts}
use Rattle.successors.proofs.laws.ChoiceLaws.{Shown, Least, least-seen, seen-shown, seen_first, none_seen}
use Rattle.successors.proofs.laws.VerdictLaws.{stuck, Sets, found-refuting, found-sets, verdict-refuted, verdict-met, verdict-unmet}

-- ---- as code asks

pub end-check : (x : Bool) → x ≡ true → ◌≡◌ {A = ℕ} 2 (cond x 2 1)
end-check x e = sym (rw e)

pub end_quiet : (x : Bool) → x ≡ false → ◌≡◌ {A = ℕ} 1 (cond x 2 1)
end_quiet x e = sym (rw e)

module _ (c : ℕ) (r : Reach) (b : Board) where
  over-more : no_targets r ≡ false → Verdict.Wrong ≡ over_of c r b
  unfolding over_of
  over-more e = sym (rw e)

  over-stuck : no_targets r ≡ true → end_verdict c b ≡ over_of c r b
  unfolding over_of
  over-stuck e = sym (rw e)

module _ (c : ℕ) (b : Board) (s e : ℕ) (h : b.side ≡ s) (k : e ≡ cond (in_check b s) 2 1) where
  by_end : end_verdict c b ≡ cond (eqb c e) (Verdict.Right None) Verdict.Wrong
  unfolding end_verdict
  by_end =
      ap (λ (n : ℕ). cond (eqb c n) (Verdict.Right None) Verdict.Wrong)
      (ap (λ (t : ℕ). cond (in_check b t) 2 1) h ∙ sym k)

  pub end-right : c ≡ e → Verdict.Right None ≡ end_verdict c b
  end-right q = sym (by_end ∙ rw (eq-eqb c e q))

  pub end-wrong : (c ≡ e → ⊥) → Verdict.Wrong ≡ end_verdict c b
  end-wrong n = sym (by_end ∙ rw (ne_eqb c e n))

  -- and so by the verdict whether the byte is required
  pub end-required : (byte : Board → ℕ) → end_verdict c b ≡ verdict_of byte c b
      → eqb c e ≡ eqb c (required_at chess byte b)
  unfolding verdict_of
  end-required byte v = same_test (eqb c e) (eqb c (required_at chess byte b)) _ _ (sym by_end ∙ v)
    where
      same_test : (x y : Bool) (a d : Option Move)
          → cond x (Verdict.Right a) Verdict.Wrong ≡ cond y (Verdict.Right d) Verdict.Wrong → x ≡ y
      same_test true true a d q = refl
      same_test false false a d q = refl
      same_test true false a d q = let z : ◌≡◌ {A = ℕ} 0 1 = cc in absurd (omega arith)
      same_test false true a d q = let z : ◌≡◌ {A = ℕ} 0 1 = cc in absurd (omega arith)

-- ---- of a complete place

module _ (m : Men) (q : Place) where
  pub place-side : (board_in m q).side ≡ q.side
  unfolding board_of posed
  place-side = refl

  pub to-reaches : (r : Reach) → (r.king ≡ set_of (can_move (board_in m q) (king (board_in m q) q.side)))
      × (r.first ≡ set_of (can_move (board_in m q) q.first)) × (r.second ≡ set_of (can_move (board_in m q) q.second))
      → Reaches m q r
  unfolding board_of posed
  to-reaches r t = record { king = t.0; first = t.1; second = t.2 }

  -- no byte suits, as code finds it
  pub weighs-none : (byte : Board → ℕ) (c : ℕ) (stuck : Bool) (sets : Reach)
      → judged_from byte c (board_in m q) (king_at q) q.first q.second ≡ Some sets → (s : Seen)
      → s ≡ seen_in (king_at q) q.first q.second sets → 64 ≤ s.from → (r : Reach) → Reaches m q r
      → no_targets r ≡ stuck → NoneSuits m q byte c stuck
  weighs-none byte c stuck sets e s i h r t n =
      record {
        sets = sets;
        found = e;
        unseen = subst⁻¹ (λ (x : Seen). 64 ≤ x.from) (sym i) h;
        reach = r;
        reaches = t;
        targets = n;
      }

  pub place-quiet : in_check (board_in m q) q.side ≡ false → false ≡ mated (board_in m q)
  unfolding mated board_of posed
  place-quiet e = sym (rw e)

  module _ (w : Complete m q) where
    pub plain : Plain (board_in m q)
    plain = record {
      manned = manned m q (whole m q w).first;
      pawnless = complete-pawnless w;
    }

    pub place-stuck : (r : Reach) → Reaches m q r → no_targets r ≡ empty (moves (board_in m q))
    place-stuck r t =
        stuck (λ b. 0) (board_in m q) (king_at q) q.first q.second (starts m q) plain r t.king t.first
        t.second

    -- a king who may move is not mated
    pub place-moving : (targets : ℕ) → targets ≡ set_of (can_move (board_in m q) (king (board_in m q) q.side))
        → (targets ≡ 0 → ⊥) → false ≡ mated (board_in m q)
    unfolding mated
    place-moving targets e n =
        let b = board_in m q in
        let r : Reach = record {
          king = targets;
          first = set_of (can_move b q.first);
          second = set_of (can_move b q.second);
        } in
        let stays : no_targets r ≡ false = rw (ne_eqb targets 0 n) in
        sym (ap (λ (x : Bool). in_check b b.side && x) (sym (place-stuck r (to-reaches r (e, refl, refl))) ∙ stays)
        ∙ and-false (in_check b b.side))

    -- the verdict on a byte, by what is judged
    module _ (first second table : List ℕ) (c : ℕ) where
      abbrev bytes : Board → ℕ
      bytes = bytes_in m first second table

      abbrev judged : Option Reach
      judged = judged_from bytes c (board_in m q) (king_at q) q.first q.second

      place-refuted : (c ≡ 0 → ⊥) → judged ≡ None → Verdict.Wrong ≡ verdict_of bytes c (board_in m q)
      place-refuted n e =
          verdict-refuted bytes (board_in m q) c plain n
          (found-refuting bytes (board_in m q) (king_at q) q.first q.second (starts m q) c e)

      module _ (n : c ≡ 0 → ⊥) (sets : Reach) (e : judged ≡ Some sets) (s : Seen)
          (i : s ≡ seen_in (king_at q) q.first q.second sets) where
        f : Sets bytes (board_in m q) (king_at q) q.first q.second (starts m q) c sets
        f = found-sets bytes (board_in m q) (king_at q) q.first q.second (starts m q) c sets e

        l : Least bytes c (board_in m q) (king_at q) q.first q.second sets f.of-king f.of-first
            f.of-second s
        l = subst⁻¹
            (Least bytes c (board_in m q) (king_at q) q.first q.second sets f.of-king f.of-first
            f.of-second)
            i
            (least-seen bytes c (board_in m q) (king_at q) q.first q.second sets f.of-king f.of-first
            f.of-second)

        shows : s.from < 64 → Shown bytes c (board_in m q) s.from s.to
        shows h = seen-shown bytes c (board_in m q) (king_at q) q.first q.second sets f.of-king f.of-first
            f.of-second plain s l h

        seen-on : s.from < 64 → s.to < 64
        seen-on h = (shows h).on.1

        place-met : s.from < 64 → (takes : Bool) (v : Move) → takes ≡ taking (board_in m q) s.to
            → v ≡ move_of s.from s.to takes
            → Verdict.Right (Some v) ≡ verdict_of bytes c (board_in m q)
        place-met h takes v t u =
            ap (λ (x : Move). Verdict.Right (Some x)) (u ∙ ap (move_of s.from s.to) t)
            ∙ verdict-met bytes (board_in m q) c plain n f.clear
            (s.from, s.to, (shows h).can, (shows h).suiting) (move_on (board_in m q) s.from s.to)
            (seen_first bytes c (board_in m q) (king_at q) q.first q.second sets f.of-king f.of-first
            f.of-second (starts m q) plain s l h)

        place-unmet : 64 ≤ s.from → (r : Reach) → Reaches m q r
            → over_of c r (board_in m q) ≡ verdict_of bytes c (board_in m q)
        place-unmet h r t =
            verdict-unmet bytes (board_in m q) c plain n r (place-stuck r t)
            (λ v. none_seen bytes c (board_in m q) (king_at q) q.first q.second sets f.of-king f.of-first
            f.of-second (starts m q) s l h v.0 v.1 v.2 v.3)

      -- the same of a byte weighed
      module _ (n : c ≡ 0 → ⊥) (r : Weighed) (h : Weighs m q bytes c r) where
        pub weighed-refuted : r ≡ Weighed.Refuted → Verdict.Wrong ≡ verdict_of bytes c (board_in m q)
        weighed-refuted e = place-refuted n (subst (Weighs m q bytes c) e h)

        pub weighed-unmet : r ≡ Weighed.Unmet → Verdict.Wrong ≡ verdict_of bytes c (board_in m q)
        weighed-unmet e =
            let u : NoneSuits m q bytes c false = subst (Weighs m q bytes c) e h in
            over-more c u.reach (board_in m q) u.targets
            ∙ place-unmet n u.sets u.found _ refl u.unseen u.reach u.reaches

        pub weighed-stuck : r ≡ Weighed.Stuck → end_verdict c (board_in m q) ≡ verdict_of bytes c (board_in m q)
        weighed-stuck e =
            let u : NoneSuits m q bytes c true = subst (Weighs m q bytes c) e h in
            over-stuck c u.reach (board_in m q) u.targets
            ∙ place-unmet n u.sets u.found _ refl u.unseen u.reach u.reaches

        module _ (s : Seen) (e : r ≡ Weighed.Met s) where
          one : OneSuits m q bytes c s
          one = subst (Weighs m q bytes c) e h

          pub weighed-on : s.to < 64
          weighed-on = seen-on n one.sets one.found s one.seen one.on

          pub weighed-met : (takes : Bool) (v : Move) → takes ≡ taking (board_in m q) s.to
              → v ≡ move_of s.from s.to takes → Verdict.Right (Some v) ≡ verdict_of bytes c (board_in m q)
          weighed-met takes v t u = place-met n one.sets one.found s one.seen one.on takes v t u

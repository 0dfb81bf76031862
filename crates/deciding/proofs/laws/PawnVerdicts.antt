-- From a byte weighed to the verdict on it, for king and pawn; and what is so of the pawn's place is so of any ending's.
use Rattle.std.specs.Prelude.{◌≡◌, refl, Bool, true, false, List, ℕ, ◌+◌, T, eqb, get_or, None, Some}
use Rattle.std.proofs.Math.Path.{sym, ap}
use Rattle.std.proofs.Common.{ap₂, subst, ◌∙◌, inl, inr, arith, eq-eqb, ne_eqb}
use Rattle.std.proofs.Math.Bool.{cond}
use Rattle.std.proofs.Math.Option.{none, some}
use Rattle.finite.specs.Members.{any, first}
use Rattle.theory.specs.Required.{required_at}
use Rattle.theory.specs.Play.{suits}
use Rattle.theory.specs.Judge.{refutes}
use Rattle.rules.specs.declared.Move.{Move}
use Rattle.rules.specs.Rules.{Board, empty, in_check, all_moves, moves}
use Rattle.rules.specs.Chess.{chess, played}
use Rattle.pawn_numbers.specs.PawnNumber.{pawn_number}
use Rattle.position.specs.declared.Men.{Men}
use Rattle.position.specs.declared.Place.{Place}
use Rattle.position.specs.Posed.{board_in, Complete}
use Rattle.pawn_moves.specs.declared.Weighed.{Weighed}
use Rattle.pawn_moves.specs.PawnMoves.{pawn_at, pawn_bytes, weighed}
use Rattle.pawn_moves.proofs.laws.SeatLaws.{all-moves}
use Rattle.pawn_moves.proofs.laws.WeighLaws.{told-refuted, told-met, told-unmet}
use Rattle.successors.specs.declared.Verdict.{Verdict}
use Rattle.successors.specs.Successors.{bytes_in, verdict_of}
use Rattle.deciding.specs.Deciding.{PawnSeated, Seated, end_of}
use Rattle.deciding.proofs.laws.PawnLaws.{known-first, pawn-first, pawn-board, pawn-bytes}
use Rattle.deciding.proofs.laws.VerdictLists.{Refuting, first_suiting, list-refuted, list-met, list-unmet, list-spoilt, list-depth, list-none}

-- ---- where the game is over

module _ (c : ℕ) (b : Board) where
  pub end_more : (x : Bool) → x ≡ empty (moves b) → x ≡ false → Verdict.Wrong ≡ end_of c b
  unfolding end_of
  end_more x e f = sym (rw (sym e ∙ f))

  module _ (x : Bool) (v : ℕ) (e : x ≡ empty (moves b)) (f : x ≡ true) (k : v ≡ cond (in_check b b.side) 2 1) where
    by_end : end_of c b ≡ cond (eqb c v) (Verdict.Right None) Verdict.Wrong
    unfolding end_of
    by_end =
        ap (λ (y : Bool). cond y
        (cond (eqb c (cond (in_check b b.side) 2 1)) (Verdict.Right None) Verdict.Wrong) Verdict.Wrong)
        (sym e ∙ f)
        ∙ ap (λ (n : ℕ). cond (eqb c n) (Verdict.Right None) Verdict.Wrong) (sym k)

    pub end-right : c ≡ v → Verdict.Right None ≡ end_of c b
    end-right q = sym (by_end ∙ rw (eq-eqb c v q))

    pub end-wrong : (c ≡ v → ⊥) → Verdict.Wrong ≡ end_of c b
    end-wrong n = sym (by_end ∙ rw (ne_eqb c v n))

-- ---- a byte weighed

module _ (run table : List ℕ) (q : Place) (c : ℕ) (w : Weighed)
    (e : w ≡ weighed (pawn_bytes run table) c (pawn_at q)) where
  refuting : w ≡ Weighed.Refuted → Refuting (pawn_bytes run table) (pawn_at q) c
  refuting f =
      subst (λ (l : List Move). T (any (λ v. refutes c (pawn_bytes run table (played (pawn_at q) v))) l))
      (sym (all-moves q))
      (told-refuted (λ v. pawn_bytes run table (played (pawn_at q) v)) c (all_moves (pawn_at q)) (sym e ∙ f))

  clear-met : (v : Move) → w ≡ Weighed.Met v
      → (any (λ v. refutes c (pawn_bytes run table (played (pawn_at q) v))) (moves (pawn_at q)) ≡ false)
      × (first_suiting (pawn_bytes run table) (pawn_at q) c ≡ some v)
  clear-met v f =
      let t = told-met (λ v. pawn_bytes run table (played (pawn_at q) v)) c (all_moves (pawn_at q)) v (sym e ∙ f) in (
        ap (any (λ v. refutes c (pawn_bytes run table (played (pawn_at q) v)))) (all-moves q) ∙ t.0,
        ap (first (λ v. suits c (pawn_bytes run table (played (pawn_at q) v)))) (all-moves q) ∙ t.1,
      )

  unmet : w ≡ Weighed.Unmet → first_suiting (pawn_bytes run table) (pawn_at q) c ≡ none
  unmet f =
      ap (first (λ v. suits c (pawn_bytes run table (played (pawn_at q) v)))) (all-moves q)
      ∙ (told-unmet (λ v. pawn_bytes run table (played (pawn_at q) v)) c (all_moves (pawn_at q)) (sym e ∙ f)).1

  module _ (n : c ≡ 0 → ⊥) where
    pub pawn-refuted : w ≡ Weighed.Refuted → Verdict.Wrong ≡ verdict_of (pawn_bytes run table) c (pawn_at q)
    pawn-refuted f = list-refuted (pawn_bytes run table) (pawn_at q) c n (refuting f)

    pub pawn-met : (v : Move) → w ≡ Weighed.Met v
        → Verdict.Right (Some v) ≡ verdict_of (pawn_bytes run table) c (pawn_at q)
    pawn-met v f =
        let t = clear-met v f in list-met (pawn_bytes run table) (pawn_at q) c n t.0 v t.1

    pub pawn-unmet : w ≡ Weighed.Unmet → (r : Verdict) → r ≡ end_of c (pawn_at q)
        → r ≡ verdict_of (pawn_bytes run table) c (pawn_at q)
    pawn-unmet f r d = d ∙ list-unmet (pawn_bytes run table) (pawn_at q) c n (unmet f)

module _ (run table : List ℕ) (q : Place) (k : ℕ) (n : k ≡ 0 → ⊥) (w : Weighed)
    (e : w ≡ weighed (pawn_bytes run table) (2 + k) (pawn_at q)) where
  pub depth-refuted : w ≡ Weighed.Refuted → false ≡ eqb (required_at chess (pawn_bytes run table) (pawn_at q)) (2 + k)
  depth-refuted f = list-spoilt (pawn_bytes run table) (pawn_at q) k n (refuting run table q (2 + k) w e f)

  pub depth-met : (v : Move) → w ≡ Weighed.Met v
      → true ≡ eqb (required_at chess (pawn_bytes run table) (pawn_at q)) (2 + k)
  depth-met v f =
      let t = clear-met run table q (2 + k) w e v f in
      list-depth (pawn_bytes run table) (pawn_at q) k n t.0 v t.1

  pub depth-unmet : w ≡ Weighed.Unmet → false ≡ eqb (required_at chess (pawn_bytes run table) (pawn_at q)) (2 + k)
  depth-unmet f = list-none (pawn_bytes run table) (pawn_at q) k n (unmet run table q (2 + k) w e f)

-- ---- any ending

module _ (m : Men) (q : Place) where
  pub seated-pawn : Seated m q → m.first ≡ 4 → PawnSeated m q
  seated-pawn (inl w) e = absurd (omega (arith, known-first m w.ending))
  seated-pawn (inr w) e = w

  pub seated-pieces : Seated m q → (m.first ≡ 4 → ⊥) → Complete m q
  seated-pieces (inl w) n = w
  seated-pieces (inr w) n = absurd (n (pawn-first m w.ending))

  -- what is so of the pawn's board and bytes
  pub for-pawn : {A : Type 0} (f : (Board → ℕ) → Board → A) (first second table : List ℕ) (x : A) → PawnSeated m q
      → x ≡ f (pawn_bytes first table) (pawn_at q) → x ≡ f (bytes_in m first second table) (board_in m q)
  for-pawn f first second table x s e =
      e ∙ sym (ap₂ f (pawn-bytes first second table m s.ending) (pawn-board m q s))

  pub own-byte : (first second table : List ℕ) (x : ℕ) → PawnSeated m q
      → x ≡ get_or table (pawn_number (pawn_at q)) 0 → x ≡ bytes_in m first second table (board_in m q)
  own-byte first second table x s e =
      for-pawn (λ (g : Board → ℕ). g) first second table x s (e ∙ (unfold pawn_bytes in refl))

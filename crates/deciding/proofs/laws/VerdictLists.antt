-- The verdict on a byte, and whether a depth is required, by the moves of a list: one that refutes it, the first that
-- suits, or none.
use Rattle.std.specs.Prelude.{◌≡◌, Bool, ℕ, ◌+◌, ◌≤◌, T, None, Some}
use Rattle.std.proofs.Math.Path.{refl, sym}
use Rattle.std.proofs.Common.{ap, subst, ◌∙◌, arith}
use Rattle.std.proofs.Math.Bool.{true, false, cond}
use mathlib.Core.List.Memᴰ
use mathlib.Core.List.{List, [], ◌∷◌, map}
use Rattle.std.proofs.Math.Option.{Option, none, some}
use Rattle.std.proofs.Math.Dec.{eqb}
use borrow.Author.Tests.{eq-eqb, ne_eqb, eqb-true, eqb-false}
use Rattle.finite.specs.Truth.{refuted}
use Rattle.finite.specs.Members.{◌∈◌, any, any-in, any_out, map-in, map-out, first, first-in, first_out, none_in}
use Rattle.theory.specs.Required.{required_at}
use Rattle.theory.specs.Play.{suits}
use Rattle.theory.specs.Judge.{refutes}
use Rattle.theory.proofs.laws.Judge as judging
use Rattle.rules.specs.declared.Move.{Move}
use Rattle.rules.specs.Rules.{Board, empty, in_check, moves}
use Rattle.rules.specs.Chess.{chess, played}
use Rattle.endings.specs.Answers.{advice_of}
use Rattle.successors.specs.declared.Verdict.{Verdict}
use Rattle.successors.specs.Successors.{suited_from, verdict_of}
use Rattle.successors.proofs.laws.VerdictLaws.{required-over, required-more, wrong, right}
use Rattle.deciding.specs.Deciding.{end_of}

module _ (byte : Board → ℕ) (b : Board) (c : ℕ) where
  abbrev pub Refuting : Type 0
  Refuting = T (any (λ v. refutes c (byte (played b v))) (moves b))

  abbrev pub first_suiting : Option Move
  first_suiting = first (λ v. suits c (byte (played b v))) (moves b)

  -- ---- of the moves, and of the bytes they lead to

  along : (f : ℕ → Bool) → T (any (λ v. f (byte (played b v))) (moves b)) → T (any f (map (λ v. byte (played b v)) (moves b)))
  along f t =
      let o = any_out (λ v. f (byte (played b v))) (moves b) t in
      any-in f (map-in (λ v. byte (played b v)) o.1) o.2

  back : (f : ℕ → Bool) → T (any f (map (λ v. byte (played b v)) (moves b))) → (v : Move) × (v ∈ moves b) × T (f (byte (played b v)))
  back f t =
      let o = any_out f (map (λ v. byte (played b v)) (moves b)) t in
      let p = map-out (λ v. byte (played b v)) o.0 (moves b) o.1 in
      (p.0, p.1, subst (λ (n : ℕ). T (f n)) p.2 o.2)

  module _ (h : 1 ≤ c) where
    refuted-other : Refuting → required_at chess byte b ≡ c → ⊥
    refuted-other t q =
        let o = any_out (λ v. refutes c (byte (played b v))) (moves b) t in
        judging.refuted c (map (λ v. byte (played b v)) (moves b)) h (along (refutes c) t)
        (sym (required-more byte b o.0 o.1) ∙ q)

    met-required : (Refuting → ⊥) → (v : Move) → v ∈ moves b → T (suits c (byte (played b v))) → required_at chess byte b ≡ c
    met-required clear v i t =
        required-more byte b v i
        ∙ judging.judged c (map (λ v. byte (played b v)) (moves b)) h
        (λ r. let o = back (refutes c) r in clear (any-in (λ v. refutes c (byte (played b v))) o.1 o.2))
        (any-in (suits c) (map-in (λ v. byte (played b v)) i) t)

    unmet-over : first_suiting ≡ none → required_at chess byte b ≡ c → moves b ≡ []
    unmet-over n q = go (moves b) refl
      where
        go : (l : List Move) → moves b ≡ l → moves b ≡ []
        go [] e = e
        go (x ∷ l) e =
            let i : x ∈ moves b = subst (λ (k : List Move). x ∈ k) (sym e) (Memᴰ.head refl) in
            let t = judging.suited c (map (λ v. byte (played b v)) (moves b))
            (λ z. none_in z (map-in (λ v. byte (played b v)) i)) (sym (required-more byte b x i) ∙ q) in
            let o = back (suits c) t in
            let f = first-in (λ v. suits c (byte (played b v))) o.1 o.2 in
            let g = sym n ∙ f.1 in
            let z : ◌≡◌ {A = ℕ} 0 1 = cc in absurd (omega arith)

  -- ---- the verdict

  module _ (n : c ≡ 0 → ⊥) where
    pub list-refuted : Refuting → Verdict.Wrong ≡ verdict_of byte c b
    list-refuted t = wrong byte b c (refuted-other (omega arith) t)

    pub list-met : any (λ v. refutes c (byte (played b v))) (moves b) ≡ false → (v : Move) → first_suiting ≡ some v
        → Verdict.Right (Some v) ≡ verdict_of byte c b
    list-met clear v e =
        let o = first_out (λ v. suits c (byte (played b v))) (moves b) v e in
        right byte b c (met-required (omega arith) (refuted clear) v o.0 o.1) (Some v)
        (unfold suited_from in sym (ap advice_of e))

    pub list-unmet : first_suiting ≡ none → end_of c b ≡ verdict_of byte c b
    unfolding end_of
    list-unmet e = go (moves b) refl
      where
        over : moves b ≡ [] → (x : Bool) → eqb c (cond (in_check b b.side) 2 1) ≡ x
            → cond x (Verdict.Right None) Verdict.Wrong ≡ verdict_of byte c b
        over z true q =
            right byte b c (required-over byte b z ∙ sym (eqb-true c (cond (in_check b b.side) 2 1) q)) None
            (unfold suited_from in sym (ap advice_of e))
        over z false q =
            wrong byte b c (λ r. eqb-false c (cond (in_check b b.side) 2 1) q (sym r ∙ required-over byte b z))

        go : (l : List Move) → moves b ≡ l
            → cond (empty (moves b))
            (cond (eqb c (cond (in_check b b.side) 2 1)) (Verdict.Right None) Verdict.Wrong) Verdict.Wrong
            ≡ verdict_of byte c b
        go [] z = rw z (over z (eqb c (cond (in_check b b.side) 2 1)) refl)
        go (x ∷ l) z =
            ap (λ (l : List Move). cond (empty l)
            (cond (eqb c (cond (in_check b b.side) 2 1)) (Verdict.Right None) Verdict.Wrong) Verdict.Wrong) z
            ∙ wrong byte b c (λ r. let y = sym z ∙ unmet-over (omega arith) e r in
            let w : ◌≡◌ {A = ℕ} 0 1 = cc in omega arith)

-- ---- whether depth k is required

module _ (byte : Board → ℕ) (b : Board) (k : ℕ) (n : k ≡ 0 → ⊥) where
  pub list-spoilt : Refuting byte b (2 + k) → false ≡ eqb (required_at chess byte b) (2 + k)
  list-spoilt t = sym (ne_eqb (required_at chess byte b) (2 + k) (refuted-other byte b (2 + k) (omega arith) t))

  pub list-depth : any (λ v. refutes (2 + k) (byte (played b v))) (moves b) ≡ false → (v : Move)
      → first_suiting byte b (2 + k) ≡ some v
      → true ≡ eqb (required_at chess byte b) (2 + k)
  list-depth clear v e =
      let o = first_out (λ v. suits (2 + k) (byte (played b v))) (moves b) v e in
      sym (eq-eqb (required_at chess byte b) (2 + k)
      (met-required byte b (2 + k) (omega arith) (refuted clear) v o.0 o.1))

  pub list-none : first_suiting byte b (2 + k) ≡ none → false ≡ eqb (required_at chess byte b) (2 + k)
  list-none e =
      sym (ne_eqb (required_at chess byte b) (2 + k)
      (λ q. small (in_check b b.side)
      (sym (required-over byte b (unmet-over byte b (2 + k) (omega arith) e q)) ∙ q)))
    where
      small : (check : Bool) → cond check 2 1 ≡ 2 + k → ⊥
      small true z = n (omega arith)
      small false z = omega arith

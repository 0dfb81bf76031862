-- A line has one true slip.
use Rattle.std.specs.Prelude.{◌≡◌, List, ℕ, ◌<◌, Err, Ok, Result}
use Rattle.std.proofs.Common.{sym, ap, subst, ◌∙◌, arith}
use Rattle.answers.specs.declared.Answer.{Answer}
use Rattle.position.specs.declared.Position.{Position}
use Rattle.position.specs.Keyed.{board_of, man_kind}
use Rattle.position.specs.Refusals.{standing_refusal}
use Rattle.index.specs.Answers.{placed_at}
use Rattle.endings.specs.FilledTrue.{Decided, Shallow}
use Rattle.endings.specs.Truth.{TrueAnswer}
use Rattle.endings.proofs.laws.OneAnswer.{one_answer}
use Rattle.lines.specs.declared.Request.{Request}
use Rattle.lines.specs.Grammar.{request_of}
use Rattle.slips.specs.Slip.{slip_of, placed_slip}
use Rattle.adjudication.specs.TrueSlip.{TrueSlip}

-- ---- a line has one request

one-refusal : (n k : ℕ) → ◌≡◌ {A = Result Request ℕ} (Err n) (Err k) → n ≡ k
one-refusal n k e = cc

one-position : (p q : Position) → ◌≡◌ {A = Result Request ℕ} (Ok (Request.LookUp p)) (Ok (Request.LookUp q)) → p ≡ q
one-position p q e = cc

same_number : (kind n k j : ℕ) → ◌≡◌ {A = Result Request ℕ} (Ok (Request.Back kind n)) (Ok (Request.Back k j)) → (kind ≡ k) × (n ≡ j)
same_number kind n k j e = ((cc), (cc))

refused-back : (n k j : ℕ) → ◌≡◌ {A = Result Request ℕ} (Err n) (Ok (Request.Back k j)) → ⊥
refused-back n k j e = let z : ◌≡◌ {A = ℕ} 0 1 = cc in omega arith

refused-position : (n : ℕ) (p : Position) → ◌≡◌ {A = Result Request ℕ} (Err n) (Ok (Request.LookUp p)) → ⊥
refused-position n p e = let z : ◌≡◌ {A = ℕ} 0 1 = cc in omega arith

back-position : (kind n : ℕ) (p : Position) → ◌≡◌ {A = Result Request ℕ} (Ok (Request.Back kind n)) (Ok (Request.LookUp p)) → ⊥
back-position kind n p e = let z : ◌≡◌ {A = ℕ} 0 1 = cc in omega arith

-- ---- and one slip

module _ (line s u : List ℕ) where
  refused-one : (n : ℕ) → request_of line ≡ Err n → s ≡ slip_of (Err n) → TrueSlip line u → s ≡ u
  refused-one n e q (TrueSlip.refused k d r) =
      q ∙ ap (λ (j : ℕ). slip_of (Err j)) (one-refusal n k (sym e ∙ d)) ∙ sym r
  refused-one n e q (TrueSlip.placed kind k d r) = absurd (refused-back n kind k (sym e ∙ d))
  refused-one n e q (TrueSlip.not-standing p d z r) = absurd (refused-position n p (sym e ∙ d))
  refused-one n e q (TrueSlip.answered p a d z f t r) = absurd (refused-position n p (sym e ∙ d))
  refused-one n e q (TrueSlip.too-deep p k d z h x r) = absurd (refused-position n p (sym e ∙ d))

  placed_one : (kind n : ℕ) → request_of line ≡ Ok (Request.Back kind n) → s ≡ placed_slip (placed_at kind n) → TrueSlip line u
      → s ≡ u
  placed_one kind n e q (TrueSlip.refused k d r) = absurd (refused-back k kind n (sym d ∙ e))
  placed_one kind n e q (TrueSlip.placed k j d r) =
      let w = same_number kind n k j (sym e ∙ d) in q ∙ rw (w.0, w.1) (sym r)
  placed_one kind n e q (TrueSlip.not-standing p d z r) = absurd (back-position kind n p (sym e ∙ d))
  placed_one kind n e q (TrueSlip.answered p a d z f t r) = absurd (back-position kind n p (sym e ∙ d))
  placed_one kind n e q (TrueSlip.too-deep p k d z h x r) = absurd (back-position kind n p (sym e ∙ d))

  module _ (p : Position) (e : request_of line ≡ Ok (Request.LookUp p)) where
    same : (v : Position) → request_of line ≡ Ok (Request.LookUp v) → v ≡ p
    same v d = one-position v p (sym d ∙ e)

    standing-one : (standing_refusal p ≡ 0 → ⊥) → s ≡ slip_of (Err (standing_refusal p)) → TrueSlip line u
        → s ≡ u
    standing-one n q (TrueSlip.refused k d r) = absurd (refused-position k p (sym d ∙ e))
    standing-one n q (TrueSlip.placed k j d r) = absurd (back-position k j p (sym d ∙ e))
    standing-one n q (TrueSlip.not-standing v d z r) =
        q ∙ ap (λ (w : Position). slip_of (Err (standing_refusal w))) (sym (same v d)) ∙ sym r
    standing-one n q (TrueSlip.answered v a d z f t r) = absurd (n (ap standing_refusal (sym (same v d)) ∙ z))
    standing-one n q (TrueSlip.too-deep v k d z h x r) = absurd (n (ap standing_refusal (sym (same v d)) ∙ z))

    answered-one : (a : Result Answer ℕ) → standing_refusal p ≡ 0 → Shallow (man_kind p) → TrueAnswer (board_of p) a → s ≡ slip_of a
        → TrueSlip line u → s ≡ u
    answered-one a z f t q (TrueSlip.refused k d r) = absurd (refused-position k p (sym d ∙ e))
    answered-one a z f t q (TrueSlip.placed k j d r) = absurd (back-position k j p (sym d ∙ e))
    answered-one a z f t q (TrueSlip.not-standing v d n r) = absurd (n (ap standing_refusal (same v d) ∙ z))
    answered-one a z f t q (TrueSlip.answered v c d y g w r) = q
        ∙ ap slip_of (one_answer (board_of p) a c t (subst (λ (x : Position). TrueAnswer (board_of x) c) (same v d) w))
        ∙ sym r
    answered-one a z f t q (TrueSlip.too-deep v k d y h x r) =
        absurd (f k h (subst (λ (w : Position). Decided (man_kind w) k) (same v d) x))

    deep_one : (n : ℕ) → standing_refusal p ≡ 0 → 253 < n → Decided (man_kind p) n → s ≡ slip_of (Err 10)
        → TrueSlip line u → s ≡ u
    deep_one n z h x q (TrueSlip.refused k d r) = absurd (refused-position k p (sym d ∙ e))
    deep_one n z h x q (TrueSlip.placed k j d r) = absurd (back-position k j p (sym d ∙ e))
    deep_one n z h x q (TrueSlip.not-standing v d y r) = absurd (y (ap standing_refusal (same v d) ∙ z))
    deep_one n z h x q (TrueSlip.answered v c d y g w r) =
        absurd (g n h (subst (λ (w : Position). Decided (man_kind w) n) (sym (same v d)) x))
    deep_one n z h x q (TrueSlip.too-deep v k d y l w r) = q ∙ sym r

pub one-slip : (line s u : List ℕ) → TrueSlip line s → TrueSlip line u → s ≡ u
one-slip line s u (TrueSlip.refused n e q) t = refused-one line s u n e q t
one-slip line s u (TrueSlip.placed kind n e q) t = placed_one line s u kind n e q t
one-slip line s u (TrueSlip.not-standing p e n q) t = standing-one line s u p e n q t
one-slip line s u (TrueSlip.answered p a e z f w q) t = answered-one line s u p e a z f w q t
one-slip line s u (TrueSlip.too-deep p n e z h d q) t = deep_one line s u p e n z h d q t

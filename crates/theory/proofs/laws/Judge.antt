-- Whether a byte is the one required, by the successors' bytes that refute it and those that suit.
use Rattle.std.specs.Prelude.{◌≡◌, refl, ◌↔◌, false, not, ◌&&◌, List, [], ℕ, zero, suc, ◌+◌, ◌-◌, ◌%◌, ◌≤◌, leb, eqb}
use Rattle.std.proofs.Common.{sym, subst, ◌∙◌, arith, leb→le, le→leb, eqb→eq}
use Rattle.std.proofs.Math.Dec.{T, T_not, not_T, eqb_refl}
use Rattle.finite.specs.Truth.{and_left, and_right, and_both, fails}
use Rattle.finite.specs.Members.{◌∈◌, any, any-in, any_out, none_in}
use Rattle.theory.specs.Required.{Loss, Rule, winning, required}
use Rattle.theory.proofs.laws.Better.{winning-is}
use Rattle.theory.proofs.laws.RuleLaws.{required-rule, rule-one}
use Rattle.theory.specs.Verdict.{spoils, requires}
use Rattle.theory.proofs.laws.Verdict.{verdict}
use Rattle.theory.specs.Play.{suits}
use Rattle.theory.proofs.laws.Choice.{suits-draw, suits-less, draw-suits, less-suits}
use Rattle.theory.specs.Judge.{refutes}

-- ---- what refutes and what suits, by the byte

-- a draw is refuted by a loss
refutes-draw : (c : ℕ) → T (refutes 1 c) ↔ Loss c
unfolding refutes
refutes-draw c = (
  λ t. (leb→le 2 c (and_right (eqb (c % 2) 0) _ t), eqb→eq (c % 2) 0 (and_left (eqb (c % 2) 0) _ t)),
  λ l. and_both (eqb (c % 2) 0) _ (subst (λ (n : ℕ). T (eqb n 0)) (sym l.1) tt) (le→leb 2 c l.0),
)

-- a depth by what spoils it
refutes-depth : (k c : ℕ) → refutes (2 + k) c ≡ spoils k c
unfolding refutes
refutes-depth k c =
    let n : leb (2 + k) 1 ≡ false = fails (leb (2 + k) 1) (λ t. let h = leb→le (2 + k) 1 t in omega arith) in
    let d : 2 + k - 2 ≡ k = omega arith in
    rw (n, d)

-- a loss in 0 by any successor
refutes-mate : (c : ℕ) → T (refutes 2 c)
unfolding refutes spoils
refutes-mate c =
    not_T (winning c && leb c 1)
    (λ t. let w = (winning-is c).0 (and_left (winning c) _ t) in let l = leb→le c 1 (and_right (winning c) _ t) in
    omega arith)

-- a depth is met by the one below it
met-below : (k c : ℕ) → T (suits (2 + k) c) → T (eqb (1 + k) c)
met-below k c t =
    let e = suits-less (2 + k) c (omega arith) t in let d : c ≡ 1 + k = omega arith in rw d (eqb_refl (1 + k))

-- ---- the byte required

module _ (bs : List ℕ) where
  -- with a loss at a successor it is no draw
  not-one : (c : ℕ) → c ∈ bs → Loss c → Rule bs 1 false → ⊥
  not-one c m l (Rule.wins b n k f e) = omega arith
  not-one c m l (Rule.loses b n f e) = omega (arith, (f b n).0.0)
  not-one c m l (Rule.draws b n d f e) = f c m l
  not-one c m l (Rule.stalemate z e) = none_in z m

  -- 2 is for mate alone
  not-two : Rule bs 2 false → ⊥
  not-two (Rule.wins b n k f e) = omega arith
  not-two (Rule.loses b n f e) = omega (arith, (f b n).0.0)
  not-two (Rule.draws b n d f e) = omega arith
  not-two (Rule.stalemate z e) = omega arith

  -- where depth k is required none refutes it
  none-refutes : (k : ℕ) → T (requires k bs) → T (any (refutes (2 + k)) bs) → ⊥
  unfolding requires
  none-refutes k t r =
      let o = any_out (refutes (2 + k)) bs r in
      T_not (any (spoils k) bs) (and_left (not (any (spoils k) bs)) _ t)
      (any-in (spoils k) o.1 (subst T (refutes-depth k o.0) o.2))

  -- where none refutes depth k and one suits, it is required
  unrefuted-met : (k : ℕ) → (T (any (refutes (2 + k)) bs) → ⊥) → T (any (suits (2 + k)) bs) → T (requires k bs)
  unfolding requires
  unrefuted-met k clear t =
      let m = any_out (suits (2 + k)) bs t in
      and_both (not (any (spoils k) bs)) _
      (not_T (any (spoils k) bs)
      (λ s. let o = any_out (spoils k) bs s in
      clear (any-in (refutes (2 + k)) o.1 (subst T (sym (refutes-depth k o.0)) o.2))))
      (any-in (eqb (1 + k)) m.1 (met-below k m.0 m.2))

-- A byte that a successor's byte refutes is not the one required.
pub refuted : (b : ℕ) (bs : List ℕ) → 1 ≤ b → T (any (refutes b) bs) → required false bs ≡ b → ⊥
refuted zero bs h t e = omega arith
refuted (suc zero) bs h t e = let o = any_out (refutes 1) bs t in
    not-one bs o.0 o.1 ((refutes-draw o.0).0 o.2) (rw e at (required-rule false bs))
refuted (suc (suc zero)) bs h t e = not-two bs (rw e at (required-rule false bs))
refuted (suc (suc (suc j))) bs h t e = let d : suc (suc (suc j)) ≡ 2 + (1 + j) = omega arith in
    none-refutes bs (1 + j) ((verdict (1 + j) (omega arith) bs).1 (e ∙ d))
    (subst (λ (b : ℕ). T (any (refutes b) bs)) d t)

-- A byte that none refutes and some successor's byte suits is the one required.
pub judged : (b : ℕ) (bs : List ℕ) → 1 ≤ b → (T (any (refutes b) bs) → ⊥) → T (any (suits b) bs) → required false bs ≡ b
judged zero bs h clear t = absurd (omega arith)
judged (suc zero) bs h clear t =
    let o = any_out (suits 1) bs t in
    rule-one (required-rule false bs)
    (Rule.draws o.0 o.1 (suits-draw 1 o.0 (omega arith) o.2)
    (λ c m l. clear (any-in (refutes 1) m ((refutes-draw c).1 l))) refl)
judged (suc (suc zero)) bs h clear t =
    let o = any_out (suits 2) bs t in absurd (clear (any-in (refutes 2) o.1 (refutes-mate o.0)))
judged (suc (suc (suc j))) bs h clear t =
    let d : suc (suc (suc j)) ≡ 2 + (1 + j) = omega arith in
    (verdict (1 + j) (omega arith) bs).0
    (unrefuted-met bs (1 + j) (subst (λ (b : ℕ). T (any (refutes b) bs) → ⊥) d clear)
    (subst (λ (b : ℕ). T (any (suits b) bs)) d t)) ∙ sym d

-- Where there is a successor, one suits the byte required.
pub suited : (b : ℕ) (bs : List ℕ) → (bs ≡ [] → ⊥) → required false bs ≡ b → T (any (suits b) bs)
suited b bs h e = go (rw e at (required-rule false bs))
  where
    go : Rule bs b false → T (any (suits b) bs)
    go (Rule.wins c m l f d) = any-in (suits b) m (less-suits b c (omega arith) (sym d))
    go (Rule.loses c m f d) = any-in (suits b) m (less-suits b c (omega (arith, (f c m).0.0)) (sym d))
    go (Rule.draws c m k f d) = any-in (suits b) m (draw-suits b c (omega arith) k)
    go (Rule.stalemate z d) = absurd (h z)

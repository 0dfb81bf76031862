-- A byte is a win, a loss or a draw; what `back` and `better` give, by what the bytes are.
use Rattle.std.specs.Prelude.{◌≡◌, ◌⊎◌, ◌↔◌, true, false, not, ◌||◌, ℕ, ◌+◌, ◌%◌, ◌≤◌, min, max, T, leb, eqb}
use Rattle.std.proofs.Common.{sym, subst, inl, inr, arith, T_not, leb→le, le→leb, eqb→eq}
use Rattle.std.proofs.Math.Dec.{not_T}
use Rattle.finite.specs.Truth.{decided, and_left, and_right, and_both, or_left, or_right, or_cases, true_of, false_of}
use Rattle.theory.specs.Required.{Win, Loss, Draw, winning, back, better}

pub data Kind (b : ℕ) : Type 0 where
  win : Win b → Kind b
  loss : Loss b → Kind b
  draw : Draw b → Kind b

pub kind : (b : ℕ) → Kind b
kind b = small (decided (leb b 1))
  where
    even : T (not (leb b 1)) → T (eqb (b % 2) 0) ⊎ T (not (eqb (b % 2) 0)) → Kind b
    even s (inl t) =
        let h : ¬ (b ≤ 1) = λ l. T_not (leb b 1) s (le→leb b 1 l) in let e = eqb→eq (b % 2) 0 t in loss (omega arith)
    even s (inr t) = let h : ¬ (b ≤ 1) = λ l. T_not (leb b 1) s (le→leb b 1 l) in let e : ¬ (b % 2 ≡ 0) =
        λ e. T_not (eqb (b % 2) 0) t (subst (λ (n : ℕ). T (eqb n 0)) (sym e) tt) in win (omega arith)

    small : T (leb b 1) ⊎ T (not (leb b 1)) → Kind b
    small (inl t) = draw (leb→le b 1 t)
    small (inr t) = even t (decided (eqb (b % 2) 0))

pub winning-is : (b : ℕ) → T (winning b) ↔ Win b
unfolding winning
winning-is b = (
  λ t. (leb→le 3 b (and_left (leb 3 b) _ t), eqb→eq (b % 2) 1 (and_right (leb 3 b) _ t)),
  λ w. and_both (leb 3 b) _ (le→leb 3 b w.0) (subst (λ (n : ℕ). T (eqb n 1)) (sym w.1) tt),
)

is-win : (b : ℕ) → Win b → winning b ≡ true
is-win b w = true_of ((winning-is b).1 w)

no-win : (b : ℕ) → ¬ Win b → winning b ≡ false
no-win b h = false_of (not_T (winning b) (λ t. h ((winning-is b).0 t)))

pub back-draw : (b : ℕ) → Draw b → back b ≡ 1
unfolding back
back-draw b h = let t : leb b 1 ≡ true = true_of (le→leb b 1 h) in rw t

pub back_more : (b : ℕ) → 2 ≤ b → back b ≡ 1 + b
unfolding back
back_more b h = let n : leb b 1 ≡ false = false_of (not_T (leb b 1) (λ t. absurd (omega (arith, leb→le b 1 t)))) in rw n

pub better-wins : (x y : ℕ) → Win x → Win y → better x y ≡ min x y
unfolding better
better-wins x y p q = rw (is-win x p, is-win y q)

pub better-left : (x y : ℕ) → Win x → ¬ Win y → better x y ≡ x
unfolding better
better-left x y p q = rw (is-win x p, no-win y q)

pub better-right : (x y : ℕ) → ¬ Win x → Win y → better x y ≡ y
unfolding better
better-right x y p q = rw (no-win x p, is-win y q)

pub better-draw : (x y : ℕ) → ¬ Win x → ¬ Win y → (x ≡ 1) ⊎ (y ≡ 1) → better x y ≡ 1
unfolding better
better-draw x y p q o = rw (no-win x p, no-win y q, true_of {b = eqb x 1 || eqb y 1} (test o))
  where
    test : (x ≡ 1) ⊎ (y ≡ 1) → T (eqb x 1 || eqb y 1)
    test (inl e) = or_left (eqb x 1) _ (subst (λ (n : ℕ). T (eqb n 1)) (sym e) tt)
    test (inr e) = or_right (eqb x 1) _ (subst (λ (n : ℕ). T (eqb n 1)) (sym e) tt)

pub better-loss : (x y : ℕ) → ¬ Win x → ¬ Win y → ¬ (x ≡ 1) → ¬ (y ≡ 1) → better x y ≡ max x y
unfolding better
better-loss x y p q a b = let n : (eqb x 1 || eqb y 1) ≡ false =
    false_of (not_T (eqb x 1 || eqb y 1) (λ t. test (or_cases (eqb x 1) _ t))) in rw (no-win x p, no-win y q, n)
  where
    test : T (eqb x 1) ⊎ T (eqb y 1) → ⊥
    test (inl t) = a (eqb→eq x 1 t)
    test (inr t) = b (eqb→eq y 1 t)

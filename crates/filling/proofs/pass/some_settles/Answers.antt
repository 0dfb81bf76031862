-- `filling::some_settles` meets its contract. The loop's invariant: no number below n is settled.
use mathlib.Core.Path.{◌≡◌, sym, subst, ◌∙◌}
use Prim.Native.Nat.{ℕ, ◌<◌, ◌≤◌}
use native.Mathlib.Omega.{arith}
use Rattle.filling.proofs.laws.Laws.{none_below, none_yet, some-now, none_at_all}
use Rattle.working_back.proofs.laws.Admitted.{sized}
use Rattle.filling.proofs.pass.some_settles.Goals as goal

pub loop-n-init : goal.loop-n-init
loop-n-init c = sym (none_below _ _ _ _)

pub settles-requires : goal.settles-requires
settles-requires c = (c.loop-n-test.true, c.requires)

pub returns-then-settles : goal.returns-then-settles
returns-then-settles c =
    some-now _ _ _ _ _ _
    (subst (λ (s : ℕ). c.loop-n.n < s) (sized _ _ _ _ c.requires) c.loop-n-test.true)
    c.settles.ensures c.if-settles.true

pub loop-n-preserved : goal.loop-n-preserved
loop-n-preserved c = none_yet _ _ _ _ _ _ c.settles.ensures c.if-settles.false c.loop-n.invariant

pub returns : goal.returns
returns c =
    none_at_all _ _ _ _ _ (at-end _ _ (omega arith) c.loop-n-test.false ∙ sized _ _ _ _ c.requires) c.loop-n.invariant
  where
    at-end : (n s : ℕ) → n ≤ s → s ≤ n → n ≡ s
    at-end n s a b = omega arith

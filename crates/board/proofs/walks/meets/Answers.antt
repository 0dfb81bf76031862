-- The directions left give what all give.
use Rattle.std.specs.Prelude.{Option, Some, None, eqb}
use Rattle.std.specs.Option.{option_eq}
use mathlib.Core.Path.{◌≡◌, refl, sym, ap, ◌∙◌}
use mathlib.Core.Bool.{true, false}
use Prim.Native.Nat.{ℕ, ◌+◌, ◌<◌}
use Rattle.finite.specs.Numbers.{any-end, any-first}
use Rattle.board.specs.Sets.{has, set_of}
use Rattle.board.proofs.laws.SetLaws.{set-has}
use Rattle.board.specs.Walk.{walk_of, met_at, with_target, meets_first}
use Rattle.board.proofs.laws.WalkLaws.{walk_same}
use Rattle.board.proofs.walks.meets.Invariants.{ways}
use Rattle.board.proofs.walks.meets.Goals as goal

met_is : (r : Option ℕ) (t : ℕ) → met_at r t ≡ option_eq eqb r (Some t)
met_is (Some u) t = refl
met_is None t = refl

-- one more direction: set is occ with t put in, r what the walk over it meets
module _ (occ from end t k set : ℕ) (r : Option ℕ) (e : set ≡ set_of (with_target (has occ) t))
    (q : r ≡ walk_of (has set) from k) (l : k < end) where
  met : meets_first (has occ) from t k ≡ met_at r t
  met = ap (λ m. met_at m t)
      (sym (q ∙ walk_same (has set) (with_target (has occ) t) (set-has (with_target (has occ) t) e) from k))

  hit : met_at r t ≡ true → ways occ from end t k ≡ true
  hit h = any-first (meets_first (has occ) from t) k end l ∙ rw (met, h)

  miss : met_at r t ≡ false → ways occ from end t k ≡ ways occ from end t (k + 1)
  miss h = any-first (meets_first (has occ) from t) k end l ∙ rw (met, h)

pub loop-direction-init : goal.loop-direction-init
loop-direction-init c = refl

pub returns-then-eq : goal.returns-then-eq
returns-then-eq c =
    let l = c.loop-direction in
    let a = c.args in
    sym
    (l.invariant
    ∙ hit a.occ a.from a.end a.t l.direction _ _ c.with-standing.ensures
    c.walk.ensures c.loop-direction-test.true
    (met_is c.walk.result a.t ∙ sym c.eq.ensures ∙ c.if-eq.true))

pub loop-direction-preserved : goal.loop-direction-preserved
loop-direction-preserved c =
    let l = c.loop-direction in
    let a = c.args in
    l.invariant
    ∙ miss a.occ a.from a.end a.t l.direction _ _ c.with-standing.ensures
    c.walk.ensures c.loop-direction-test.true
    (met_is c.walk.result a.t ∙ sym c.eq.ensures ∙ c.if-eq.false)

pub returns : goal.returns
returns c =
    let a = c.args in
    let l = c.loop-direction in
    sym (l.invariant ∙ any-end (meets_first (has a.occ) a.from a.t) l.direction a.end c.loop-direction-test.false)

-- `movegen::passing_of` meets its contract: the squares kept so far, and those of the rest that pass, are all that pass.
use Rattle.std.proofs.Common.{sym, ◌∙◌, T, eqb}
use mathlib.Core.Path.{subst⁻¹}
use mathlib.Core.Bool.{or-false}
use Rattle.finite.specs.Truth.{or_right, fails}
use Rattle.finite.specs.Members.{none_in}
use Rattle.board.specs.Sets.{has}
use Rattle.board.proofs.laws.SetLaws.{set-has, members-in}
use Rattle.board.proofs.laws.LowestLaws.{lowest-first}
use Rattle.movegen.proofs.laws.Targets.{turn_in, turn-out}
use Rattle.movegen.proofs.passing.passing_of.Goals as goal

pub loop-s-preserved-then-passes : goal.loop-s-preserved-then-passes
loop-s-preserved-then-passes g c =
    let l = c.loop-s in
    let left = c.next.new.self.left in
    let low = lowest-first _ _ _ c.in-Some.ensures.steps in (
      (λ i h u. l.invariant.0 i h (subst⁻¹ T (low.others i h) (or_right (eqb i c.in-Some.s) (has left i) u))),
      λ p told i h.
          let same = sym (told c.in-Some.s low.square (l.invariant.0 c.in-Some.s low.square low.here) _ c.passes.ensures) in
          rw (set-has _ c.with-kept.ensures i h)
          (turn_in p i c.in-Some.s (has l.kept i) (has l.s-iterator.left i) (has left i) (low.others i h) (same ∙ c.if-passes.true)
          ∙ l.invariant.1 p told i h),
    )

pub loop-s-preserved : goal.loop-s-preserved
loop-s-preserved g c =
    let l = c.loop-s in
    let left = c.next.new.self.left in
    let low = lowest-first _ _ _ c.in-Some.ensures.steps in (
      (λ i h u. l.invariant.0 i h (subst⁻¹ T (low.others i h) (or_right (eqb i c.in-Some.s) (has left i) u))),
      λ p told i h.
          let same = sym (told c.in-Some.s low.square (l.invariant.0 c.in-Some.s low.square low.here) _ c.passes.ensures) in
          turn-out p i c.in-Some.s (has l.kept i) (has l.s-iterator.left i) (has left i) (low.others i h) (same ∙ c.if-passes.false)
          ∙ l.invariant.1 p told i h,
    )

pub returns : goal.returns
returns g c =
    let l = c.loop-s in
    λ p told s h.
    sym (or-false (has l.kept s)) ∙ sym (rw (fails (has l.s-iterator.left s) (λ t. none_in c.in-None.ensures.steps.0 (members-in l.s-iterator.left s h t))) at (sym (l.invariant.1 p told s h)))

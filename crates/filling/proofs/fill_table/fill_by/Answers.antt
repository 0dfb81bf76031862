-- `filling::fill_by` meets its contract.
use mathlib.Core.Path.{sym, ◌∙◌}
use native.Mathlib.Omega.{arith}
use Rattle.finite.specs.Truth.{of-true}
use Rattle.filling.proofs.laws.Calls.{admitted-by, known_by}
use Rattle.filling.proofs.laws.FillLaws.{lent-bytes, promised-1, promised-7, promised-17, promised-filled}
use Rattle.filling.proofs.fill_table.fill_by.Goals as goal

pub returns-then-not-is_given : goal.returns-then-not-is_given
returns-then-not-is_given c =
    promised-1 _ _ _
    (lent-bytes c.args.m c.args.first.now c.args.second.now
    (λ n. omega (arith, c.shared_slice_known-1.given n)) (λ n. omega (arith, c.shared_slice_known-2-1.given n)))
    (sym c.is_given.ensures ∙ c.if-not-is_given.true)

pub returns-then-not-lengths_fit : goal.returns-then-not-lengths_fit
returns-then-not-lengths_fit c =
    promised-7 _ _ _
    (lent-bytes c.args.m c.args.first.now c.args.second.now
    (λ n. omega (arith, c.shared_slice_known-1.given n)) (λ n. omega (arith, c.shared_slice_known-2-1.given n)))
    (sym c.is_given.ensures ∙ c.if-not-is_given.false)
    (sym c.lengths_fit.ensures ∙ c.if-not-lengths_fit.true)

pub returns-then-not-lent_accepted : goal.returns-then-not-lent_accepted
returns-then-not-lent_accepted c =
    promised-17 _ _ _
    (lent-bytes c.args.m c.args.first.now c.args.second.now
    (λ n. omega (arith, c.shared_slice_known-1.given n)) (λ n. omega (arith, c.shared_slice_known-2-1.given n)))
    (sym c.is_given.ensures ∙ c.if-not-is_given.false)
    (sym c.lengths_fit.ensures ∙ c.if-not-lengths_fit.false)
    (sym c.lent_accepted.ensures ∙ c.if-not-lent_accepted.true)

pub fill_men-requires : goal.fill_men-requires
fill_men-requires c =
    let g = c.is_given.ensures in
    let t = c.if-not-is_given.false in (
      admitted-by _ c.men_of.result _ _ _ _ _ g t
          c.lengths_fit.ensures c.if-not-lengths_fit.false c.men_of.ensures,
      λ e. known_by c.args.m c.men_of.result _ g t c.men_of.ensures (c.requires e),
    )

pub returns : goal.returns
returns c =
    let k = sym c.is_given.ensures ∙ c.if-not-is_given.false in
    promised-filled _ c.men_of.result _ _ _ _ _
    (lent-bytes c.args.m c.args.first.now c.args.second.now
    (λ n. omega (arith, c.shared_slice_known-1.given n)) (λ n. omega (arith, c.shared_slice_known-2-1.given n)))
    k (sym c.lengths_fit.ensures ∙ c.if-not-lengths_fit.false)
    (sym c.lent_accepted.ensures ∙ c.if-not-lent_accepted.false)
    (c.men_of.ensures (of-true k)).0 c.fill_men.ensures

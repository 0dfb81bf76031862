-- `row_sets::legal_each` meets its contract. The loop's invariant: of the squares below s the set holds those asked for.
use mathlib.Core.Path.{sym, ◌∙◌}
use Prim.Native.Nat.{ℕ, ◌+◌, ◌*◌, ◌/◌}
use native.Mathlib.Omega.{arith}
use borrow.Author.Tests.{lt-ltb, le-ltb}
use Rattle.board.proofs.laws.SetLaws.{has-none, set-has}
use Rattle.position.specs.Posed.{material_for}
use Rattle.four_men.specs.Reading.{legal_number_of}
use Rattle.deciding.proofs.laws.Rows.{row_same}
use Rattle.deciding.proofs.laws.Gathering.{gathered-in, gathered-out}
use Rattle.deciding.proofs.row_sets.legal_each.Goals.{then-is_legal_on, else-is_legal_on}
use Rattle.deciding.proofs.row_sets.legal_each.Goals as goal

pub loop-s-init : goal.loop-s-init
loop-s-init c = (omega arith, λ r u h. rw (has-none u, le-ltb u 0 (omega arith)))

pub loop-s-preserved : goal.loop-s-preserved
loop-s-preserved c =
    let l = c.loop-s in
    let x = c.args in
    let h = c.loop-s-test.true in
    let asked = legal_number_of (material_for x.m) in (
      omega (arith, h),
      λ w u g.
          let told = c.is_legal_on.ensures (c.in_row.ensures (row_same _ _ _ w _ h)) in
          elim c.if-is_legal_on.branch [
            | then-is_legal_on v ↦ rw v.legal-is
                (gathered-in (λ (i : ℕ). asked (x.n / 64 * 64 + i)) l.legal l.s u (l.invariant.1 w u g) _ (set-has _ v.with-legal.ensures u g) (sym told ∙ v.if-is_legal_on.true))
            | else-is_legal_on v ↦ rw v.legal-is
                (gathered-out (λ (i : ℕ). asked (x.n / 64 * 64 + i)) l.legal l.s u (l.invariant.1 w u g) (sym told ∙ v.if-is_legal_on.false))
          ],
    )

pub returns : goal.returns
returns c =
    let i = c.loop-s.invariant in
    λ r u h. i.1 r u h ∙ rw (lt-ltb u c.loop-s.s (omega (arith, h, c.loop-s-test.false)))

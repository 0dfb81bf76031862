use mathlib.Core.Path.{sym, ap, ◌∙◌}
use mathlib.Core.Bool.{not, ◌&&◌}
use Prim.Native.Nat.{ℕ, ◌-◌}
use native.Mathlib.Omega.{arith}
use lib.Dec.{eqb}
use Rattle.board.specs.Sets.{has, lowest_square}
use Rattle.board.proofs.laws.SetLaws.{has-none, set_is}
use Rattle.board.proofs.laws.LowestLaws.{common-beyond}
use Rattle.board.proofs.sets.beyond_lowest.Goals as goal

pub returns-then-set-eq0 : goal.returns-then-set-eq0
returns-then-set-eq0 c =
    let set = c.args.set in
    set_is (λ (u : ℕ). has set u && not (eqb u (lowest_square set))) 0 (omega arith)
    (λ u h. has-none u ∙ sym (ap (λ b. b && not (eqb u (lowest_square set))) (ap (λ (n : ℕ). has n u) c.if-set-eq0.true ∙ has-none u)))

pub returns : goal.returns
returns c =
    let set = c.args.set in
    common-beyond set (set - 1) c.ranges.set.fits (omega (arith, c.if-set-eq0.false))

use mathlib.Core.Path.{◌≡◌, refl, ◌∙◌}
use Prim.Native.Nat.{ℕ, zero, suc, ◌+◌, ◌-◌, ◌*◌, ◌<◌}
use native.Mathlib.Omega.{arith}
use Rattle.finite.specs.Members.{any}
use Rattle.finite.specs.Numbers.{numbers}
use Rattle.board.specs.Reach.{line_of, reaches}
use Rattle.board.specs.Sets.{has}
use Rattle.board.proofs.laws.SetLaws.{set_is}
use Rattle.board.proofs.laws.EmptyLaws.{attacked-from, targets-clear}
use Rattle.board.proofs.lines.line_targets.Goals as goal

pub returns-then-full-occ-eq0 : goal.returns-then-full-occ-eq0
returns-then-full-occ-eq0 c =
    let a = c.args in
    targets-clear a.occ a.kind a.from c.on_empty-full.ensures c.if-full-occ-eq0.true

pub lines-requires : goal.lines-requires
lines-requires c =
    let a = c.args in
    (attacked-from a.occ a.kind a.from c.on_empty-full.ensures c.if-full-occ-eq0.false, omega arith)

-- a rook has the first four lines, a bishop the others
own_lines : (occ kind from t : ℕ) → 0 < kind → kind < 3
    → any (line_of (has occ) 0 from t) (numbers ((kind - 1) * 4 + 4 - (kind - 1) * 4) ((kind - 1) * 4)) ≡ reaches (has occ) kind from t
unfolding reaches
own_lines occ zero from t h l = absurd (omega arith)
own_lines occ (suc zero) from t h l = refl
own_lines occ (suc (suc zero)) from t h l = refl
own_lines occ (suc (suc (suc kind))) from t h l = absurd (omega arith)

pub returns : goal.returns
returns c =
    let a = c.args in
    set_is _ _ c.lines.type_inv (λ t h. c.lines.ensures t h ∙ own_lines a.occ a.kind a.from t c.requires.0 c.requires.1)

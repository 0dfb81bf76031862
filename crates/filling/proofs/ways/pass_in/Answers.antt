-- `filling::pass_in` meets its contract.
use mathlib.Core.Path.{refl}
use native.Mathlib.Omega.{arith}
use borrow.Author.Rules.{rules}
use Rattle.finite.specs.Truth.{true-not-false}
use Rattle.filling.proofs.ways.pass_in.Goals as goal

pub pass_halves-requires : goal.pass_halves-requires
pass_halves-requires c =
    let p = c.requires in
    (p.0, p.1, record { in-white = λ e. absurd (true-not-false refl e); in-black = λ e. absurd (true-not-false refl e) })

pub pass_back-requires : goal.pass_back-requires
pass_back-requires c =
    let p = c.requires in
    (omega (arith, c.if-k-eq0.false), p.0, p.1, p.2 (search rules))

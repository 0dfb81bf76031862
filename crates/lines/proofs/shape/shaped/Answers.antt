-- `lines::shape::shaped` meets its contract: the length first, and then each byte in its place.
use mathlib.Core.Path.{sym, ◌∙◌}
use Prim.Native.Nat.{ℕ}
use Rattle.std.proofs.Common.{rules, tests}
use Rattle.std.proofs.lemmas.Iterator.{YieldsList-from_slice, YieldsList-from_zip}
use Rattle.std.proofs.lemmas.Iterator.Search.{all_from_yields_List}
use Rattle.lines.specs.Grammar.{fits_place}
use Rattle.lines.proofs.laws.Shapes.{shape-longer, shape-all}
use Rattle.lines.proofs.shape.shaped.Goals as goal

pub returns-then-shape-line : goal.returns-then-shape-line
returns-then-shape-line c = sym (shape-longer _ _ c.if-shape-line.true)

pub returns : goal.returns
returns c =
    let shape = c.args.shape.now in
    let line = c.args.line.now in
    all_from_yields_List (λ (p : ℕ × ℕ). fits_place p.0 p.1) c.all.new.self _ _ c.all.ensures.ran
    (YieldsList-from_zip (YieldsList-from_slice shape cc) (YieldsList-from_slice line cc))
    (λ x b q k. search (rules, tests))
    ∙ shape-all shape line c.if-shape-line.false

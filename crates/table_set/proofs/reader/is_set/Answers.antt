-- `table_set::is_set` meets its contract. The loop's invariant: the test of the entries left is the test of the set.
use Rattle.std.proofs.Common.{◌≡◌, ◌+◌, ◌*◌, ◌-◌, ◌≤◌, ◌∙◌, sym, arith}
use Rattle.table_set.proofs.laws.Reading.{entries-stop, entries-more, entries_none, set-short, set-unlike, set-entries}
use Rattle.table_set.proofs.reader.is_set.Goals as goal

pub returns-then-set-lt4 : goal.returns-then-set-lt4
returns-then-set-lt4 c = set-short _ c.if-set-lt4.true

pub returns-then-set-first : goal.returns-then-set-first
returns-then-set-first c = set-unlike _ _ c.word-n.ensures.0 c.if-set-lt4.false c.if-set-first.true

pub loop-k-init : goal.loop-k-init
loop-k-init c =
    let n = c.word-n.result in
    let a : n - 0 ≡ n = omega arith in
    let b : 4 + 12 * n + 0 ≡ 4 + 12 * n = omega arith in
    rw (a, b) (set-entries _ _ c.word-n.ensures.0 c.if-set-lt4.false c.if-set-first.false)

pub returns-then-not-is_entry : goal.returns-then-not-is_entry
returns-then-not-is_entry c =
    sym (sym c.loop-k.invariant
    ∙ entries-stop _ _ _ _ _ c.is_entry.ensures (c.word-n.result - c.loop-k.k) (omega arith) c.if-not-is_entry.true)

pub loop-k-preserved : goal.loop-k-preserved
loop-k-preserved c =
    let n = c.word-n.result in
    let k = c.loop-k.k in
    let a : n - (k + 1) ≡ n - k - 1 = omega arith in
    let b : 4 + 12 * (k + 1) ≡ 4 + 12 * k + 12 = omega arith in
    let d : 4 + 12 * n + 59136 * (k + 1) ≡ 4 + 12 * n + 59136 * k + 59136 = omega arith in
    rw (a, b, d)
    (entries-more _ _ _ _ _ c.is_entry.ensures (n - k) _ (omega arith) c.if-not-is_entry.false c.word-least.ensures.0
    ∙ c.loop-k.invariant)

pub returns : goal.returns
returns c =
    sym (entries_none _ _ _ _ (c.word-n.result - c.loop-k.k) (omega arith)) ∙ c.loop-k.invariant

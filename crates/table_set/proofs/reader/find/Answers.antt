-- `table_set::find` meets its contract. The loop's invariant: the search of the entries left gives the answer.
use Rattle.std.proofs.Common.{◌≡◌, ◌+◌, ◌*◌, ◌-◌, ◌≤◌, ◌∙◌, sym, arith}
use Rattle.table_set.proofs.laws.Reading.{set-passed, find-code, find-wrong, find-entries, found_here, found-later, found-not}
use Rattle.table_set.proofs.reader.find.Goals as goal

pub returns-then-code-gt3 : goal.returns-then-code-gt3
returns-then-code-gt3 c = find-code _ _ c.if-code-gt3.true

pub returns-then-not-is_set : goal.returns-then-not-is_set
returns-then-not-is_set c = find-wrong _ _ c.if-code-gt3.false _ c.is_set.ensures c.if-not-is_set.true

pub word-n-requires : goal.word-n-requires
word-n-requires c = (set-passed _ _ c.is_set.ensures c.if-not-is_set.false).0

pub loop-k-init : goal.loop-k-init
loop-k-init c =
    let n = c.word-n.result in
    let a : n - 0 ≡ n = omega arith in
    let b : 4 + 12 * n + 0 ≡ 4 + 12 * n = omega arith in
    rw (a, b)
    (find-entries _ _ c.if-code-gt3.false _ c.is_set.ensures c.if-not-is_set.false _ c.word-n.ensures.0)

pub word-requires : goal.word-requires
word-requires c =
    let l = set-passed _ _ c.is_set.ensures c.if-not-is_set.false in
    omega (arith, l.0, l.1, c.word-n.ensures.0)

pub overflow_cast-result : goal.overflow_cast-result
overflow_cast-result c =
    let l = set-passed _ _ c.is_set.ensures c.if-not-is_set.false in
    omega (arith, l.1, l.2, c.word-n.ensures.0)

pub returns-then-word-wanted : goal.returns-then-word-wanted
returns-then-word-wanted c =
    sym (sym c.loop-k.invariant
    ∙ found_here _ _ (c.word-n.result - c.loop-k.k) _ _ _ (omega arith) c.word.ensures.0
    (c.if-word-wanted.true ∙ c.from-wanted.ensures))

pub loop-k-preserved : goal.loop-k-preserved
loop-k-preserved c =
    let n = c.word-n.result in
    let k = c.loop-k.k in
    let a : n - (k + 1) ≡ n - k - 1 = omega arith in
    let b : 4 + 12 * (k + 1) ≡ 4 + 12 * k + 12 = omega arith in
    let d : 4 + 12 * n + 59136 * (k + 1) ≡ 4 + 12 * n + 59136 * k + 59136 = omega arith in
    rw (a, b, d)
    (found-later _ _ (n - k) _ _ _ (omega arith) c.word.ensures.0 (λ e. c.if-word-wanted.false (e ∙ sym c.from-wanted.ensures))
    ∙ c.loop-k.invariant)

pub returns : goal.returns
returns c = sym (found-not _ _ (c.word-n.result - c.loop-k.k) _ _ (omega arith)) ∙ c.loop-k.invariant

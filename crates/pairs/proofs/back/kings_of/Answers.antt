-- `pairs::kings_of` meets its contract, by the rule of the lists.
use native.Mathlib.Omega.{arith}
use Rattle.pairs.proofs.laws.TableLaws.{kings-found, no-kings, row_lt}
use Rattle.pairs.proofs.back.kings_of.Goals as goal

pub returns-then-pair-ge462 : goal.returns-then-pair-ge462
returns-then-pair-ge462 c = no-kings c.args.pair c.if-pair-ge462.true

pub bounds-row : goal.bounds-row
bounds-row c = let e = c.row_of-row.ensures in omega (arith, row_lt c.args.pair)

pub overflow_cast-result : goal.overflow_cast-result
overflow_cast-result c =
    let f =
    (kings-found c.args.pair c.row_of-row.result c.if-pair-ge462.false
    c.row_of-row.ensures).small in omega arith

pub overflow_mul-result : goal.overflow_mul-result
overflow_mul-result c =
    let f =
    (kings-found c.args.pair c.row_of-row.result c.if-pair-ge462.false
    c.row_of-row.ensures).small in omega arith

pub overflow_add-result : goal.overflow_add-result
overflow_add-result c =
    let f =
    (kings-found c.args.pair c.row_of-row.result c.if-pair-ge462.false c.row_of-row.ensures).small in
    let e = c.black_of.ensures in
    omega arith

pub returns : goal.returns
returns c =
    rw c.black_of.ensures
    (kings-found c.args.pair c.row_of-row.result c.if-pair-ge462.false c.row_of-row.ensures).kings

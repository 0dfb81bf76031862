-- `typed_number::digits_word` meets its contract: the bytes in their places.
use Rattle.std.proofs.Common.{rules, ◌≡◌, length, arith}
use Rattle.sledgewren.proofs.laws.TypedLaws.{seven-word}
use Rattle.sledgewren.proofs.typed_number.digits_word.Goals as goal

pub returns : goal.returns
returns c =
    let long : length c.args.d ≡ 7 = search rules in
    let s = seven-word 0 c.args.d long in
    omega (arith, s, c.from_le_bytes.ensures)

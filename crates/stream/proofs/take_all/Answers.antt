-- `stream::take_all` meets its contract: table and output keep their lengths, and taking what is left gives what taking the whole gives.
use Rattle.std.proofs.Common.{refl, ◌∙◌, sym, arith}
use Rattle.stream.specs.Keeping.{byte_taken}
use Rattle.stream.proofs.laws.Laws.{next-byte, no_byte}
use Rattle.stream.proofs.take_all.Goals as goal

pub loop-byte-init : goal.loop-byte-init
loop-byte-init c = (refl, refl, refl)

pub loop-byte-preserved : goal.loop-byte-preserved
loop-byte-preserved c =
    let l = c.loop-byte in let t =
    c.take_byte-state in (
      t.auto.table ∙ l.invariant.0,
      t.auto.output ∙ l.invariant.1,
      l.invariant.2
          ∙ next-byte byte_taken _ _ c.args.input.now l.byte-index c.loop-byte-test.true t.ensures,
    )

pub returns : goal.returns
returns c =
    sym (c.loop-byte.invariant.2 ∙ no_byte byte_taken _ c.args.input.now c.loop-byte.byte-index (omega arith))

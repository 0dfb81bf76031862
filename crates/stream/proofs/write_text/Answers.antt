-- `stream::write_text` meets its contract: the loop keeps that writing what is left gives what writing the whole gives.
use Rattle.std.proofs.Common.{refl, ◌∙◌, sym, arith}
use Rattle.stream.specs.Keeping.{put}
use Rattle.stream.proofs.laws.Laws.{next-byte, no_byte}
use Rattle.stream.proofs.write_text.Goals as goal

pub loop-byte-init : goal.loop-byte-init
loop-byte-init c = (refl, refl)

pub loop-byte-preserved : goal.loop-byte-preserved
loop-byte-preserved c =
    let l = c.loop-byte in (
      c.write_byte-end.auto.output ∙ l.invariant.0,
      l.invariant.1
          ∙ next-byte put _ _ c.args.text.now l.byte-index c.loop-byte-test.true c.write_byte-end.ensures,
    )

pub returns : goal.returns
returns c =
    sym (c.loop-byte.invariant.1 ∙ no_byte put _ c.args.text.now c.loop-byte.byte-index (omega arith))

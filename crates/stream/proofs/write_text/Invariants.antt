-- `stream::write_text` meets its contract: the loop keeps that writing what is left gives what writing the whole gives.
use Rattle.std.proofs.Common.{◌≡◌, length, drop}
use Rattle.stream.specs.Keeping.{sheet, put_all}
use Rattle.stream.proofs.write_text.Given as goal

abbrev pub invariant-loop-byte : goal.invariant-loop-byte
invariant-loop-byte l = (length l.output ≡ length l.initial.output)
    × (put_all (sheet l.initial.output l.waiting) l.text ≡ put_all (sheet l.output l.end) (drop l.byte-index l.text))

-- `lines::fields::number_in` meets its contract: what is read so far, read on with what is left, gives the whole.
use Rattle.std.proofs.Common.{◌≡◌, ◌^◌, ◌<◌, drop, map}
use Rattle.check_digits.specs.Check.{reading}
use Rattle.lines.specs.Grammar.{digit_of}
use Rattle.lines.proofs.fields.number_in.Given as goal

abbrev pub invariant-loop-byte : goal.invariant-loop-byte
invariant-loop-byte l =
    (reading l.number (map digit_of (drop l.byte-index l.bytes)) ≡ reading 0 (map digit_of l.bytes)) × (l.number < 10 ^ l.byte-index)

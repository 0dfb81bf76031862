-- `slips::writing::with_text` meets its contract: the loop keeps that writing what is left gives what writing the whole gives.
use Rattle.std.proofs.Common.{◌≡◌, drop}
use Rattle.slips.specs.Appending.{appended}
use Rattle.slips.proofs.writing.with_text.Given as goal

abbrev pub invariant-loop-byte : goal.invariant-loop-byte
invariant-loop-byte l = appended l.initial.out l.text ≡ appended l.out (drop l.byte-index l.text)

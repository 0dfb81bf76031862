-- `stream::take_all` meets its contract: table and output keep their lengths, and taking what is left gives what taking the whole gives.
use Rattle.std.proofs.Common.{◌≡◌, length, drop}
use Rattle.stream.specs.Keeping.{kept, all_taken}
use Rattle.stream.proofs.take_all.Given as goal

abbrev pub invariant-loop-byte : goal.invariant-loop-byte
invariant-loop-byte l = (length l.table ≡ length l.initial.table)
    × (length l.output ≡ length l.initial.output)
    × (all_taken (kept l.initial.state l.initial.table l.initial.output) l.input ≡ all_taken (kept l.state l.table l.output) (drop l.byte-index l.input))

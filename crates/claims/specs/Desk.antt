-- Two theorems about the desk, which keeps to one man besides the kings, each closed as those of Claims are.
use Rattle.std.specs.Prelude.{◌≡◌, List, ℕ}
use Rattle.adjudication.specs.TrueSlip.{TrueSlip, Held}
use Rattle.adjudication.proofs.laws.OneSlip as slips
use Rattle.stream.specs.Stream.{whole_of, lines_of, fresh, handed_out, AllTrue}
use Rattle.stream.proofs.laws.Written as streaming

-- 11. In whatever parts the input comes, the desk hands out the true slips of its lines in order, if it begins with a
-- table that is right or with none.
pub desk-true : (held : ℕ) (t : List ℕ) (parts : List (List ℕ)) → Held held t
    → AllTrue (lines_of (whole_of parts)) (handed_out (fresh held t) parts)
desk-true = streaming.run-true

-- 12. A line has one true slip.
pub one-slip : (line s u : List ℕ) → TrueSlip line s → TrueSlip line u → s ≡ u
one-slip = slips.one-slip

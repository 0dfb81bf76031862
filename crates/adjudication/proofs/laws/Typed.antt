-- Typed numbers down to the slip, over any held table, which stays as it is: a slip of the hand is `refused 13`, and a number written with its check
-- gets its position.
use Rattle.std.specs.Prelude.{◌≡◌, List, ℕ, ◌+◌, ◌<◌, get_or, set, Err, Ok, Result}
use Rattle.std.proofs.Math.Path.{ap}
use Rattle.index.specs.Answers.{placed_at}
use Rattle.check_digits.specs.Check.{exchanged}
use Rattle.lines.specs.declared.Request.{Request}
use Rattle.lines.specs.Grammar.{kind_named, request_of}
use Rattle.lines.specs.Typed.{Digit, RightLine, number_line}
use Rattle.lines.proofs.laws.TypedLaws.{altered-refused, exchanged-refused}
use Rattle.lines.proofs.laws.WrittenLines.{written-request}
use Rattle.slips.specs.Slip.{slip_of, placed_slip}
use Rattle.adjudication.specs.Reply.{request_reply, reply_of}

module _ (held : ℕ) (t : List ℕ) where
  by-request : (line : List ℕ) (r : Result Request ℕ) → request_of line ≡ r → reply_of line held t ≡ request_reply r held t
  unfolding reply_of
  by-request line r e = ap (λ (q : Result Request ℕ). request_reply q held t) e

  pub altered-reply : (line : List ℕ) → RightLine line → (i b : ℕ) → i < 7 → Digit b → (get_or line (4 + i) 0 ≡ b → ⊥)
      → reply_of (set line (4 + i) b) held t ≡ record { slip = slip_of (Err 13); held = held; table = t }
  altered-reply line r i b h d other =
      by-request (set line (4 + i) b) (Err 13) (altered-refused line r i b h d other)

  pub exchanged-reply : (line : List ℕ) → RightLine line → (i : ℕ) → i < 6
      → (get_or line (4 + i) 0 ≡ get_or line (5 + i) 0 → ⊥)
      → reply_of (exchanged (4 + i) line) held t ≡ record { slip = slip_of (Err 13); held = held; table = t }
  exchanged-reply line r i h unequal =
      by-request (exchanged (4 + i) line) (Err 13) (exchanged-refused line r i h unequal)

  pub written-reply : (letter n : ℕ) → n < 100000 → kind_named letter < 4
      → reply_of (number_line letter n) held t
      ≡ record { slip = placed_slip (placed_at (kind_named letter) n); held = held; table = t }
  written-reply letter n h m =
      by-request (number_line letter n) (Ok (Request.Back (kind_named letter) n)) (written-request letter n h m)

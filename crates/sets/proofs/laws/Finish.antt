-- What the writer gives if some tables are still to come, and one of them filled.
use Rattle.std.specs.Prelude.{◌≡◌, true, false, cond, ℕ, ◌+◌, ◌<◌, ◌≤◌, eqb, length, Err, Ok}
use mathlib.Core.List.{List, [], ◌∷◌, ◌++◌, append_assoc, append-nil}
use Rattle.std.proofs.Common.{arith, length-take, length-drop, take_all, eq-eqb}
use Rattle.std.proofs.Math.ListN.{take, drop}
use Rattle.finite.specs.Mapped.{map_from, cleared-same}
use Rattle.finite.specs.Pieces.{over}
use Rattle.finite.specs.PieceLaws.{length_over, take-over, drop-over}
use Rattle.endings.specs.Ending.{table_size}
use Rattle.endings.specs.Answers.{Fill, fill_of}
use Rattle.endings.proofs.laws.FilledTrue.{fill-keeps-length}
use Rattle.sets.specs.declared.Choice.{Choice}
use Rattle.sets.specs.Layout.{codes_of, header_size, set_size, header_of}
use Rattle.sets.specs.Answers.{is_refusal, filled_at, tables_of, refused_one, SetWritten, write_of}
use Rattle.sets.proofs.laws.Sizes.{length-header}

-- what the writer leaves if the tables of the codes are still to come, from a place on
unfoldable pub finish : List ℕ → ℕ → List ℕ → SetWritten
finish cs at s =
    cond (refused_one cs (drop at s)) (record { answer = Err 10; bytes = map_from (λ n b. 0) 0 s })
    (record { answer = Ok tt; bytes = take at s ++ tables_of cs (drop at s) })

pub finish-end : (at : ℕ) (s : List ℕ) → length s ≤ at → finish [] at s ≡ record { answer = Ok tt; bytes = s }
unfolding finish refused_one tables_of
finish-end at s h = rw (append-nil (take at s), take_all at s h)

module _ (c at : ℕ) (s cs : List ℕ) (known : c < 4) (fits : at + table_size ≤ length s) where
  abbrev f : Fill
  f = fill_of c (take table_size (drop at s))

  length-filled : length f.bytes ≡ table_size
  length-filled = fill-keeps-length c (take table_size (drop at s)) known (simp (length-take, length-drop) (omega arith))

  room : at + length f.bytes ≤ length s
  room = omega (arith, length-filled)

  length-one : length (over s at f.bytes) ≡ length s
  length-one = length_over s at f.bytes room

  -- the table is filled, and the others are still to come
  pub finish-on : is_refusal (filled_at c at s).answer ≡ false
      → finish cs (at + table_size) (filled_at c at s).bytes ≡ finish (c ∷ cs) at s
  unfolding finish refused_one tables_of filled_at
  finish-on e =
      let t : take (at + table_size) (over s at f.bytes) ≡ take at s ++ f.bytes =
      rw length-filled at (take-over s at f.bytes room) in
      let d : drop (at + table_size) (over s at f.bytes) ≡ drop table_size (drop at s) =
      rw length-filled at (drop-over s at f.bytes room) in
      rw (
        e,
        t,
        d,
        cleared-same (over s at f.bytes) s length-one,
        append_assoc (take at s) f.bytes (tables_of cs (drop table_size (drop at s))),
      )

  -- filling refuses the table
  pub finish-refused : is_refusal (filled_at c at s).answer ≡ true
      → finish (c ∷ cs) at s ≡ record { answer = Err 10; bytes = (filled_at c at s).bytes }
  unfolding finish refused_one filled_at
  finish-refused e = rw e

-- with its header written, the tables still to come give the answer
pub write-start : (ch : Choice) (s : List ℕ) (n : ℕ) → n ≡ length (codes_of ch) → length s ≡ set_size n
    → finish (codes_of ch) (header_size n) (over s 0 (header_of (codes_of ch))) ≡ write_of ch s
unfolding write_of finish
write-start ch s n en l =
    let k = length-header (codes_of ch) in
    let room : 0 + length (header_of (codes_of ch)) ≤ length s = omega arith in
    let z : 0 + length (header_of (codes_of ch)) ≡ header_size n = omega arith in
    let t : take (header_size n) (over s 0 (header_of (codes_of ch))) ≡ header_of (codes_of ch) =
    rw z at (take-over s 0 (header_of (codes_of ch)) room) in
    let d : drop (header_size n) (over s 0 (header_of (codes_of ch))) ≡ drop (header_size (length (codes_of ch))) s =
    rw (z, k) at (drop-over s 0 (header_of (codes_of ch)) room) in
    let e : eqb (length s) (set_size (length (codes_of ch))) ≡ true =
    eq-eqb (length s) (set_size (length (codes_of ch))) (omega arith) in
    rw (t, d, e, cleared-same (over s 0 (header_of (codes_of ch))) s (length_over s 0 (header_of (codes_of ch)) room))

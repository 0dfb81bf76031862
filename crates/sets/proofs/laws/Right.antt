-- The reader's test and search are the paper's: of bytes, the test passes exactly where the header is the one that the rules give for its codes.
use Rattle.std.specs.Prelude.{◌≡◌, true, ◌&&◌, ◌↔◌, ℕ, zero, suc, ◌+◌, ◌*◌, ◌<◌, ◌≤◌, T, leb, ltb, eqb, drop}
use Rattle.std.proofs.Math.Path.{refl}
use Rattle.std.proofs.Common.{sym, ap, leb→le, ltb→lt, eqb→eq}
use mathlib.Core.List.{List, [], ◌∷◌, ◌++◌}
use native.Mathlib.Omega.{arith}
use Rattle.std.proofs.Math.ListN.{length}
use borrow.Author.Tests.{le-leb, lt-ltb, le-ltb, eq-eqb}
use Rattle.finite.specs.Truth.{and_left, and_right, of-true, true_of}
use Rattle.finite.specs.Pieces.{Lies}
use Rattle.finite.specs.PieceLaws.{nothing-lies, lies-left, lies-right, lies-both}
use Rattle.endings.specs.Ending.{table_size}
use Rattle.sets.specs.Layout.{word4, word_at, header_size, set_size, entries_of, header_of, rising, RightSet, place_of}
use Rattle.sets.specs.Answers.{right_entry, right_entries, right_set, find_entry, find_of}
use Rattle.sets.proofs.laws.Sizes.{length-header}
use Rattle.sets.proofs.laws.Rising.{rising-first, rising-more, rising-few}
use Rattle.sets.proofs.laws.WordLaws.{word_read, Bytes, word-lies}

-- ---- what the test says

entry-facts : (s : List ℕ) (at least offset : ℕ) → T (right_entry s at least offset)
    → (least ≤ word_at s at) × (word_at s at < 4) × (word_at s (at + 4) ≡ offset) × (word_at s (at + 8) ≡ table_size)
unfolding right_entry
entry-facts s at least offset t =
    let a = leb least (word_at s at) in
    let b = ltb (word_at s at) 4 in
    let c = eqb (word_at s (at + 4)) offset in
    let d = eqb (word_at s (at + 8)) table_size in
    let u : T (b && (c && d)) = and_right a (b && (c && d)) t in
    let v : T (c && d) = and_right b (c && d) u in (
      leb→le least (word_at s at) (and_left a (b && (c && d)) t),
      ltb→lt (word_at s at) 4 (and_left b (c && d) u),
      eqb→eq (word_at s (at + 4)) offset (and_left c d v),
      eqb→eq (word_at s (at + 8)) table_size (and_right c d v),
    )

-- bytes that pass the test are as many as their count says
pub set_long : (s : List ℕ) → right_set s ≡ true → (4 ≤ length s) × (length s ≡ set_size (word_at s 0))
unfolding right_set
set_long s e =
    let t : T (right_set s) = of-true e in
    let entries = right_entries (word_at s 0) s 4 0 (header_size (word_at s 0)) in
    let long = eqb (length s) (set_size (word_at s 0)) in (
      leb→le 4 (length s) (and_left (leb 4 (length s)) (long && entries) t),
      eqb→eq (length s) (set_size (word_at s 0))
          (and_left long entries (and_right (leb 4 (length s)) (long && entries) t)),
    )

-- and their count is at most 4
entries-few : (s : List ℕ) (left at least offset : ℕ) → least ≤ 4 → T (right_entries left s at least offset)
    → least + left ≤ 4
unfolding right_entries
entries-few s zero at least offset h t = omega arith
entries-few s (suc left) at least offset h t =
    let a = right_entry s at least offset in
    let b = right_entries left s (at + 12) (word_at s at + 1) (offset + table_size) in
    let f = entry-facts s at least offset (and_left a b t) in
    omega (
      arith,
      f.0,
      f.1,
      entries-few s left (at + 12) (word_at s at + 1) (offset + table_size) (omega (arith, f.1)) (and_right a b t),
    )

pub set-few : (s : List ℕ) → right_set s ≡ true → word_at s 0 ≤ 4
unfolding right_set
set-few s e =
    let t : T (right_set s) = of-true e in
    let entries = right_entries (word_at s 0) s 4 0 (header_size (word_at s 0)) in
    let long = eqb (length s) (set_size (word_at s 0)) in
    omega (
      arith,
      entries-few s (word_at s 0) 4 0 (header_size (word_at s 0)) (omega arith)
          (and_right long entries (and_right (leb 4 (length s)) (long && entries) t)),
    )

-- ---- from the rules to the reader

module _ (s : List ℕ) where
  module _ (at offset c : ℕ) (cs : List ℕ) (lies : Lies s at (entries_of (c ∷ cs) offset)) where
    abbrev rest : List ℕ
    rest = entries_of cs (offset + table_size)

    from-offset : Lies s (at + 4) (word4 offset ++ (word4 table_size ++ rest))
    unfolding entries_of word4
    from-offset = lies-right s at (word4 c) (word4 offset ++ (word4 table_size ++ rest)) lies

    from-length : Lies s (at + 8) (word4 table_size ++ rest)
    unfolding word4
    from-length = let z : at + 4 + 4 ≡ at + 8 = omega arith in
        rw z at (lies-right s (at + 4) (word4 offset) (word4 table_size ++ rest) from-offset)

    pub from-rest : Lies s (at + 12) rest
    unfolding word4
    from-rest =
        let z : at + 8 + 4 ≡ at + 12 = omega arith in rw z at (lies-right s (at + 8) (word4 table_size) rest from-length)

    pub code_read : c < 256 → word_at s at ≡ c
    unfolding entries_of
    code_read h =
        word_read s at c (omega arith) (lies-left s at (word4 c) (word4 offset ++ (word4 table_size ++ rest)) lies)

    offset_read : offset < 4294967296 → word_at s (at + 4) ≡ offset
    offset_read h =
        word_read s (at + 4) offset h (lies-left s (at + 4) (word4 offset) (word4 table_size ++ rest) from-offset)

    length-read : word_at s (at + 8) ≡ table_size
    length-read = word_read s (at + 8) table_size (omega arith) (lies-left s (at + 8) (word4 table_size) rest from-length)

  pub entries-right : (cs : List ℕ) (at least offset : ℕ) → Lies s at (entries_of cs offset) → rising least cs ≡ true
      → offset + table_size * length cs ≤ 4294967296 → right_entries (length cs) s at least offset ≡ true
  unfolding right_entries right_entry
  entries-right [] at least offset l r h = refl
  entries-right (c ∷ cs) at least offset l r h =
      let f = rising-first least c cs r in
      let a = code_read at offset c cs l (omega (arith, f.1)) in
      let b = offset_read at offset c cs l (omega arith) in
      let d = length-read at offset c cs l in
      let next = entries-right cs (at + 12) (c + 1) (offset + table_size) (from-rest at offset c cs l) f.2
      (omega arith) in
      rw (a, b, d, le-leb least c f.0, lt-ltb c 4 f.1, eq-eqb offset offset refl, next)

  pub entries-place : (cs : List ℕ) (at least offset code : ℕ) → Lies s at (entries_of cs offset)
      → rising least cs ≡ true → find_entry (length cs) s at offset code ≡ place_of cs offset code
  unfolding find_entry place_of
  entries-place [] at least offset code l r = refl
  entries-place (c ∷ cs) at least offset code l r =
      let f = rising-first least c cs r in
      rw (
        code_read at offset c cs l (omega (arith, f.1)),
        entries-place cs (at + 12) (c + 1) (offset + table_size) code (from-rest at offset c cs l) f.2,
      )

-- a header at the start has its count and its entries
module _ (s codes : List ℕ) (header : s ≡ header_of codes ++ drop (header_size (length codes)) s) where
  whole : Lies s 0 (word4 (length codes) ++ entries_of codes (header_size (length codes)))
  unfolding Lies header_of
  whole = let k = length-header codes in let z : 0 + length (header_of codes) ≡ header_size (length codes) =
      omega arith in rw z header

  count-lies : Lies s 0 (word4 (length codes))
  count-lies = lies-left s 0 (word4 (length codes)) (entries_of codes (header_size (length codes))) whole

  pub header-lies : Lies s 4 (entries_of codes (header_size (length codes)))
  unfolding word4
  header-lies = lies-right s 0 (word4 (length codes)) (entries_of codes (header_size (length codes))) whole

module _ (s codes : List ℕ) (right : RightSet s codes) where
  few : length codes ≤ 4
  few = omega (arith, rising-few 0 codes (omega arith) right.rises)

  count-read : word_at s 0 ≡ length codes
  count-read = word_read s 0 (length codes) (omega (arith, few)) (count-lies s codes right.header)

  pub entries-lie : Lies s 4 (entries_of codes (header_size (length codes)))
  entries-lie = header-lies s codes right.header

  -- a right set passes the test
  pub right-passes : right_set s ≡ true
  unfolding right_set
  right-passes =
      let e = entries-right s codes 4 0 (header_size (length codes)) entries-lie right.rises (omega (arith, few)) in
      rw (
        count-read,
        le-leb 4 (length s) (omega (arith, right.long)),
        eq-eqb (length s) (set_size (length codes)) right.long,
      ) e

  -- and an ending is found in it where the rules put it
  pub right-place : (code : ℕ) → code ≤ 3 → find_of s code ≡ place_of codes (header_size (length codes)) code
  unfolding find_of
  right-place code h =
      rw (le-ltb 3 code h, right-passes, count-read)
      (entries-place s codes 4 0 (header_size (length codes)) code entries-lie right.rises)

-- ---- and back, of bytes

pub record Entries (s : List ℕ) (left at least offset : ℕ) : Type 0 where
  pub codes : List ℕ
  pub count : length codes ≡ left
  pub rises : rising least codes ≡ true
  pub lies : Lies s at (entries_of codes offset)

pub entries-back : (s : List ℕ) → Bytes s → (left at least offset : ℕ) → at + 12 * left ≤ length s
    → right_entries left s at least offset ≡ true → Entries s left at least offset
unfolding right_entries right_entry rising entries_of word4
entries-back s small zero at least offset h e =
    record { codes = []; count = refl; rises = refl; lies = nothing-lies s at }
entries-back s small (suc left) at least offset h e =
    let c = word_at s at in
    let t : T (right_entry s at least offset && right_entries left s (at + 12) (c + 1) (offset + table_size)) =
    of-true e in
    let f = entry-facts s at least offset
    (and_left (right_entry s at least offset) (right_entries left s (at + 12) (c + 1) (offset + table_size)) t) in
    let r = entries-back s small left (at + 12) (c + 1) (offset + table_size) (omega arith)
    (true_of
    (and_right (right_entry s at least offset) (right_entries left s (at + 12) (c + 1) (offset + table_size)) t)) in
    let rest = entries_of r.codes (offset + table_size) in
    let z₂ : at + 4 + 4 ≡ at + 8 = omega arith in
    let z₃ : at + 8 + 4 ≡ at + 12 = omega arith in
    let w₁ : Lies s at (word4 c) = word-lies s at small (omega arith) in
    let w₂ : Lies s (at + 4) (word4 offset) = rw f.2 at (word-lies s (at + 4) small (omega arith)) in
    let w₃ : Lies s (at + 8) (word4 table_size) = rw f.3 at (word-lies s (at + 8) small (omega arith)) in
    let l₃ : Lies s (at + 8) (word4 table_size ++ rest) =
    lies-both s (at + 8) (word4 table_size) rest w₃ (rw z₃ r.lies) in
    let l₂ : Lies s (at + 4) (word4 offset ++ (word4 table_size ++ rest)) =
    lies-both s (at + 4) (word4 offset) (word4 table_size ++ rest) w₂ (rw z₂ l₃) in
    record {
      codes = c ∷ r.codes;
      count = ap suc r.count;
      rises = rising-more least c r.codes f.0 f.1 r.rises;
      lies = lies-both s at (word4 c) (word4 offset ++ (word4 table_size ++ rest)) w₁ l₂;
    }

header-from : (s codes : List ℕ) (n : ℕ) → n ≡ length codes → Lies s 0 (word4 n ++ entries_of codes (header_size n))
    → s ≡ header_of codes ++ drop (header_size (length codes)) s
unfolding Lies header_of
header-from s codes n e l =
    let k = length-header codes in
    let z : 0 + length (header_of codes) ≡ header_size (length codes) = omega arith in
    let w : s ≡ header_of codes ++ drop (0 + length (header_of codes)) s = rw e at l in
    rw z at w

-- bytes that pass the test are a right set
pub passes-right : (s : List ℕ) → Bytes s → right_set s ≡ true → (codes : List ℕ) × RightSet s codes
unfolding right_set word4
passes-right s small e =
    let n = word_at s 0 in
    let g = set_long s e in
    let entries = right_entries n s 4 0 (header_size n) in
    let long = eqb (length s) (set_size n) in
    let t : T (leb 4 (length s) && (long && entries)) = of-true e in
    let r = entries-back s small n 4 0 (header_size n) (omega (arith, g.1))
    (true_of (and_right long entries (and_right (leb 4 (length s)) (long && entries) t))) in (
      r.codes,
      record {
        rises = r.rises;
        header = header-from s r.codes n (sym r.count)
            (lies-both s 0 (word4 n) (entries_of r.codes (header_size n)) (word-lies s 0 small g.0) r.lies);
        long = omega (arith, g.1, r.count);
      },
    )

-- refusal 14 is given exactly where the paper gives it
pub right-exactly : (s : List ℕ) → Bytes s → (right_set s ≡ true) ↔ ((codes : List ℕ) × RightSet s codes)
right-exactly s small = (passes-right s small, λ x. right-passes s x.0 x.1)

-- Laws by which the reader's code is proved.
use Rattle.std.proofs.Math.Path.{◌≡◌, refl, sym}
use Rattle.std.proofs.Common.{◌∙◌}
use Rattle.std.specs.Prelude.{Bool, not, List, [], ltb, eqb, take, drop, Err, Ok, Result}
use Rattle.std.proofs.Math.Bool.{true, false, cond}
use Prim.Native.Nat.{ℕ, zero, suc, ◌+◌, ◌*◌, ◌-◌, ◌<◌, ◌≤◌}
use native.Mathlib.Omega.{arith}
use Rattle.std.proofs.Math.ListN.{length}
use borrow.Author.Tests.{lt-leb, le-leb, lt-ltb, le-ltb, eq-eqb, ne_eqb}
use Rattle.endings.specs.Ending.{table_size}
use Rattle.sets.specs.Layout.{word_at, header_size, set_size}
use Rattle.sets.specs.Answers.{right_entry, right_entries, right_set, find_entry, find_of, part_of}
use Rattle.sets.proofs.laws.Right.{set_long, set-few}

-- ---- an entry, by its three numbers

module _ (s : List ℕ) (at least offset a b c : ℕ) (ea : a ≡ word_at s at) where
  pub entry-low : a < least → false ≡ right_entry s at least offset
  unfolding right_entry
  entry-low h = sym (rw (← ea, lt-leb least a h))

  pub entry-high : least ≤ a → 4 ≤ a → false ≡ right_entry s at least offset
  unfolding right_entry
  entry-high l h = sym (rw (← ea, le-leb least a l, le-ltb a 4 h))

  pub entry-offset : least ≤ a → a < 4 → b ≡ word_at s (at + 4) → (b ≡ offset → ⊥) → false ≡ right_entry s at least offset
  unfolding right_entry
  entry-offset l h eb n = sym (rw (← ea, ← eb, le-leb least a l, lt-ltb a 4 h, ne_eqb b offset n))

  pub entry_length : least ≤ a → a < 4 → b ≡ word_at s (at + 4) → b ≡ offset → c ≡ word_at s (at + 8)
      → eqb c table_size ≡ right_entry s at least offset
  unfolding right_entry
  entry_length l h eb e ec = sym (rw (← ea, ← eb, ← ec, le-leb least a l, lt-ltb a 4 h, eq-eqb b offset e))

-- ---- the entries left

module _ (s : List ℕ) (at least offset : ℕ) (b : Bool) (eb : b ≡ right_entry s at least offset) where
  pub entries-stop : (left : ℕ) → 0 < left → b ≡ false → right_entries left s at least offset ≡ false
  unfolding right_entries
  entries-stop zero h e = absurd (omega arith)
  entries-stop (suc left) h e = rw (sym eb ∙ e)

  pub entries-more : (left w : ℕ) → 0 < left → b ≡ true → w ≡ word_at s at
      → right_entries (left - 1) s (at + 12) (w + 1) (offset + table_size) ≡ right_entries left s at least offset
  unfolding right_entries
  entries-more zero w h e ew = absurd (omega arith)
  entries-more (suc left) w h e ew = let z : suc left - 1 ≡ left = omega arith in rw (z, sym eb ∙ e, ew)

pub entries_none : (s : List ℕ) (at least offset left : ℕ) → left ≤ 0 → right_entries left s at least offset ≡ true
unfolding right_entries
entries_none s at least offset zero h = refl
entries_none s at least offset (suc left) h = absurd (omega arith)

-- ---- the whole set

module _ (s : List ℕ) where
  pub set-short : length s < 4 → false ≡ right_set s
  unfolding right_set
  set-short h = sym (rw (lt-leb 4 (length s) h))

  module _ (n : ℕ) (en : n ≡ word_at s 0) (h : 4 ≤ length s) where
    pub set-unlike : (length s ≡ set_size n → ⊥) → false ≡ right_set s
    unfolding right_set
    set-unlike no? = sym (rw (le-leb 4 (length s) h, ← en, ne_eqb (length s) (set_size n) no?))

    pub set-entries : length s ≡ set_size n → right_entries n s 4 0 (header_size n) ≡ right_set s
    unfolding right_set
    set-entries e = sym (rw (le-leb 4 (length s) h, ← en, eq-eqb (length s) (set_size n) e))

  -- a set that passes is as long as its count says, and its count is at most 4
  pub set-passed : (b : Bool) → b ≡ right_set s → b ≡ true
      → (4 ≤ length s) × (length s ≡ set_size (word_at s 0)) × (length s ≤ 236596)
  set-passed b eb e =
      let r = sym eb ∙ e in
      let l = set_long s r in
      (l.0, l.1, omega (arith, l.1, set-few s r))

-- ---- where an ending's table starts

module _ (s : List ℕ) (code : ℕ) where
  pub find-code : 3 < code → Err 1 ≡ find_of s code
  unfolding find_of
  find-code h = sym (rw (lt-ltb 3 code h))

  module _ (known : code ≤ 3) (b : Bool) (eb : b ≡ right_set s) where
    pub find-wrong : b ≡ false → Err 14 ≡ find_of s code
    unfolding find_of
    find-wrong e = sym (rw (le-ltb 3 code known, sym eb ∙ e))

    pub find-entries : b ≡ true → (n : ℕ) → n ≡ word_at s 0 → find_entry n s 4 (header_size n) code ≡ find_of s code
    unfolding find_of
    find-entries e n en = sym (rw (le-ltb 3 code known, sym eb ∙ e, ← en))

  pub found_here : (left at offset w : ℕ) → 0 < left → w ≡ word_at s at → w ≡ code
      → find_entry left s at offset code ≡ Ok offset
  unfolding find_entry
  found_here zero at offset w h ew e = absurd (omega arith)
  found_here (suc left) at offset w h ew e = rw (← ew, eq-eqb w code e)

  pub found-later : (left at offset w : ℕ) → 0 < left → w ≡ word_at s at → (w ≡ code → ⊥)
      → find_entry (left - 1) s (at + 12) (offset + table_size) code ≡ find_entry left s at offset code
  unfolding find_entry
  found-later zero at offset w h ew e = absurd (omega arith)
  found-later (suc left) at offset w h ew e = let z : suc left - 1 ≡ left = omega arith in rw (z, ← ew, ne_eqb w code e)

  pub found-not : (left at offset : ℕ) → left ≤ 0 → find_entry left s at offset code ≡ Err 15
  unfolding find_entry
  found-not zero at offset h = refl
  found-not (suc left) at offset h = absurd (omega arith)

  -- a table that is found lies inside the set
  entry-inside : (left at offset o : ℕ) → find_entry left s at offset code ≡ Ok o
      → offset + table_size * left ≤ length s → o + table_size ≤ length s
  unfolding find_entry
  entry-inside zero at offset o e h = let z : ◌≡◌ {A = ℕ} 0 1 = cc in absurd (omega arith)
  entry-inside (suc left) at offset o e h =
      go (eqb (word_at s at) code) (λ e. entry-inside left (at + 12) (offset + table_size) o e (omega arith)) e
    where
      go : (b : Bool) → (find_entry left s (at + 12) (offset + table_size) code ≡ Ok o → o + table_size ≤ length s)
          → cond b (Ok offset) (find_entry left s (at + 12) (offset + table_size) code) ≡ Ok o
          → o + table_size ≤ length s
      go true later e = let z : offset ≡ o = cc in omega arith
      go false later e = later e

  pub found_inside : (o : ℕ) → find_of s code ≡ Ok o → o + table_size ≤ length s
  unfolding find_of
  found_inside o e = go (ltb 3 code) (right_set s) refl e
    where
      go : (a b : Bool) → b ≡ right_set s
          → cond {A = Result ℕ ℕ} a (Err 1)
          (cond (not b) (Err 14) (find_entry (word_at s 0) s 4 (header_size (word_at s 0)) code)) ≡ Ok o
          → o + table_size ≤ length s
      go true b eb e = let z : ◌≡◌ {A = ℕ} 0 1 = cc in absurd (omega arith)
      go false false eb e = let z : ◌≡◌ {A = ℕ} 0 1 = cc in absurd (omega arith)
      go false true eb e =
          let l = set-passed s true eb refl in entry-inside (word_at s 0) 4 (header_size (word_at s 0)) o e (omega arith)

  -- the part that is handed back
  module _ (f : Result ℕ ℕ) (ef : f ≡ find_of s code) where
    pub part_room : (o : ℕ) → f ≡ Ok o → o + table_size ≤ length s
    part_room o e = found_inside o (sym ef ∙ e)

    pub part-found : (o : ℕ) → f ≡ Ok o → take (o + table_size - o) (drop o s) ≡ part_of s code
    unfolding part_of
    part-found o e = let z : o + table_size - o ≡ table_size = omega arith in rw (z, ← ef, e)

    pub part-refused : (r : ℕ) → f ≡ Err r → [] ≡ part_of s code
    unfolding part_of
    part-refused r e = sym (rw (← ef, e))

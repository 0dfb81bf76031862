-- What the writer leaves is a right set, and the reader gives back each chosen ending's filled table.
use Rattle.std.specs.Prelude.{◌≡◌, Bool, true, false, cond, not, ◌||◌, ◌↔◌, eqb, take, drop, Err, Ok}
use Rattle.std.proofs.Math.Path.{refl, sym}
use Rattle.std.proofs.Common.{ap, ◌∙◌, arith, length-append, length-take, length-drop, drop_of_length-le, drop-drop, drop_at, eq-eqb, ne_eqb, eqb-true}
use mathlib.Core.List.{List, [], ◌∷◌, ◌++◌, append-nil}
use Prim.Native.Nat.{ℕ, ◌+◌, ◌*◌, ◌<◌, ◌≤◌}
use Rattle.std.proofs.Math.ListN.{length}
use Rattle.finite.specs.Truth.{true-not-false}
use Rattle.finite.specs.Mapped.{map_from}
use Rattle.finite.specs.Pieces.{Lies}
use Rattle.finite.specs.PieceLaws.{lies-left, lies-right, lies-part}
use Rattle.answers.specs.declared.Checked.{Checked}
use Rattle.endings.specs.Ending.{table_size}
use Rattle.endings.specs.Answers.{check_of, fill_of}
use Rattle.endings.specs.Truth.{TrueTable}
use Rattle.endings.proofs.laws.Checking.{accepts-true-only}
use Rattle.endings.proofs.laws.FilledTrue.{fill-keeps-length, filled-accepted}
use Rattle.sets.specs.declared.Choice.{Choice}
use Rattle.sets.specs.Layout.{chosen, codes_of, header_size, set_size, header_of, rising, RightSet, place_of}
use Rattle.sets.specs.Answers.{right_set, find_of, part_of, is_refusal, tables_of, refused_one, SetWritten, write_of}
use Rattle.sets.proofs.laws.Sizes.{length-header}
use Rattle.sets.proofs.laws.Rising.{rising-first}
use Rattle.sets.proofs.laws.Choices.{codes-rise, unchosen-place, chosen-place}
use Rattle.sets.proofs.laws.Right.{right-passes, right-place}

-- ---- the tables

pub length-tables : (cs : List ℕ) (least : ℕ) (s : List ℕ) → rising least cs ≡ true → table_size * length cs ≤ length s
    → length (tables_of cs s) ≡ table_size * length cs
unfolding tables_of
length-tables [] least s r h = refl
length-tables (c ∷ cs) least s r h =
    let f = rising-first least c cs r in
    let a : length (fill_of c (take table_size s)).bytes ≡ table_size =
    fill-keeps-length c (take table_size s) f.1 (simp length-take (omega arith)) in
    let b = length-tables cs (c + 1) (drop table_size s) f.2 (simp length-drop (omega arith)) in
    omega (arith, length-append (fill_of c (take table_size s)).bytes (tables_of cs (drop table_size s)), a, b)

-- the table of a code that is there: the fill of what stood at its place
pub table-lies : (w s : List ℕ) (code o : ℕ) (cs : List ℕ) (least offset : ℕ) → rising least cs ≡ true
    → offset + table_size * length cs ≤ length s → Lies w offset (tables_of cs (drop offset s))
    → place_of cs offset code ≡ Ok o
    → (code < 4) × (o + table_size ≤ length s) × Lies w o (fill_of code (take table_size (drop o s))).bytes
unfolding tables_of place_of
table-lies w s code o [] least offset r h l e = let z : ◌≡◌ {A = ℕ} 0 1 = cc in absurd (omega arith)
table-lies w s code o (c ∷ cs) least offset r h l e =
    let f = rising-first least c cs r in
    let a : length (fill_of c (take table_size (drop offset s))).bytes ≡ table_size =
    fill-keeps-length c (take table_size (drop offset s)) f.1 (simp (length-take, length-drop) (omega arith)) in
    let m : Lies w (offset + table_size) (tables_of cs (drop (offset + table_size) s)) =
    rw (a, drop-drop table_size offset s) at
    (lies-right w offset (fill_of c (take table_size (drop offset s))).bytes
    (tables_of cs (drop table_size (drop offset s))) l) in
    go (eqb c code) refl f.1
    (lies-left w offset (fill_of c (take table_size (drop offset s))).bytes
    (tables_of cs (drop table_size (drop offset s))) l)
    (λ q. table-lies w s code o cs (c + 1) (offset + table_size) f.2 (omega arith) m q) e
  where
    go : (b : Bool) → b ≡ eqb c code → c < 4 → Lies w offset (fill_of c (take table_size (drop offset s))).bytes
        → (place_of cs (offset + table_size) code ≡ Ok o
        → (code < 4) × (o + table_size ≤ length s) × Lies w o (fill_of code (take table_size (drop o s))).bytes)
        → cond b (Ok offset) (place_of cs (offset + table_size) code) ≡ Ok o
        → (code < 4) × (o + table_size ≤ length s) × Lies w o (fill_of code (take table_size (drop o s))).bytes
    go true eb k x later q =
        let z : offset ≡ o = cc in
        let y = eqb-true c code (sym eb) in
        (omega arith, omega arith, rw (z, y) at x)
    go false eb k x later q = later q

-- none is refused, so not this one
pub one-not-refused : (s : List ℕ) (code o : ℕ) (cs : List ℕ) (offset : ℕ) → refused_one cs (drop offset s) ≡ false
    → place_of cs offset code ≡ Ok o → is_refusal (fill_of code (take table_size (drop o s))).answer ≡ false
unfolding refused_one place_of
one-not-refused s code o [] offset r e = let z : ◌≡◌ {A = ℕ} 0 1 = cc in absurd (omega arith)
one-not-refused s code o (c ∷ cs) offset r e =
    let f = neither (is_refusal (fill_of c (take table_size (drop offset s))).answer)
    (refused_one cs (drop table_size (drop offset s))) r in
    go (eqb c code) refl f.0
    (λ q. one-not-refused s code o cs (offset + table_size) (rw (drop-drop table_size offset s) at f.1) q) e
  where
    neither : (a b : Bool) → (a || b) ≡ false → (a ≡ false) × (b ≡ false)
    neither false b q = (refl, q)
    neither true b q = absurd (true-not-false {b = true} refl q)

    go : (b : Bool) → b ≡ eqb c code → is_refusal (fill_of c (take table_size (drop offset s))).answer ≡ false
        → (place_of cs (offset + table_size) code ≡ Ok o
        → is_refusal (fill_of code (take table_size (drop o s))).answer ≡ false)
        → cond b (Ok offset) (place_of cs (offset + table_size) code) ≡ Ok o
        → is_refusal (fill_of code (take table_size (drop o s))).answer ≡ false
    go true eb x later q =
        let z : offset ≡ o = cc in
        let y = eqb-true c code (sym eb) in
        rw (z, y) at x
    go false eb x later q = later q

-- ---- what the writer leaves

module _ (ch : Choice) (s : List ℕ) (done : (write_of ch s).answer ≡ Ok tt) where
  abbrev codes : List ℕ
  codes = codes_of ch

  -- a set that was written whole
  written-whole : (length s
      ≡ set_size (length (codes_of ch))) × (refused_one (codes_of ch) (drop (header_size (length (codes_of ch))) s) ≡ false)
      × ((write_of ch s).bytes
      ≡ header_of (codes_of ch) ++ tables_of (codes_of ch) (drop (header_size (length (codes_of ch))) s))
  unfolding write_of
  written-whole =
      go (eqb (length s) (set_size (length (codes_of ch))))
      (refused_one (codes_of ch) (drop (header_size (length (codes_of ch))) s)) refl refl done
    where
      left : List ℕ
      left = header_of (codes_of ch) ++ tables_of (codes_of ch) (drop (header_size (length (codes_of ch))) s)

      answer : Bool → Bool → SetWritten
      answer a b =
          cond (not a) (record { answer = Err 14; bytes = s })
          (cond b (record { answer = Err 10; bytes = map_from (λ n b. 0) 0 s })
          (record { answer = Ok tt; bytes = left }))

      go : (a b : Bool) → a ≡ eqb (length s) (set_size (length (codes_of ch)))
          → b ≡ refused_one (codes_of ch) (drop (header_size (length (codes_of ch))) s) → (answer a b).answer ≡ Ok tt
          → (length s ≡ set_size (length (codes_of ch)))
          × (refused_one (codes_of ch) (drop (header_size (length (codes_of ch))) s) ≡ false) × ((answer a b).bytes ≡ left)
      go false b ea eb e = let z : ◌≡◌ {A = ℕ} 0 1 = cc in absurd (omega arith)
      go true true ea eb e = let z : ◌≡◌ {A = ℕ} 0 1 = cc in absurd (omega arith)
      go true false ea eb e = (eqb-true (length s) (set_size (length (codes_of ch))) (sym ea), sym eb, refl)

  all-rise : rising 0 (codes_of ch) ≡ true
  unfolding codes_of
  all-rise = codes-rise ch 4 0 (omega arith)

  tables-long : length (tables_of (codes_of ch)
      (drop (header_size (length (codes_of ch))) s)) ≡ table_size * length (codes_of ch)
  tables-long =
      length-tables (codes_of ch) 0 (drop (header_size (length (codes_of ch))) s) all-rise
      (simp length-drop (omega (arith, written-whole.0)))

  after-header : drop (header_size (length (codes_of ch))) (write_of ch s).bytes ≡ tables_of (codes_of ch) (drop
      (header_size (length (codes_of ch))) s)
  after-header =
      rw written-whole.2
      (drop_at (header_of (codes_of ch)) (tables_of (codes_of ch) (drop (header_size (length (codes_of ch))) s))
      (header_size (length (codes_of ch))) (length-header (codes_of ch)))

  -- THE WRITTEN SET IS RIGHT
  pub written-right : RightSet (write_of ch s).bytes (codes_of ch)
  written-right = record {
    rises = all-rise;
    header = rw after-header written-whole.2;
    long = ap length written-whole.2
        ∙ omega (
          arith,
          length-append (header_of (codes_of ch)) (tables_of (codes_of ch) (drop (header_size (length (codes_of ch))) s)),
          length-header (codes_of ch),
          tables-long,
        );
  }

  pub written-passes : right_set (write_of ch s).bytes ≡ true
  written-passes = right-passes (write_of ch s).bytes (codes_of ch) written-right

  -- AN ENDING THAT WAS NOT CHOSEN IS 15
  pub unchosen-is-15 : (code : ℕ) → code ≤ 3 → chosen ch code ≡ false
      → find_of (write_of ch s).bytes code ≡ Err 15
  unfolding codes_of
  unchosen-is-15 code h no? = right-place (write_of ch s).bytes (codes_of ch) written-right code h
      ∙ unchosen-place ch code no? 4 0 (header_size (length (codes_of ch)))

  tables-lie : Lies (write_of ch s).bytes (header_size (length (codes_of ch))) (tables_of (codes_of ch)
      (drop (header_size (length (codes_of ch))) s))
  unfolding Lies
  tables-lie =
      let n = header_size (length (codes_of ch)) in
      let t = tables_of (codes_of ch) (drop n s) in
      let l : length (write_of ch s).bytes ≤ n + length t = omega (arith, written-right.long, tables-long) in
      after-header ∙ rw (drop_of_length-le (write_of ch s).bytes l, append-nil t)

  -- A CHOSEN ENDING IS FOUND, AND ITS PART IS THE FILL OF WHAT STOOD THERE
  pub chosen-read-back : (code : ℕ) → code ≤ 3 → chosen ch code ≡ true
      → (o : ℕ) × (find_of (write_of ch s).bytes code ≡ Ok o)
      × (part_of (write_of ch s).bytes code ≡ (fill_of code (take table_size (drop o s))).bytes)
  unfolding codes_of part_of
  chosen-read-back code h took =
      let n = header_size (length (codes_of ch)) in
      let p = chosen-place ch code took 4 0 n (omega arith) (omega arith) in
      let f : find_of (write_of ch s).bytes code ≡ Ok p.0 =
      right-place (write_of ch s).bytes (codes_of ch) written-right code h ∙ p.1 in
      let t = table-lies (write_of ch s).bytes s code p.0 (codes_of ch) 0 n all-rise
      (omega (arith, written-whole.0)) tables-lie p.1 in
      let k : length (fill_of code (take table_size (drop p.0 s))).bytes ≡ table_size =
      fill-keeps-length code (take table_size (drop p.0 s)) t.0
      (simp (length-take, length-drop) (omega (arith, t.1))) in (
        p.0,
        f,
        rw f
            (rw k at
            (lies-part (write_of ch s).bytes p.0 (fill_of code (take table_size (drop p.0 s))).bytes t.2)),
      )

  -- AND THE CHECKER ACCEPTS IT
  pub chosen-accepted : (code : ℕ) → code ≤ 3 → chosen ch code ≡ true
      → check_of code (part_of (write_of ch s).bytes code) ≡ Ok Checked.Accepted
  unfolding codes_of
  chosen-accepted code h took =
      let n = header_size (length (codes_of ch)) in
      let b = chosen-read-back code h took in
      let q : place_of (codes_of ch) n code ≡ Ok b.0 =
      sym (right-place (write_of ch s).bytes (codes_of ch) written-right code h) ∙ b.1 in
      let t = table-lies (write_of ch s).bytes s code b.0 (codes_of ch) 0 n all-rise
      (omega (arith, written-whole.0)) tables-lie q in
      let r = one-not-refused s code b.0 (codes_of ch) n written-whole.1 q in
      rw b.2 (filled-accepted code (take table_size (drop b.0 s)) t.0
      (simp (length-take, length-drop) (omega (arith, t.1)))
      (λ z. true-not-false {b = is_refusal (fill_of code (take table_size (drop b.0 s))).answer} (ap is_refusal z)
      r))

  -- SO IT IS THE TRUE TABLE
  pub chosen-true : (code : ℕ) → code ≤ 3 → chosen ch code ≡ true → TrueTable code (part_of (write_of ch s).bytes code)
  chosen-true code h took =
      ((accepts-true-only code (part_of (write_of ch s).bytes code)).0 (chosen-accepted code h took)).2

-- ---- the refusals, exactly

-- 14 exactly where the length is another
pub refused-14 : (ch : Choice) (s : List ℕ)
    → ((write_of ch s).answer ≡ Err 14) ↔ (length s ≡ set_size (length (codes_of ch)) → ⊥)
unfolding write_of
refused-14 ch s = (
  forth (eqb (length s) (set_size (length (codes_of ch))))
      (refused_one (codes_of ch) (drop (header_size (length (codes_of ch))) s)) refl,
  λ no?. rw (ne_eqb (length s) (set_size (length (codes_of ch))) no?),
)
  where
    answer : Bool → Bool → SetWritten
    answer a b =
        cond (not a) (record { answer = Err 14; bytes = s })
        (cond b (record { answer = Err 10; bytes = map_from (λ n b. 0) 0 s })
        (record {
          answer = Ok tt;
          bytes = header_of (codes_of ch) ++ tables_of (codes_of ch) (drop (header_size (length (codes_of ch))) s);
        }))

    forth : (a b : Bool) → a ≡ eqb (length s) (set_size (length (codes_of ch))) → (answer a b).answer ≡ Err 14
        → length s ≡ set_size (length (codes_of ch)) → ⊥
    forth false b ea e l = true-not-false (eq-eqb (length s) (set_size (length (codes_of ch))) l) (sym ea)
    forth true true ea e l = let z : ◌≡◌ {A = ℕ} 10 14 = cc in omega arith
    forth true false ea e l = let z : ◌≡◌ {A = ℕ} 0 1 = cc in omega arith

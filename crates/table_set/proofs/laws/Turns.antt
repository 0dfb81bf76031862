-- What the writer's two loops keep, one law for each way a turn can go.
use Rattle.std.specs.Prelude.{◌≡◌, refl, Bool, true, false, List, ◌∷◌, ◌++◌, ℕ, ◌+◌, ◌*◌, ◌-◌, ◌<◌, ◌≤◌, length, Err, Ok, Option, Result}
use Rattle.std.proofs.Math.Path.{sym}
use Rattle.std.proofs.Common.{ap, ◌∙◌, arith}
use Rattle.finite.specs.Pieces.{over}
use Rattle.finite.specs.PieceLaws.{over_nothing, length_over, over-over}
use Rattle.endings.specs.Ending.{table_size}
use Rattle.sets.specs.declared.Choice.{Choice}
use Rattle.sets.specs.Layout.{chosen, codes_from, codes_of, word4, header_size, set_size, entries_of, header_of}
use Rattle.sets.specs.Answers.{is_refusal, filled_at, SetWritten, write_of}
use Rattle.sets.proofs.laws.Finish.{finish, finish-end, finish-on, finish-refused, write-start}
use Rattle.table_set.proofs.laws.Writing.{codes-take, codes-pass, codes-start, codes-end}

-- ---- the header: the entries left, written over the set as it stands, give the whole header

pub record Headed (ch : Choice) (n : ℕ) (s₀ s : List ℕ) (at offset code : ℕ) : Type 0 where
  pub most : code ≤ 4
  pub same_length : length s ≡ length s₀
  pub room : at + 12 * length (codes_from ch (4 - code) code) ≤ length s
  pub small : offset + table_size * (4 - code) ≤ 300000
  pub whole : over s at (entries_of (codes_from ch (4 - code) code) offset) ≡ over s₀ 4 (entries_of (codes_of ch)
      (header_size n))

entry-over : (c at offset : ℕ) (cs s s₁ s₂ s₃ : List ℕ) → at + 12 ≤ length s → s₁ ≡ over s at (word4 c)
    → s₂ ≡ over s₁ (at + 4) (word4 offset) → s₃ ≡ over s₂ (at + 8) (word4 table_size)
    → (over s₃ (at + 12) (entries_of cs (offset + table_size)) ≡ over s at (entries_of (c ∷ cs) offset))
    × (length s₃ ≡ length s)
unfolding entries_of word4
entry-over c at offset cs s s₁ s₂ s₃ room e₁ e₂ e₃ =
    let l₁ : length s₁ ≡ length s = ap length e₁ ∙ length_over s at (word4 c) (omega arith) in
    let l₂ : length s₂ ≡ length s = ap length e₂ ∙ length_over s₁ (at + 4) (word4 offset) (omega arith) ∙ l₁ in
    let l₃ : length s₃ ≡ length s = ap length e₃ ∙ length_over s₂ (at + 8) (word4 table_size) (omega arith) ∙ l₂ in
    let rest = entries_of cs (offset + table_size) in
    let z₂ : at + 4 + 4 ≡ at + 8 = omega arith in
    let z₃ : at + 8 + 4 ≡ at + 12 = omega arith in
    let o₃ : over s₃ (at + 12) rest ≡ over s₂ (at + 8) (word4 table_size ++ rest) =
    rw e₃ (rw z₃ at (over-over s₂ (at + 8) (word4 table_size) (omega arith) rest)) in
    let o₂ : over s₂ (at + 8) (word4 table_size ++ rest)
    ≡ over s₁ (at + 4) (word4 offset ++ (word4 table_size ++ rest)) =
    rw e₂ (rw z₂ at (over-over s₁ (at + 4) (word4 offset) (omega arith) (word4 table_size ++ rest))) in
    let o₁ : over s₁ (at + 4) (word4 offset ++ (word4 table_size ++ rest))
    ≡ over s at (word4 c ++ (word4 offset ++ (word4 table_size ++ rest))) =
    rw e₁ (over-over s at (word4 c) (omega arith) (word4 offset ++ (word4 table_size ++ rest))) in
    (o₃ ∙ o₂ ∙ o₁, l₃)

pub headed-start : (ch : Choice) (n : ℕ) (s₀ : List ℕ) → n ≡ length (codes_of ch) → n ≤ 4 → header_size n ≤ length s₀
    → Headed ch n s₀ s₀ 4 (header_size n) 0
headed-start ch n s₀ en h l = record {
  most = omega arith;
  same_length = refl;
  room = rw (codes-start ch) (omega arith);
  small = omega arith;
  whole = rw (codes-start ch);
}

module _ (ch : Choice) (n : ℕ) (s₀ s : List ℕ) (at offset code : ℕ) (now : Headed ch n s₀ s at offset code) where
  module _ (b : Bool) (eb : b ≡ chosen ch code) (h : code < 4) where
    pub headed-pass : b ≡ false → Headed ch n s₀ s at offset (code + 1)
    headed-pass e =
        let z = codes-pass ch code b eb h e in
        record {
          most = omega arith;
          same_length = now.same_length;
          room = rw (← z) now.room;
          small = omega (arith, now.small);
          whole = rw (← z) now.whole;
        }

    pub headed-room : b ≡ true → at + 12 ≤ length s
    headed-room e = omega (arith, now.room, ap length (codes-take ch code b eb h e))

    pub headed-take : b ≡ true → (s₁ s₂ s₃ : List ℕ) → s₁ ≡ over s at (word4 code)
        → s₂ ≡ over s₁ (at + 4) (word4 offset) → s₃ ≡ over s₂ (at + 8) (word4 table_size)
        → Headed ch n s₀ s₃ (at + 12) (offset + table_size) (code + 1)
    headed-take e s₁ s₂ s₃ e₁ e₂ e₃ =
        let z = codes-take ch code b eb h e in
        let o = entry-over code at offset (codes_from ch (4 - (code + 1)) (code + 1)) s s₁ s₂ s₃ (headed-room e) e₁ e₂
        e₃ in
        record {
          most = omega arith;
          same_length = o.1 ∙ now.same_length;
          room = omega (arith, o.1, now.room, ap length z);
          small = omega (arith, now.small);
          whole = o.0 ∙ (rw z at now.whole);
        }

  pub headed-end : (t : List ℕ) → 4 ≤ code → n ≡ length (codes_of ch) → header_size n ≤ length t
      → s₀ ≡ over t 0 (word4 n) → s ≡ over t 0 (header_of (codes_of ch))
  unfolding entries_of header_of word4
  headed-end t h en l e =
      sym (over_nothing s at) ∙ rw (codes-end ch code h) at now.whole
      ∙ rw (e, ← en) (over-over t 0 (word4 n) (omega arith) (entries_of (codes_of ch) (header_size n)))

-- ---- the tables: those left, filled in the set as it stands, give the whole answer

pub record Tabled (ch : Choice) (w : SetWritten) (s₀ s : List ℕ) (at code : ℕ) : Type 0 where
  pub most : code ≤ 4
  pub same_length : length s ≡ length s₀
  pub room : at + table_size * length (codes_from ch (4 - code) code) ≡ length s
  pub whole : finish (codes_from ch (4 - code) code) at s ≡ w

pub tabled_start : (ch : Choice) (n : ℕ) (s₀ : List ℕ) → n ≡ length (codes_of ch) → length s₀ ≡ set_size n
    → Tabled ch (finish (codes_of ch) (header_size n) s₀) s₀ s₀ (header_size n) 0
tabled_start ch n s₀ en l = record {
  most = omega arith;
  same_length = refl;
  room = rw (codes-start ch) (omega arith);
  whole = rw (codes-start ch);
}

module _ (ch : Choice) (w : SetWritten) (s₀ s : List ℕ) (at code : ℕ) (now : Tabled ch w s₀ s at code) where
  module _ (b : Bool) (eb : b ≡ chosen ch code) (h : code < 4) where
    pub tabled-pass : b ≡ false → Tabled ch w s₀ s at (code + 1)
    tabled-pass e =
        let z = codes-pass ch code b eb h e in
        record {
          most = omega arith;
          same_length = now.same_length;
          room = rw (← z) now.room;
          whole = rw (← z) now.whole;
        }

    module _ (e : b ≡ true) where
      pub tabled-room : at + table_size ≤ length s
      tabled-room = omega (arith, now.room, ap length (codes-take ch code b eb h e))

      module _ (a : Result (Option ℕ) ℕ) (refused : Bool) (u : List ℕ) (ea : a ≡ (filled_at code at s).answer)
          (er : refused ≡ is_refusal a) (eu : u ≡ (filled_at code at s).bytes) where
        pub tabled-take : length u ≡ length s → refused ≡ false → Tabled ch w s₀ u (at + table_size) (code + 1)
        tabled-take l d =
            let z = codes-take ch code b eb h e in
            let cs = codes_from ch (4 - (code + 1)) (code + 1) in
            record {
              most = omega arith;
              same_length = l ∙ now.same_length;
              room = omega (arith, l, now.room, ap length z);
              whole = rw eu (finish-on code at s cs h tabled-room (rw ea at (sym er ∙ d))) ∙ (rw z at now.whole);
            }

        pub tabled-refused : refused ≡ true → w ≡ record { answer = Err 10; bytes = u }
        tabled-refused d =
            let z = codes-take ch code b eb h e in
            sym (rw z at now.whole)
            ∙ rw eu (finish-refused code at s (codes_from ch (4 - (code + 1)) (code + 1)) h tabled-room
            (rw ea at (sym er ∙ d)))

  pub tabled-end : 4 ≤ code → w ≡ record { answer = Ok tt; bytes = s }
  tabled-end h =
      let z = codes-end ch code h in
      sym (rw z at now.whole) ∙ finish-end at s (omega (arith, now.room, ap length z))

-- ---- the answer, by its two fields

module _ (ch : Choice) (n : ℕ) (t s₀ : List ℕ) (en : n ≡ length (codes_of ch)) (l : length t ≡ set_size n)
    (e : s₀ ≡ over t 0 (header_of (codes_of ch))) where
  pub write-is : (u : List ℕ) (a : Result (Unit {0}) ℕ) → finish (codes_of ch) (header_size n) s₀ ≡ record { answer = a; bytes = u }
      → (a ≡ (write_of ch t).answer) × (u ≡ (write_of ch t).bytes)
  write-is u a q =
      let k : write_of ch t ≡ record { answer = a; bytes = u } = sym (write-start ch t n en l) ∙ (rw e at q) in
      (ap (λ (x : SetWritten). x.answer) (sym k), ap (λ (x : SetWritten). x.bytes) (sym k))

-- The writer gives 10 exactly where the set is as long as the choice needs and a chosen ending's true depth exceeds 253; the set is then all zero.
use Rattle.std.specs.Prelude.{◌≡◌, Bool, cond, not, ◌||◌, List, ◌∷◌, ◌++◌, eqb, take, drop, Err, Ok}
use Rattle.std.proofs.Math.Path.{refl}
use Rattle.std.proofs.Common.{sym, ap, length-take}
use Rattle.std.proofs.Math.Bool.{true, false}
use Prim.Native.Nat.{ℕ, zero, suc, ◌+◌, ◌*◌, ◌<◌, ◌≤◌}
use Rattle.std.proofs.Math.Numerals.{lt_of_le_of_ne}
use native.Mathlib.Omega.{arith}
use Rattle.std.proofs.Math.ListN.{length, length-drop}
use borrow.Author.Tests.{eq-eqb, eqb-true, eqb-false}
use Rattle.finite.specs.Truth.{true-not-false}
use Rattle.finite.specs.Mapped.{map_from}
use Rattle.endings.specs.Ending.{table_size}
use Rattle.endings.specs.Answers.{fill_of}
use Rattle.endings.specs.FilledTrue.{Decided, FillTrue}
use Rattle.endings.proofs.laws.FilledTrue.{filled-true, refused-10}
use Rattle.sets.specs.declared.Choice.{Choice}
use Rattle.sets.specs.Layout.{chosen, codes_from, codes_of, header_size, set_size, header_of}
use Rattle.sets.specs.Answers.{is_refusal, tables_of, refused_one, SetWritten, write_of}

-- a position of the ending is decided in a depth that no byte holds
abbrev pub TooDeep : ℕ → Type 0
TooDeep code = (n : ℕ) × (253 < n) × Decided code n

module _ (code : ℕ) (t : List ℕ) (known : code < 4) (long : length t ≡ table_size) where
  refusal-deep : is_refusal (fill_of code t).answer ≡ true → TooDeep code
  refusal-deep e = go (filled-true code t known long)
    where
      go : FillTrue code (fill_of code t) → TooDeep code
      go (FillTrue.greatest n a w d m l) = absurd (true-not-false e (ap is_refusal a))
      go (FillTrue.none-decided a w d) = absurd (true-not-false e (ap is_refusal a))
      go (FillTrue.too-deep a z n h d) = (n, h, d)

  deep-refusal : TooDeep code → is_refusal (fill_of code t).answer ≡ true
  deep-refusal x = ap is_refusal ((refused-10 code t known long).1 x)

module _ (ch : Choice) where
  deep-forth : (left from : ℕ) → from + left ≤ 4 → (t : List ℕ)
      → table_size * length (codes_from ch left from) ≤ length t → refused_one (codes_from ch left from) t ≡ true
      → (code : ℕ) × (code < 4) × (chosen ch code ≡ true) × TooDeep code
  unfolding codes_from refused_one
  deep-forth zero from h t l e = absurd (true-not-false {b = false} e refl)
  deep-forth (suc left) from h t l e =
      go (chosen ch from) refl l e (λ u m q. deep-forth left (suc from) (omega arith) u m q)
    where
      one : (a : Bool) → a ≡ is_refusal (fill_of from (take table_size t)).answer → chosen ch from ≡ true
          → length (take table_size t) ≡ table_size
          → (refused_one (codes_from ch left (suc from)) (drop table_size t) ≡ true
          → (code : ℕ) × (code < 4) × (chosen ch code ≡ true) × TooDeep code)
          → (a || refused_one (codes_from ch left (suc from)) (drop table_size t)) ≡ true
          → (code : ℕ) × (code < 4) × (chosen ch code ≡ true) × TooDeep code
      one true ea k n later q = (from, omega arith, k, refusal-deep from (take table_size t) (omega arith) n (sym ea))
      one false ea k n later q = later q

      go : (b : Bool) → b ≡ chosen ch from
          → table_size * length (cond b (from ∷ codes_from ch left (suc from)) (codes_from ch left (suc from))) ≤ length t
          → refused_one (cond b (from ∷ codes_from ch left (suc from)) (codes_from ch left (suc from))) t ≡ true
          → ((u : List ℕ) → table_size * length (codes_from ch left (suc from)) ≤ length u
          → refused_one (codes_from ch left (suc from)) u ≡ true
          → (code : ℕ) × (code < 4) × (chosen ch code ≡ true) × TooDeep code)
          → (code : ℕ) × (code < 4) × (chosen ch code ≡ true) × TooDeep code
      go true eb m q later =
          one (is_refusal (fill_of from (take table_size t)).answer) refl (sym eb) (simp length-take (omega arith))
          (later (drop table_size t) (simp length-drop (omega arith))) q
      go false eb m q later = later t m q

  deep_back : (code : ℕ) → code < 4 → chosen ch code ≡ true → TooDeep code → (left from : ℕ) → from ≤ code
      → code < from + left → (t : List ℕ) → table_size * length (codes_from ch left from) ≤ length t
      → refused_one (codes_from ch left from) t ≡ true
  unfolding codes_from refused_one
  deep_back code known took deep zero from h k t l = absurd (omega arith)
  deep_back code known took deep (suc left) from h k t l =
      go (eqb from code) (chosen ch from) refl refl l
      (λ m u n. deep_back code known took deep left (suc from) (omega arith) (omega arith) u n)
    where
      or_right : (a b : Bool) → b ≡ true → (a || b) ≡ true
      or_right true b e = refl
      or_right false b e = e

      or_left : (a b : Bool) → a ≡ true → (a || b) ≡ true
      or_left true b e = refl
      or_left false b e = absurd (true-not-false {b = false} e refl)

      go : (a b : Bool) → a ≡ eqb from code → b ≡ chosen ch from
          → table_size * length (cond b (from ∷ codes_from ch left (suc from)) (codes_from ch left (suc from))) ≤ length t
          → (from < code → (u : List ℕ) → table_size * length (codes_from ch left (suc from)) ≤ length u
          → refused_one (codes_from ch left (suc from)) u ≡ true)
          → refused_one (cond b (from ∷ codes_from ch left (suc from)) (codes_from ch left (suc from))) t ≡ true
      go true true ea eb m later =
          let z = eqb-true from code (sym ea) in
          or_left (is_refusal (fill_of from (take table_size t)).answer)
          (refused_one (codes_from ch left (suc from)) (drop table_size t))
          (rw z (deep-refusal code (take table_size t) known (simp length-take (omega arith)) deep))
      go true false ea eb m later =
          let z = eqb-true from code (sym ea) in absurd (true-not-false took (sym (rw z at eb)))
      go false true ea eb m later =
          or_right (is_refusal (fill_of from (take table_size t)).answer)
          (refused_one (codes_from ch left (suc from)) (drop table_size t))
          (later (lt_of_le_of_ne h (eqb-false from code (sym ea))) (drop table_size t) (simp length-drop (omega arith)))
      go false false ea eb m later = later (lt_of_le_of_ne h (eqb-false from code (sym ea))) t m

  module _ (s : List ℕ) where
    abbrev answer : Bool → Bool → SetWritten
    answer a b =
        cond (not a) (record { answer = Err 14; bytes = s })
        (cond b (record { answer = Err 10; bytes = map_from (λ n b. 0) 0 s })
        (record {
          answer = Ok tt;
          bytes = header_of (codes_of ch) ++ tables_of (codes_of ch) (drop (header_size (length (codes_of ch))) s);
        }))

    answer-10 : (a b : Bool) → (answer a b).answer ≡ Err 10
        → (a ≡ true) × (b ≡ true) × ((answer a b).bytes ≡ map_from (λ n b. 0) 0 s)
    answer-10 false b e = let z : ◌≡◌ {A = ℕ} 10 14 = cc in absurd (omega arith)
    answer-10 true true e = (refl, refl, refl)
    answer-10 true false e = let z : ◌≡◌ {A = ℕ} 0 1 = cc in absurd (omega arith)

    pub written-10 : (write_of ch s).answer ≡ Err 10
        → (length s ≡ set_size (length (codes_of ch))) × ((write_of ch s).bytes ≡ map_from (λ n b. 0) 0 s)
        × ((code : ℕ) × (code < 4) × (chosen ch code ≡ true) × TooDeep code)
    unfolding write_of codes_of
    written-10 e =
        let n = header_size (length (codes_of ch)) in
        let k = answer-10 (eqb (length s) (set_size (length (codes_of ch)))) (refused_one (codes_of ch) (drop n s)) e in
        let l = eqb-true (length s) (set_size (length (codes_of ch))) k.0 in
        (l, k.2, deep-forth 4 0 (omega arith) (drop n s) (simp length-drop (omega arith)) k.1)

    pub deep-10 : length s ≡ set_size (length (codes_of ch)) → (code : ℕ) → code < 4 → chosen ch code ≡ true
        → TooDeep code → (write_of ch s).answer ≡ Err 10
    unfolding write_of codes_of
    deep-10 l code known took deep =
        rw (
          eq-eqb (length s) (set_size (length (codes_of ch))) l,
          deep_back code known took deep 4 0 (omega arith) (omega arith) (drop (header_size (length (codes_of ch))) s)
              (simp length-drop (omega arith)),
        )

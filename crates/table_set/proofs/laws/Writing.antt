-- Laws by which the writer's code is proved: the codes left, what the tables left give, and a part lent to the fill.
use Rattle.std.specs.Prelude.{◌≡◌, refl, Bool, false, cond, List, [], ◌∷◌, ◌++◌, ℕ, suc, ◌+◌, ◌-◌, ◌<◌, ◌≤◌, length, take, drop, Err, Ok, Result, Option}
use mir.Val.{bool_byte}
use Rattle.std.proofs.Math.Path.{sym}
use Rattle.std.proofs.Common.{◌∙◌, arith, length-take, length-drop}
use Rattle.std.proofs.Math.Bool.{true}
use Rattle.std.proofs.Math.Numerals.{add-one}
use Rattle.std.proofs.Math.Dec.{eqb}
use borrow.Author.Tests.{eq-eqb, ne_eqb}
use Rattle.finite.specs.Mapped.{map_from, cleared-same}
use Rattle.finite.specs.Pieces.{over}
use Rattle.endings.specs.Ending.{table_size}
use Rattle.endings.specs.Answers.{fill_of}
use Rattle.sets.specs.declared.Choice.{Choice}
use Rattle.sets.specs.Layout.{chosen, codes_from, codes_of, set_size, header_of}
use Rattle.sets.specs.Answers.{is_refusal, filled_at, fill_in_of, write_of, start_of, find_of}

-- ---- the codes left

module _ (ch : Choice) (code : ℕ) (b : Bool) (eb : b ≡ chosen ch code) (h : code < 4) where
  one_less : 4 - code ≡ suc (4 - (code + 1))
  one_less = omega arith

  pub codes-take : b ≡ true → codes_from ch (4 - code) code ≡ code ∷ codes_from ch (4 - (code + 1)) (code + 1)
  unfolding codes_from
  codes-take e = rw (one_less, sym eb ∙ e, add-one code)

  pub codes-pass : b ≡ false → codes_from ch (4 - code) code ≡ codes_from ch (4 - (code + 1)) (code + 1)
  unfolding codes_from
  codes-pass e = rw (one_less, sym eb ∙ e, add-one code)

pub codes-start : (ch : Choice) → codes_from ch 4 0 ≡ codes_of ch
unfolding codes_of
codes-start ch = refl

pub codes-end : (ch : Choice) (code : ℕ) → 4 ≤ code → codes_from ch (4 - code) code ≡ []
unfolding codes_from
codes-end ch code h = let z : 4 - code ≡ 0 = omega arith in rw z

pub codes-count : (ch : Choice)
    → (bool_byte ch.queen + bool_byte ch.rook + bool_byte ch.bishop + bool_byte ch.knight
    ≡ length (codes_of ch)) × (length (codes_of ch) ≤ 4)
unfolding codes_of codes_from chosen
codes-count ch = go ch.queen ch.rook ch.bishop ch.knight
  where
    more : Bool → ℕ → List ℕ → List ℕ
    more b code l = cond b (code ∷ l) l

    go : (q r b k : Bool)
        → (bool_byte q + bool_byte r + bool_byte b + bool_byte k ≡ length (more q 0 (more r 1 (more b 2 (more k 3 [])))))
        × (length (more q 0 (more r 1 (more b 2 (more k 3 [])))) ≤ 4)
    go true true true true = (refl, omega arith)
    go true true true false = (refl, omega arith)
    go true true false true = (refl, omega arith)
    go true true false false = (refl, omega arith)
    go true false true true = (refl, omega arith)
    go true false true false = (refl, omega arith)
    go true false false true = (refl, omega arith)
    go true false false false = (refl, omega arith)
    go false true true true = (refl, omega arith)
    go false true true false = (refl, omega arith)
    go false true false true = (refl, omega arith)
    go false true false false = (refl, omega arith)
    go false false true true = (refl, omega arith)
    go false false true false = (refl, omega arith)
    go false false false true = (refl, omega arith)
    go false false false false = (refl, omega arith)

-- ---- the answer

module _ (ch : Choice) (s : List ℕ) (n : ℕ) (en : n ≡ length (codes_of ch)) where
  pub write-unlike : (length s ≡ set_size n → ⊥)
      → (Err 14 ≡ (write_of ch s).answer) × (s ≡ (write_of ch s).bytes)
  unfolding write_of
  write-unlike no? =
      let e = ne_eqb (length s) (set_size (length (codes_of ch))) (λ l. no? (rw en l)) in (sym (rw e), sym (rw e))

  -- the header alone
  pub start-unlike : (length s ≡ set_size n → ⊥)
      → (Err 14 ≡ (start_of ch s).answer) × (s ≡ (start_of ch s).bytes)
  unfolding start_of
  start-unlike no? =
      let e = ne_eqb (length s) (set_size (length (codes_of ch))) (λ l. no? (rw en l)) in (sym (rw e), sym (rw e))

  pub start_is : length s ≡ set_size n → (u : List ℕ) → u ≡ over s 0 (header_of (codes_of ch))
      → (Ok tt ≡ (start_of ch s).answer) × (u ≡ (start_of ch s).bytes)
  unfolding start_of
  start_is l u eu = let e : eqb (length s) (set_size (length (codes_of ch))) ≡ true =
      eq-eqb (length s) (set_size (length (codes_of ch))) (omega arith) in (sym (rw e), eu ∙ sym (rw e))

-- ---- a part that was lent to the fill, back in its place

pub part-put : (code at k : ℕ) (s ys : List ℕ) (a : Result (Option ℕ) ℕ) → k ≡ table_size → at + table_size ≤ length s
    → a ≡ (fill_of code (take k (drop at s))).answer → ys ≡ (fill_of code (take k (drop at s))).bytes
    → length ys ≡ length (take k (drop at s))
    → (a ≡ (fill_of code (take table_size (drop at s))).answer)
    × (take at s ++ (ys ++ drop k (drop at s)) ≡ over s at (fill_of code (take table_size (drop at s))).bytes)
unfolding over
part-put code at k s ys a ek fits ea ey ly =
    let f : ys ≡ (fill_of code (take table_size (drop at s))).bytes = rw ek at ey in
    let n : length (fill_of code (take table_size (drop at s))).bytes ≡ table_size =
    rw (← f) (ly ∙ simp (length-take, length-drop) (omega arith)) in
    (rw ek at ea, rw (f, ek, n))

-- ---- a table filled at its place

module _ (code at : ℕ) (s t : List ℕ) (a : Result (Option ℕ) ℕ) (b : Bool)
    (ea : a ≡ (fill_of code (take table_size (drop at s))).answer)
    (et : t ≡ over s at (fill_of code (take table_size (drop at s))).bytes) (eb : b ≡ is_refusal a) where
  pub at-kept : b ≡ false → (a ≡ (filled_at code at s).answer) × (t ≡ (filled_at code at s).bytes)
  unfolding filled_at
  at-kept e = (ea, et ∙ sym (rw (← ea, sym eb ∙ e)))

  pub at-cleared : length t ≡ length s → b ≡ true
      → (a ≡ (filled_at code at s).answer) × (map_from (λ n b. 0) 0 t ≡ (filled_at code at s).bytes)
  unfolding filled_at
  at-cleared l e = (ea, cleared-same t s l ∙ sym (rw (← ea, sym eb ∙ e)))

-- ---- a table filled where it is found

module _ (code : ℕ) (s : List ℕ) (f : Result ℕ ℕ) (ef : f ≡ find_of s code) where
  pub in-found : (at : ℕ) → f ≡ Ok at → (a : Result (Option ℕ) ℕ) (u : List ℕ) → a ≡ (filled_at code at s).answer
      → u ≡ (filled_at code at s).bytes → (a ≡ (fill_in_of code s).answer) × (u ≡ (fill_in_of code s).bytes)
  unfolding fill_in_of
  in-found at e a u ea eu = (ea ∙ sym (rw (← ef, e)), eu ∙ sym (rw (← ef, e)))

  pub in-refused : (r : ℕ) → f ≡ Err r
      → (Err r ≡ (fill_in_of code s).answer) × (s ≡ (fill_in_of code s).bytes)
  unfolding fill_in_of
  in-refused r e = (sym (rw (← ef, e)), sym (rw (← ef, e)))

-- A header, then each chosen ending filled in its own part, one after the other: what the writer leaves.
use Rattle.std.specs.Prelude.{◌≡◌, refl, Bool, List, [], ◌∷◌, ◌++◌, ℕ, ◌+◌, ◌*◌, ◌<◌, ◌≤◌, take, drop, Ok, Err, Result}
use Rattle.std.proofs.Math.Path.{sym, ap}
use Rattle.std.proofs.Common.{ap₂, ◌∙◌, append_assoc, arith, length-take, length-drop, length-append, take-append-drop, take_at, eq-eqb, ne_eqb}
use Rattle.std.proofs.Math.Bool.{true, false, cond}
use Rattle.std.proofs.Math.ListN.{length}
use Rattle.finite.specs.Truth.{true-not-false}
use Rattle.finite.specs.Pieces.{over}
use Rattle.finite.specs.PieceLaws.{length_over, take-over, take-before}
use Rattle.endings.specs.Ending.{table_size}
use Rattle.endings.specs.Answers.{fill_of}
use Rattle.endings.specs.FilledTrue.{FillTrue}
use Rattle.endings.proofs.laws.FilledTrue.{filled-true, fill-keeps-length}
use Rattle.sets.specs.declared.Choice.{Choice}
use Rattle.sets.specs.Layout.{codes_of, header_size, set_size, header_of, rising, RightSet, place_of}
use Rattle.sets.specs.Answers.{is_refusal, filled_at, fill_in_of, find_of, said_of, fill_each, write_of, start_of}
use Rattle.sets.proofs.laws.Sizes.{length-header}
use Rattle.sets.proofs.laws.Rising.{rising-first}
use Rattle.sets.proofs.laws.Choices.{codes-rise}
use Rattle.sets.proofs.laws.Right.{right-place}
use Rattle.sets.proofs.laws.Finish.{finish, finish-end, finish-on, finish-refused, write-start}

-- ---- a code among those that rise

rising-at : (pre cs : List ℕ) (least c : ℕ) → rising least (pre ++ (c ∷ cs)) ≡ true → (least ≤ c) × (c < 4)
rising-at [] cs least c r = let f = rising-first least c cs r in (f.0, f.1)
rising-at (p ∷ pre) cs least c r =
    let f = rising-first least p (pre ++ (c ∷ cs)) r in
    let g = rising-at pre cs (p + 1) c f.2 in
    (omega (arith, f.0, g.0), g.1)

-- its table starts after those before it
place_at : (pre cs : List ℕ) (least c offset : ℕ) → rising least (pre ++ (c ∷ cs)) ≡ true
    → place_of (pre ++ (c ∷ cs)) offset c ≡ Ok (offset + table_size * length pre)
unfolding place_of
place_at [] cs least c offset r = let z : offset + table_size * 0 ≡ offset = omega arith in rw (eq-eqb c c refl, z)
place_at (p ∷ pre) cs least c offset r =
    let f = rising-first least p (pre ++ (c ∷ cs)) r in
    let g = rising-at pre cs (p + 1) c f.2 in
    let no? : p ≡ c → ⊥ = λ e. omega (arith, g.0) in
    let z : offset + table_size + table_size * length pre ≡ offset + table_size * length (p ∷ pre) = omega arith in
    rw (ne_eqb p c no?) (place_at pre cs (p + 1) c (offset + table_size) f.2 ∙ ap Ok z)

-- ---- the header stays as the tables are filled

right_kept : (u codes ys : List ℕ) (at : ℕ) → RightSet u codes → header_size (length codes) ≤ at
    → at + length ys ≤ length u → RightSet (over u at ys) codes
right_kept u codes ys at right h l =
    let n = header_size (length codes) in
    let t : take n u ≡ header_of codes = ap (take n) right.header
    ∙ take_at (header_of codes) (drop n u) n (length-header codes) in
    let e : take n (over u at ys) ≡ header_of codes = take-before u at ys n h (omega arith) ∙ t in
    record {
      rises = right.rises;
      header = sym (take-append-drop n (over u at ys)) ∙ ap (λ (x : List ℕ). x ++ drop n (over u at ys)) e;
      long = length_over u at ys l ∙ right.long;
    }

-- ---- filling refuses with 10 only

ten : (code : ℕ) (t : List ℕ) → code < 4 → length t ≡ table_size → is_refusal (fill_of code t).answer ≡ true
    → said_of (fill_of code t).answer ≡ Err 10
ten code t known long e = go (filled-true code t known long)
  where
    go : FillTrue code (fill_of code t) → said_of (fill_of code t).answer ≡ Err 10
    go (FillTrue.greatest n a w d m l) = absurd (true-not-false e (ap is_refusal a))
    go (FillTrue.none-decided a w d) = absurd (true-not-false e (ap is_refusal a))
    go (FillTrue.too-deep a z n h d) = ap said_of a

-- ---- ending by ending

module _ (c at : ℕ) (cs u codes : List ℕ) (known : c < 4) (right : RightSet u codes)
    (after : header_size (length codes) ≤ at) (fits : at + table_size ≤ length u) where
  abbrev part : List ℕ
  part = take table_size (drop at u)

  part-long : length (take table_size (drop at u)) ≡ table_size
  part-long = simp (length-take, length-drop) (omega arith)

  still-right : is_refusal (filled_at c at u).answer ≡ false → RightSet (filled_at c at u).bytes codes
  unfolding filled_at
  still-right e =
      let l : length (fill_of c part).bytes ≡ table_size = fill-keeps-length c part known part-long in
      rw e (right_kept u codes (fill_of c part).bytes at right after (omega arith))

  said : is_refusal (filled_at c at u).answer ≡ true → said_of (filled_at c at u).answer ≡ Err 10
  unfolding filled_at
  said e = ten c part known part-long e

  one : (is_refusal (filled_at c at u).answer ≡ false
      → fill_each cs (filled_at c at u).bytes ≡ finish cs (at + table_size) (filled_at c at u).bytes)
      → find_of u c ≡ Ok at → fill_each (c ∷ cs) u ≡ finish (c ∷ cs) at u
  unfolding fill_each fill_in_of
  one later found = rw found (go (is_refusal (filled_at c at u).answer) refl)
    where
      go : (b : Bool) → b ≡ is_refusal (filled_at c at u).answer
          → cond b (record { answer = said_of (filled_at c at u).answer; bytes = (filled_at c at u).bytes })
          (fill_each cs (filled_at c at u).bytes) ≡ finish (c ∷ cs) at u
      go true e = ap (λ (x : Result (Unit {0}) ℕ). record { answer = x; bytes = (filled_at c at u).bytes }) (said (sym e))
          ∙ sym (finish-refused c at u cs known fits (sym e))
      go false e = later (sym e) ∙ finish-on c at u cs known fits (sym e)

each : (codes pre cs u : List ℕ) → codes ≡ pre ++ cs → RightSet u codes
    → fill_each cs u ≡ finish cs (header_size (length codes) + table_size * length pre) u
unfolding fill_each
each codes pre [] u ec right =
    sym (finish-end (header_size (length codes) + table_size * length pre) u
    (omega (arith, right.long, ap length ec, length-append pre [])))
each codes pre (c ∷ cs) u ec right =
    let n = header_size (length codes) in
    let at = header_size (length codes) + table_size * length pre in
    let r : rising 0 (pre ++ (c ∷ cs)) ≡ true = ap (rising 0) (sym ec) ∙ right.rises in
    let k = rising-at pre cs 0 c r in
    let l : length codes ≡ length pre + length (c ∷ cs) = ap length ec ∙ length-append pre (c ∷ cs) in
    let fits : at + table_size ≤ length u = omega (arith, right.long) in
    let found : find_of u c ≡ Ok at = right-place u codes right c (omega (arith, k.1))
    ∙ ap (λ (x : List ℕ). place_of x n c) ec ∙ place_at pre cs 0 c n r in
    let z : n + table_size * length (pre ++ (c ∷ [])) ≡ at + table_size = omega (arith, length-append pre (c ∷ [])) in
    one c at cs u codes k.1 right (omega arith) fits
    (λ e. each codes (pre ++ (c ∷ [])) cs (filled_at c at u).bytes (ec ∙ sym (append_assoc pre (c ∷ []) cs))
    (still-right c at cs u codes k.1 right (omega arith) fits e)
    ∙ ap (λ (x : ℕ). finish cs x (filled_at c at u).bytes) z) found

-- ---- the whole

-- a set that was started is right
pub started-right : (ch : Choice) (s : List ℕ) → length s ≡ set_size (length (codes_of ch))
    → RightSet (start_of ch s).bytes (codes_of ch)
unfolding start_of codes_of
started-right ch s l =
    let codes = codes_of ch in
    let h : length (header_of codes) ≡ header_size (length codes) = length-header codes in
    let fits : 0 + length (header_of codes) ≤ length s = omega arith in
    let z : 0 + length (header_of codes) ≡ header_size (length codes) = omega arith in
    let t : take (header_size (length codes)) (over s 0 (header_of codes)) ≡ header_of codes =
    rw z at (take-over s 0 (header_of codes) fits) in
    rw (eq-eqb (length s) (set_size (length codes)) l) (record {
      rises = codes-rise ch 4 0 (omega arith);
      header = sym (take-append-drop (header_size (length codes)) (over s 0 (header_of codes)))
          ∙ ap (λ (x : List ℕ). x ++ drop (header_size (length codes)) (over s 0 (header_of codes))) t;
      long = length_over s 0 (header_of codes) fits ∙ l;
    })

-- THE HEADER, THEN EACH CHOSEN ENDING IN ITS OWN PART: WHAT THE WRITER LEAVES
pub by-endings : (ch : Choice) (s : List ℕ) → length s ≡ set_size (length (codes_of ch))
    → fill_each (codes_of ch) (start_of ch s).bytes ≡ write_of ch s
unfolding start_of
by-endings ch s l =
    let codes = codes_of ch in
    let z : header_size (length codes) + table_size * 0 ≡ header_size (length codes) = omega arith in
    let e : (start_of ch s).bytes ≡ over s 0 (header_of codes) = rw (eq-eqb (length s) (set_size (length codes)) l) in
    each codes [] codes (start_of ch s).bytes refl (started-right ch s l)
    ∙ ap₂ (λ (x : ℕ) (y : List ℕ). finish codes x y) z e ∙ write-start ch s (length codes) refl l

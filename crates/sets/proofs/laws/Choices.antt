-- Laws of a choice's codes.
use Rattle.std.specs.Prelude.{◌≡◌, refl, Bool, true, false, cond, List, ◌∷◌, ℕ, zero, suc, ◌+◌, ◌<◌, ◌≤◌, eqb, Err, Ok}
use Rattle.std.proofs.Common.{sym, add-one, arith, ne_eqb, eqb-true}
use Rattle.std.proofs.Math.Numerals.{lt_of_le_of_ne}
use Rattle.std.proofs.lemmas.Bool.{eqb-false}
use Rattle.finite.specs.Truth.{true-not-false}
use Rattle.endings.specs.Ending.{table_size}
use Rattle.sets.specs.declared.Choice.{Choice}
use Rattle.sets.specs.Layout.{chosen, codes_from, rising, place_of}
use Rattle.sets.proofs.laws.Rising.{rising-more, rising-lower}

pub codes-rise : (ch : Choice) (left code : ℕ) → code + left ≤ 4 → rising code (codes_from ch left code) ≡ true
unfolding codes_from rising
codes-rise ch zero code h = refl
codes-rise ch (suc left) code h = go (chosen ch code) (codes-rise ch left (suc code) (omega arith))
  where
    go : (b : Bool) → rising (suc code) (codes_from ch left (suc code)) ≡ true
        → rising code (cond b (code ∷ codes_from ch left (suc code)) (codes_from ch left (suc code))) ≡ true
    go true r = rising-more code code (codes_from ch left (suc code)) (omega arith) (omega arith) (rw (add-one code) r)
    go false r = rising-lower code (suc code) (codes_from ch left (suc code)) (omega arith) r

-- an ending that is not chosen is not there
pub unchosen-place : (ch : Choice) (code : ℕ) → chosen ch code ≡ false → (left from offset : ℕ)
    → place_of (codes_from ch left from) offset code ≡ Err 15
unfolding codes_from place_of
unchosen-place ch code no? zero from offset = refl
unchosen-place ch code no? (suc left) from offset =
    go (chosen ch from) refl (unchosen-place ch code no? left (suc from) (offset + table_size))
    (unchosen-place ch code no? left (suc from) offset)
  where
    go : (b : Bool) → b ≡ chosen ch from
        → place_of (codes_from ch left (suc from)) (offset + table_size) code ≡ Err 15
        → place_of (codes_from ch left (suc from)) offset code ≡ Err 15
        → place_of (cond b (from ∷ codes_from ch left (suc from)) (codes_from ch left (suc from))) offset code
        ≡ Err 15
    go true e r q = let k : from ≡ code → ⊥ = λ z. true-not-false (sym (rw z at e)) no? in rw (ne_eqb from code k) r
    go false e r q = q

later-place : (c code offset o : ℕ) (cs : List ℕ) → eqb c code ≡ false
    → place_of cs (offset + table_size) code ≡ Ok o → place_of (c ∷ cs) offset code ≡ Ok o
unfolding place_of
later-place c code offset o cs e q = rw e q

-- a chosen one is, at an offset
pub chosen-place : (ch : Choice) (code : ℕ) → chosen ch code ≡ true → (left from offset : ℕ) → from ≤ code
    → code < from + left → (o : ℕ) × (place_of (codes_from ch left from) offset code ≡ Ok o)
unfolding codes_from place_of
chosen-place ch code took zero from offset h k = absurd (omega arith)
chosen-place ch code took (suc left) from offset h k =
    go (eqb from code) (chosen ch from) refl refl
    (λ m. chosen-place ch code took left (suc from) (offset + table_size) (omega arith) (omega arith))
    (λ m. chosen-place ch code took left (suc from) offset (omega arith) (omega arith))
  where
    apart : (from ≡ code → ⊥) → from < code
    apart z = lt_of_le_of_ne h z

    go : (a b : Bool) → a ≡ eqb from code → b ≡ chosen ch from
        → (from < code → (o : ℕ) × (place_of (codes_from ch left (suc from)) (offset + table_size) code ≡ Ok o))
        → (from < code → (o : ℕ) × (place_of (codes_from ch left (suc from)) offset code ≡ Ok o))
        → (o : ℕ)
        × (place_of (cond b (from ∷ codes_from ch left (suc from)) (codes_from ch left (suc from))) offset code
        ≡ Ok o)
    go true true ea eb r q = (offset, rw (← ea))
    go true false ea eb r q = let z = eqb-true from code (sym ea) in absurd (true-not-false took (sym (rw z at eb)))
    go false true ea eb r q = let z = eqb-false from code (sym ea) in let x = r (apart z) in
        (x.0, later-place from code offset x.0 (codes_from ch left (suc from)) (sym ea) x.1)
    go false false ea eb r q = let z = eqb-false from code (sym ea) in q (apart z)

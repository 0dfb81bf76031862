-- A set has its codes from its bytes, so it is right for one choice only.
use Rattle.std.specs.Prelude.{◌≡◌, refl, Bool, true, false, ◌||◌, ◌⊎◌, List, [], ◌∷◌, ℕ, zero, suc, ◌+◌, ◌<◌, ◌≤◌, eqb, length}
use Rattle.std.proofs.Common.{sym, ap, ◌∙◌, inl, inr, eq-or-lt_of_le, arith, eq-eqb, ne_eqb}
use Rattle.finite.specs.Pieces.{Lies}
use Rattle.endings.specs.Ending.{table_size}
use Rattle.sets.specs.declared.Choice.{Choice}
use Rattle.sets.specs.Layout.{chosen, codes_from, codes_of, word_at, header_size, entries_of, rising, RightSet}
use Rattle.sets.proofs.laws.Rising.{rising-first, rising-more, rising-bytes}
use Rattle.sets.proofs.laws.WordLaws.{Bytes}
use Rattle.sets.proofs.laws.Right.{code_read, from-rest, entries-lie}

-- ---- the codes that a set's bytes say

-- of so many entries from a place on
unfoldable codes_read : ℕ → List ℕ → ℕ → List ℕ
codes_read zero s at = []
codes_read (suc left) s at = word_at s at ∷ codes_read left s (at + 12)

codes-read : (s cs : List ℕ) (at offset : ℕ) → Bytes cs → Lies s at (entries_of cs offset)
    → codes_read (length cs) s at ≡ cs
unfolding codes_read
codes-read s [] at offset small l = refl
codes-read s (c ∷ cs) at offset small l =
    rw (
      code_read s at offset c cs l (small 0),
      codes-read s cs (at + 12) (offset + table_size) (λ k. small (suc k)) (from-rest s at offset c cs l),
    )

-- entries that lie at one place are of the same codes
pub same_codes : (s cs ds : List ℕ) (at m n : ℕ) → length cs ≡ length ds → Bytes cs → Bytes ds
    → Lies s at (entries_of cs m) → Lies s at (entries_of ds n) → cs ≡ ds
same_codes s cs ds at m n e small little l k =
    sym (codes-read s cs at m small l) ∙ ap (λ (x : ℕ). codes_read x s at) e ∙ codes-read s ds at n little k

-- A SET IS RIGHT FOR ONE LIST OF CODES
pub one-codes : (s cs ds : List ℕ) → RightSet s cs → RightSet s ds → cs ≡ ds
one-codes s cs ds r q =
    let e : length cs ≡ length ds = omega (arith, r.long, q.long) in
    same_codes s cs ds 4 (header_size (length cs)) (header_size (length ds)) e (rising-bytes 0 cs r.rises)
    (rising-bytes 0 ds q.rises) (entries-lie s cs r) (entries-lie s ds q)

-- ---- from codes back to the choice

unfoldable holds : ℕ → List ℕ → Bool
holds code [] = false
holds code (c ∷ cs) = eqb c code || holds code cs

unfoldable choice_of : List ℕ → Choice
choice_of cs = record { queen = holds 0 cs; rook = holds 1 cs; bishop = holds 2 cs; knight = holds 3 cs }

choice-back : (ch : Choice) → choice_of (codes_of ch) ≡ ch
unfolding choice_of holds codes_of codes_from chosen
choice-back ch = go ch.queen ch.rook ch.bishop ch.knight
  where
    made : Bool → Bool → Bool → Bool → Choice
    made q r b k = record { queen = q; rook = r; bishop = b; knight = k }

    go : (q r b k : Bool) → choice_of (codes_of (made q r b k)) ≡ made q r b k
    go true true true true = refl
    go true true true false = refl
    go true true false true = refl
    go true true false false = refl
    go true false true true = refl
    go true false true false = refl
    go true false false true = refl
    go true false false false = refl
    go false true true true = refl
    go false true true false = refl
    go false true false true = refl
    go false true false false = refl
    go false false true true = refl
    go false false true false = refl
    go false false false true = refl
    go false false false false = refl

-- A SET IS RIGHT FOR ONE CHOICE AT MOST
pub one_choice : (s : List ℕ) (a b : Choice) → RightSet s (codes_of a) → RightSet s (codes_of b) → a ≡ b
one_choice s a b r q = sym (choice-back a) ∙ ap choice_of (one-codes s (codes_of a) (codes_of b) r q) ∙ choice-back b

-- ---- and for one at least

holds_not : (least code : ℕ) (cs : List ℕ) → rising least cs ≡ true → code < least → holds code cs ≡ false
unfolding holds
holds_not least code [] r h = refl
holds_not least code (c ∷ cs) r h =
    let f = rising-first least c cs r in
    let no? : c ≡ code → ⊥ = λ e. omega (arith, f.0) in
    rw (ne_eqb c code no?, holds_not (c + 1) code cs f.2 (omega (arith, f.0)))

chosen-holds : (cs : List ℕ) (code : ℕ) → code < 4 → chosen (choice_of cs) code ≡ holds code cs
unfolding chosen choice_of
chosen-holds cs zero h = refl
chosen-holds cs (suc zero) h = refl
chosen-holds cs (suc (suc zero)) h = refl
chosen-holds cs (suc (suc (suc zero))) h = refl
chosen-holds cs (suc (suc (suc (suc n)))) h = absurd (omega arith)

codes-back : (ch : Choice) (left from : ℕ) (cs : List ℕ) → from + left ≡ 4 → rising from cs ≡ true
    → ((code : ℕ) → from ≤ code → code < 4 → chosen ch code ≡ holds code cs) → codes_from ch left from ≡ cs
unfolding codes_from holds rising
codes-back ch zero from [] h r k = refl
codes-back ch zero from (c ∷ cs) h r k = let f = rising-first from c cs r in absurd (omega (arith, f.0, f.1))
codes-back ch (suc left) from [] h r k =
    rw (k from (omega arith) (omega arith))
    (codes-back ch left (suc from) [] (omega arith) refl (λ code l m. k code (omega arith) m))
codes-back ch (suc left) from (c ∷ cs) h r k =
    let f = rising-first from c cs r in
    go (eq-or-lt_of_le f.0)
    (λ e. codes-back ch left (suc from) cs (omega arith) (let z : c + 1 ≡ suc from = omega arith in rw z at f.2)
    (λ code l m. later code e l m))
    (λ l. codes-back ch left (suc from) (c ∷ cs) (omega arith) (rising-more (suc from) c cs l f.1 f.2)
    (λ code l m. k code (omega arith) m))
  where
    later : (code : ℕ) → from ≡ c → suc from ≤ code → code < 4 → chosen ch code ≡ holds code cs
    later code e l m = let no? : c ≡ code → ⊥ = λ q. omega arith in k code (omega arith) m ∙ rw (ne_eqb c code no?)

    go : (from ≡ c) ⊎ (from < c) → (from ≡ c → codes_from ch left (suc from) ≡ cs)
        → (from < c → codes_from ch left (suc from) ≡ c ∷ cs) → codes_from ch (suc left) from ≡ c ∷ cs
    go (inl e) same less =
        let t : chosen ch from ≡ true = k from (omega arith) (omega arith) ∙ rw (eq-eqb c from (sym e)) in
        rw (t, same e, e)
    go (inr l) same less =
        let no? : c ≡ from → ⊥ = λ q. omega arith in
        let t : chosen ch from ≡ false = k from (omega arith) (omega arith)
        ∙ rw (ne_eqb c from no?, holds_not (c + 1) from cs (rising-first from c cs r).2 (omega arith)) in
        rw t (less l)

-- every right set is one for a choice
pub right-choice : (s cs : List ℕ) → RightSet s cs → (ch : Choice) × (codes_of ch ≡ cs)
unfolding codes_of
right-choice s cs r =
    (choice_of cs, codes-back (choice_of cs) 4 0 cs refl r.rises (λ code l m. chosen-holds cs code m))

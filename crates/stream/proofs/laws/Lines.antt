-- The lines of a text are what their definition's name says: no line has a newline in it, and each with its newline they are the text, or the text with the newline that its last line lacks.
use Rattle.std.specs.Prelude.{◌≡◌, refl, Bool, true, false, cond, ◌⊎◌, List, [], ◌∷◌, ◌++◌, ℕ, eqb, length}
use Rattle.std.proofs.Common.{ap, ◌∙◌, inl, inr, arith, length-append, eqb-true}
use Prim.Native.Char.{code}
use Rattle.std.proofs.lemmas.Bool.{eqb-false}
use Rattle.stream.specs.Stream.{begun, lines_of}
use Rattle.stream.specs.Lines.{AllPlain, text_of}

begun-plain : (b : ℕ) (ls : List (List ℕ)) → (b ≡ code "\n" → ⊥) → AllPlain ls → AllPlain (begun b ls)
begun-plain b [] h k = ((h, tt), tt)
begun-plain b (l ∷ ls) h k = ((h, k.0), k.1)

plain-either : (q : Bool) (b : ℕ) (ls : List (List ℕ)) → eqb b (code "\n") ≡ q → AllPlain ls
    → AllPlain (cond q ([] ∷ ls) (begun b ls))
plain-either true b ls e k = (tt, k)
plain-either false b ls e k = begun-plain b ls (eqb-false b (code "\n") e) k

pub lines-plain : (bytes : List ℕ) → AllPlain (lines_of bytes)
unfolding lines_of
lines-plain [] = tt
lines-plain (b ∷ bs) = plain-either (eqb b (code "\n")) b (lines_of bs) refl (lines-plain bs)

-- the text, or the text and a newline
abbrev Made : List ℕ → List ℕ → Type 0
Made bytes made = (made ≡ bytes) ⊎ (made ≡ bytes ++ code "\n" ∷ [])

more-made : (b : ℕ) (bytes made : List ℕ) → Made bytes made → Made (b ∷ bytes) (b ∷ made)
more-made b bytes made (inl e) = inl (ap (λ (x : List ℕ). b ∷ x) e)
more-made b bytes made (inr e) = inr (ap (λ (x : List ℕ). b ∷ x) e)

begun-made : (b : ℕ) (bytes : List ℕ) (ls : List (List ℕ)) → Made bytes (text_of ls)
    → Made (b ∷ bytes) (text_of (begun b ls))
begun-made b bytes [] (inl e) = inr (ap (λ (x : List ℕ). b ∷ x ++ code "\n" ∷ []) e)
begun-made b bytes [] (inr e) = let n = ap length e ∙ length-append bytes (code "\n" ∷ []) in absurd (omega (arith, n))
begun-made b bytes (l ∷ ls) h = more-made b bytes (text_of (l ∷ ls)) h

made-either : (q : Bool) (b : ℕ) (bytes : List ℕ) (ls : List (List ℕ)) → eqb b (code "\n") ≡ q → Made bytes (text_of ls)
    → Made (b ∷ bytes) (text_of (cond q ([] ∷ ls) (begun b ls)))
made-either true b bytes ls e h = rw (eqb-true b (code "\n") e) (more-made (code "\n") bytes (text_of ls) h)
made-either false b bytes ls e h = begun-made b bytes ls h

pub lines-whole : (bytes : List ℕ)
    → (text_of (lines_of bytes) ≡ bytes) ⊎ (text_of (lines_of bytes) ≡ bytes ++ code "\n" ∷ [])
unfolding lines_of
lines-whole [] = inl refl
lines-whole (b ∷ bs) = made-either (eqb b (code "\n")) b bs (lines_of bs) refl (lines-whole bs)

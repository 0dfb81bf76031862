-- Laws of a piece that lies at a place or is written over it.
use Rattle.std.specs.Prelude.{◌≡◌, refl, ℕ, suc, ◌+◌, ◌≤◌, take, set}
use Rattle.std.proofs.Math.Path.{sym, ap}
use Rattle.std.proofs.Common.{◌∙◌, add-one, arith, length-drop, take-append-drop, take_at, drop_at, drop-drop, take-take, length-take-le}
use mathlib.Core.List.{List, [], ◌∷◌, ◌++◌, append_assoc}
use Rattle.std.proofs.Math.ListN.{length, drop, length-append, length-take}
use Rattle.std.proofs.Math.Seq.{drop-append_seam, take-append_seam}
use Rattle.std.proofs.lemmas.List.{take-append-le}
use Rattle.std.proofs.lemmas.List.Edits.{sets-eq}
use Rattle.finite.specs.Pieces.{Lies, over}

-- ---- lying at a place

pub nothing-lies : (s : List ℕ) (at : ℕ) → Lies s at []
unfolding Lies
nothing-lies s at = let z : at + 0 ≡ at = omega arith in rw z

-- two pieces, one after the other
module _ (s : List ℕ) (at : ℕ) (p q : List ℕ) where
  after : Lies s at (p ++ q) → drop (at + length p) s ≡ q ++ drop (at + length (p ++ q)) s
  unfolding Lies
  after e = sym (drop-drop (length p) at s)
      ∙ ap (drop (length p)) (e ∙ append_assoc p q (drop (at + length (p ++ q)) s))
      ∙ drop-append_seam p (q ++ drop (at + length (p ++ q)) s)

  pub lies-left : Lies s at (p ++ q) → Lies s at p
  unfolding Lies
  lies-left e = e ∙ append_assoc p q (drop (at + length (p ++ q)) s) ∙ ap (λ (r : List ℕ). p ++ r) (sym (after e))

  pub lies-right : Lies s at (p ++ q) → Lies s (at + length p) q
  unfolding Lies
  lies-right e =
      let z : at + length (p ++ q) ≡ at + length p + length q = omega (arith, length-append p q) in rw z at (after e)

  pub lies-both : Lies s at p → Lies s (at + length p) q → Lies s at (p ++ q)
  unfolding Lies
  lies-both e f = let z : at + length (p ++ q) ≡ at + length p + length q = omega (arith, length-append p q) in
      rw (z, append_assoc p q (drop (at + length p + length q) s)) (e ∙ ap (λ (r : List ℕ). p ++ r) f)

pub lies-part : (s : List ℕ) (at : ℕ) (p : List ℕ) → Lies s at p → take (length p) (drop at s) ≡ p
unfolding Lies
lies-part s at p e = ap (take (length p)) e ∙ take-append_seam p (drop (at + length p) s)

-- ---- written over a place

over-is : (s : List ℕ) (at : ℕ) (p : List ℕ) → over s at p ≡ take at s ++ (p ++ drop (length p) (drop at s))
unfolding over
over-is s at p = refl

pub over_nothing : (s : List ℕ) (at : ℕ) → over s at [] ≡ s
unfolding over
over_nothing s at = take-append-drop at s

-- what stands before the place stays
pub take-before : (s : List ℕ) (at : ℕ) (p : List ℕ) (k : ℕ) → k ≤ at → at ≤ length s → take k (over s at p) ≡ take k s
unfolding over
take-before s at p k h l =
    take-append-le k (take at s) (p ++ drop (length p) (drop at s)) (rw (length-take-le at s l) h) ∙ take-take k at s h

module _ (s : List ℕ) (at : ℕ) (p : List ℕ) (fits : at + length p ≤ length s) where
  pub length_over : length (over s at p) ≡ length s
  unfolding over
  length_over = simp (length-append, length-take, length-drop) (omega arith)

  head-length : length (take at s ++ p) ≡ at + length p
  head-length = simp (length-append, length-take) (omega arith)

  pub take-over : take (at + length p) (over s at p) ≡ take at s ++ p
  unfolding over
  take-over = rw (← append_assoc (take at s) p (drop (length p) (drop at s)))
      (take_at (take at s ++ p) (drop (length p) (drop at s)) (at + length p) head-length)

  pub drop-over : drop (at + length p) (over s at p) ≡ drop (length p) (drop at s)
  unfolding over
  drop-over = rw (← append_assoc (take at s) p (drop (length p) (drop at s)))
      (drop_at (take at s ++ p) (drop (length p) (drop at s)) (at + length p) head-length)

  -- two pieces, one after the other
  pub over-over : (q : List ℕ) → over (over s at p) (at + length p) q ≡ over s at (p ++ q)
  over-over q = over-is (over s at p) (at + length p) q
      ∙ rw (take-over, drop-over)
      (sym (over-is s at (p ++ q)
      ∙ rw (length-append p q, ← drop-drop (length q) (length p) (drop at s)) (simp append_assoc)))

-- four stores, one after the other
pub over-four : (s : List ℕ) (at a b c d : ℕ) → at + 4 ≤ length s
    → set (set (set (set s at a) (at + 1) b) (at + 2) c) (at + 3) d ≡ over s at (a ∷ b ∷ c ∷ d ∷ [])
unfolding over
over-four s at a b c d h =
    let e₂ : at + 2 ≡ suc (suc at) = omega arith in
    let e₃ : at + 3 ≡ suc (suc (suc at)) = omega arith in
    rw (add-one at, e₂, e₃)
    (sets-eq (a ∷ b ∷ c ∷ d ∷ []) s at h ∙ append_assoc (take at s) (a ∷ b ∷ c ∷ d ∷ []) (drop (at + 4) s)
    ∙ ap (λ (r : List ℕ). take at s ++ ((a ∷ b ∷ c ∷ d ∷ []) ++ r)) (sym (drop-drop 4 at s)))

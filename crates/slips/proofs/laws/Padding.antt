-- A slip that is written from blank holds the bytes written, and zeros after them.
use Rattle.std.specs.Prelude.{◌≡◌, refl, List, [], ◌∷◌, ◌++◌, ℕ, suc, ◌+◌, ◌-◌, ◌≤◌, ◌<◌, length, replicate, take}
use Rattle.std.proofs.Common.{ap, sym, ◌∙◌, append_assoc, arith, lt-ltb, length-append}
use Prim.Native.Char.{code}
use Rattle.std.proofs.Math.Seq.{set-append_seam, take-append_seam}
use Rattle.ascii.specs.Bytes.{bytes}
use Rattle.slips.specs.declared.Slip.{Slip}
use Rattle.slips.specs.Slip.{with_newline, padded}
use Rattle.slips.specs.Appending.{pushed, appended}
use Rattle.slips.proofs.laws.Appending.{appended-more}

one_more : (bs : List ℕ) (b : ℕ) → length (bs ++ b ∷ []) ≡ length bs + 1
one_more bs b = simp length-append

padded-byte : (bs : List ℕ) (b : ℕ) → length bs < 16 → pushed (padded bs) b ≡ padded (bs ++ b ∷ [])
unfolding pushed padded
padded-byte bs b h =
    let left : 16 - length bs ≡ suc (16 - (length bs + 1)) = omega arith in
    rw (
      lt-ltb (length bs) 16 h,
      one_more bs b,
      left,
      set-append_seam bs 0 (replicate (16 - (length bs + 1)) 0) b,
      append_assoc bs (b ∷ []) (replicate (16 - (length bs + 1)) 0),
    )

padded-more : (bs cs : List ℕ) → length bs + length cs ≤ 16 → appended (padded bs) cs ≡ padded (bs ++ cs)
unfolding appended
padded-more bs [] h = ap padded (sym (no_more bs))
  where
    no_more : (xs : List ℕ) → xs ++ [] ≡ xs
    no_more [] = refl
    no_more (x ∷ xs) = ap (λ (l : List ℕ). x ∷ l) (no_more xs)
padded-more bs (c ∷ cs) h =
    ap (λ (s : Slip). appended s cs) (padded-byte bs c (omega arith))
    ∙ padded-more (bs ++ c ∷ []) cs (omega (arith, one_more bs c))
    ∙ ap padded (append_assoc bs (c ∷ []) cs)

-- what is written from blank, where it has room
pub written : (bs : List ℕ) → length bs ≤ 16 → appended (padded []) bs ≡ padded bs
written bs h = padded-more [] bs (omega arith)

-- its line is the bytes written
pub line_of : (bs : List ℕ) → take (padded bs).len (padded bs).bytes ≡ bs
unfolding padded
line_of bs = take-append_seam bs (replicate (16 - length bs) 0)

-- a text written from blank, and its newline
pub finished : (q r : Slip) (text : List ℕ) → q ≡ appended (padded []) text → r ≡ pushed q (code "\n")
    → length (with_newline text) ≤ 16 → r ≡ padded (with_newline text)
unfolding appended
finished q r text e f h = f ∙ ap (λ (s : Slip). pushed s (code "\n")) e ∙ appended-more (padded []) text (bytes "\n")
    ∙ written (with_newline text) h

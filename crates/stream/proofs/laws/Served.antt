-- What is handed out after each part and at the end, by the definitions that the code is equal to: the true slips of the whole text's lines.
use Rattle.std.specs.Prelude.{◌≡◌, refl, Bool, true, false, cond, List, [], ◌∷◌, ◌++◌, ℕ, ◌+◌, ltb, length, set}
use Rattle.std.proofs.Common.{sym, ap, ap₂, subst, ◌∙◌, length-set}
use Rattle.endings.specs.Ending.{table_size}
use Rattle.stream.specs.Stream.{Run, fresh, quiet, took_all, whole_of, handed_out, lines_of, answered_all, AllTrue}
use Rattle.stream.specs.Keeping.{Sheet, sheet, put, put_all, started, emptied, Kept, kept, all_taken, last_answered, served, Fit, Holds}
use Rattle.stream.proofs.laws.Holding.{holds-start, holds-emptied, holds-part, holds-last}
use Rattle.stream.proofs.laws.Written.{part-waits, close-waits, run-lines, run-true, none-held}

-- an output keeps its length
put-long : (s : Sheet) (b : ℕ) → length (put s b).bytes ≡ length s.bytes
unfolding put
put-long s b = go (ltb s.used (length s.bytes))
  where
    go : (q : Bool) → length (cond q (sheet (set s.bytes s.used b) (s.used + 1)) s).bytes ≡ length s.bytes
    go true = length-set s.bytes s.used b
    go false = refl

put-all-long : (s : Sheet) (bs : List ℕ) → length (put_all s bs).bytes ≡ length s.bytes
put-all-long s [] = refl
put-all-long s (b ∷ bs) = put-all-long (put s b) bs ∙ put-long s b

-- Where each part finds room, what is handed out of what holds a run is what the run hands out.
served-run : (k : Kept) (s : Run) (parts : List (List ℕ)) → Holds (sheet k.output 0) k (quiet s)
    → Fit parts (length k.output) → served k parts ≡ handed_out (quiet s) parts
unfolding served handed_out
served-run k s [] w h = close-waits k.output (last_answered k) s (holds-last _ k (quiet s) w) h
served-run k s (part ∷ parts) w h =
    let v = holds-part _ k (quiet s) part w in
    let n = all_taken k part in
    let long : length n.output ≡ length k.output = ap (λ (x : Sheet). length x.bytes) v.out
    ∙ put-all-long _ (took_all (quiet s) part).out in
    ap₂ ◌++◌ (part-waits k.output n s part v h.0)
    (served-run (kept (emptied n.state) n.table n.output) (took_all (quiet s) part) parts
    (holds-emptied _ n (took_all (quiet s) part) v) (subst (Fit parts) (sym long) h.1))

module _ (t o : List ℕ) (parts : List (List ℕ)) where
  -- In whatever parts the input comes, what is handed out is the slips of the whole text's lines, answered one after the other.
  pub served-lines : Fit parts (length o)
      → served (kept started t o) parts ≡ (answered_all 4 t (lines_of (whole_of parts))).slip
  served-lines h = served-run (kept started t o) (fresh 4 t) parts (holds-start t o) h ∙ run-lines 4 t parts

  -- They are the true ones, whatever the table's bytes were.
  pub served-true : length t ≡ table_size → Fit parts (length o)
      → AllTrue (lines_of (whole_of parts)) (served (kept started t o) parts)
  served-true e h =
      subst (AllTrue (lines_of (whole_of parts)))
      (sym (served-run (kept started t o) (fresh 4 t) parts (holds-start t o) h)) (run-true 4 t parts (none-held t e))

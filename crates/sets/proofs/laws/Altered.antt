-- One byte of a right set's header altered: refused 14, but for a code that becomes another between its neighbours.
use Rattle.std.specs.Prelude.{◌≡◌, refl, true, false, List, [], ◌∷◌, ◌++◌, ℕ, zero, suc, ◌+◌, ◌*◌, ◌/◌, ◌%◌, ◌<◌, ◌≤◌, eqb, length, get_or, drop, set, Err}
use Rattle.std.proofs.Common.{sym, ap, ◌∙◌, arith, eqb→eq, length-set, drop_at, get_or-set_same, le-ltb, eq-eqb}
use Rattle.std.proofs.Math.ListN.{get_or-append}
use Rattle.std.proofs.lemmas.List.{set-append_left}
use Rattle.finite.specs.Truth.{same_test, by-test, fails, of-true, true_of}
use Rattle.endings.specs.Ending.{table_size}
use Rattle.sets.specs.Layout.{word4, header_size, entries_of, header_of, rising, RightSet}
use Rattle.sets.specs.Answers.{right_set, find_of}
use Rattle.sets.proofs.laws.Sizes.{length-header}
use Rattle.sets.proofs.laws.WordLaws.{Bytes}
use Rattle.sets.proofs.laws.Rising.{rising-first, rising-bytes, rising-few}
use Rattle.sets.proofs.laws.Right.{right-passes, passes-right, entries-lie, header-lies}
use Rattle.sets.proofs.laws.Codes.{same_codes}

-- ---- bytes, one of them altered

bytes-set : (l : List ℕ) (i b : ℕ) → Bytes l → b < 256 → Bytes (set l i b)
bytes-set [] i b small h k = omega arith
bytes-set (x ∷ xs) zero b small h zero = h
bytes-set (x ∷ xs) zero b small h (suc k) = small (suc k)
bytes-set (x ∷ xs) (suc i) b small h zero = small 0
bytes-set (x ∷ xs) (suc i) b small h (suc k) = bytes-set xs i b (λ n. small (suc n)) h k

-- ---- the headers of equally many codes differ in the codes' first bytes only

high : (c : ℕ) → c < 256 → (c % 256 ≡ c) × (c / 256 % 256 ≡ 0) × (c / 65536 % 256 ≡ 0) × (c / 16777216 % 256 ≡ 0)
high c h = omega arith

-- entry by entry of two lists whose fronts are equally long
agree_after : (p q xs ys : List ℕ) (i : ℕ) → length p ≡ length q → (i < length p → get_or p i 0 ≡ get_or q i 0)
    → ((k : ℕ) → i ≡ length p + k → get_or xs k 0 ≡ get_or ys k 0) → get_or (p ++ xs) i 0 ≡ get_or (q ++ ys) i 0
agree_after [] [] xs ys i e front rest = rest i (omega arith)
agree_after [] (y ∷ q) xs ys i e front rest = absurd (omega arith)
agree_after (x ∷ p) [] xs ys i e front rest = absurd (omega arith)
agree_after (x ∷ p) (y ∷ q) xs ys zero e front rest = front (omega arith)
agree_after (x ∷ p) (y ∷ q) xs ys (suc i) e front rest =
    agree_after p q xs ys i (omega arith) (λ h. front (omega arith)) (λ k z. rest k (omega arith))

after-word : (x y : ℕ) (xs ys : List ℕ) (i : ℕ) → (i < 4 → get_or (word4 x) i 0 ≡ get_or (word4 y) i 0)
    → ((k : ℕ) → i ≡ 4 + k → get_or xs k 0 ≡ get_or ys k 0) → get_or (word4 x ++ xs) i 0 ≡ get_or (word4 y ++ ys) i 0
unfolding word4
after-word x y xs ys i front rest = agree_after (word4 x) (word4 y) xs ys i refl front rest

words-agree : (c d i : ℕ) → c < 256 → d < 256 → (i ≡ 0 → ⊥) → get_or (word4 c) i 0 ≡ get_or (word4 d) i 0
unfolding word4
words-agree c d zero h k no? = absurd (no? refl)
words-agree c d (suc zero) h k no? = (high c h).1 ∙ sym (high d k).1
words-agree c d (suc (suc zero)) h k no? = (high c h).2 ∙ sym (high d k).2
words-agree c d (suc (suc (suc zero))) h k no? = (high c h).3 ∙ sym (high d k).3
words-agree c d (suc (suc (suc (suc i)))) h k no? = refl

entries-agree : (cs ds : List ℕ) (offset i : ℕ) → length cs ≡ length ds → Bytes cs → Bytes ds → (i % 12 ≡ 0 → ⊥)
    → get_or (entries_of cs offset) i 0 ≡ get_or (entries_of ds offset) i 0
unfolding entries_of
entries-agree [] [] offset i e small little no? = refl
entries-agree [] (d ∷ ds) offset i e small little no? = absurd (omega arith)
entries-agree (c ∷ cs) [] offset i e small little no? = absurd (omega arith)
entries-agree (c ∷ cs) (d ∷ ds) offset i e small little no? =
    let later : (n : ℕ) → i ≡ 12 + n
    → get_or (entries_of cs (offset + table_size)) n 0 ≡ get_or (entries_of ds (offset + table_size)) n 0 =
    λ n z. entries-agree cs ds (offset + table_size) n (omega arith) (λ k. small (suc k)) (λ k. little (suc k))
    (λ w. no? (omega arith)) in
    after-word c d _ _ i (λ h. words-agree c d i (small 0) (little 0) (λ w. no? (rw w)))
    (λ m y. after-word offset offset _ _ m (λ h. refl)
    (λ k x. after-word table_size table_size _ _ k (λ h. refl) (λ n w. later n (omega arith))))

headers-agree : (cs ds : List ℕ) (i : ℕ) → length cs ≡ length ds → Bytes cs → Bytes ds → (i % 12 ≡ 4 → ⊥)
    → get_or (header_of cs) i 0 ≡ get_or (header_of ds) i 0
unfolding header_of
headers-agree cs ds i e small little no? =
    after-word (length cs) (length ds) _ _ i (λ h. rw e)
    (λ k z. rw e (entries-agree cs ds (header_size (length ds)) k e small little (λ w. no? (omega arith))))

-- ---- a code altered

entries-set : (cs : List ℕ) (offset j b : ℕ) → Bytes cs → b < 256 → j < length cs
    → set (entries_of cs offset) (12 * j) b ≡ entries_of (set cs j b) offset
unfolding entries_of word4
entries-set [] offset j b small h l = absurd (omega arith)
entries-set (c ∷ cs) offset zero b small h l =
    let x = high c (small 0) in
    let y = high b h in
    rw (x.1, x.2, x.3, y.0, y.1, y.2, y.3)
entries-set (c ∷ cs) offset (suc j) b small h l =
    let z : 12 * suc j ≡ suc (suc (suc (suc (suc (suc (suc (suc (suc (suc (suc (suc (12 * j)))))))))))) = omega arith in
    rw (z, entries-set cs (offset + table_size) j b (λ k. small (suc k)) h (omega arith))

header-set : (cs : List ℕ) (j b : ℕ) → Bytes cs → b < 256 → j < length cs
    → set (header_of cs) (4 + 12 * j) b ≡ header_of (set cs j b)
unfolding header_of word4
header-set cs j b small h l =
    let z : 4 + 12 * j ≡ suc (suc (suc (suc (12 * j)))) = omega arith in
    rw (z, length-set cs j b, entries-set cs (header_size (length cs)) j b small h l)

module _ (s cs : List ℕ) (right : RightSet s cs) (small : Bytes s) where
  few : length cs ≤ 4
  few = omega (arith, rising-few 0 cs (omega arith) right.rises)

  codes-small : Bytes cs
  codes-small = rising-bytes 0 cs right.rises

  -- the header's bytes
  header-byte : (i : ℕ) → i < header_size (length cs) → get_or s i 0 ≡ get_or (header_of cs) i 0
  header-byte i h = ap (λ (l : List ℕ). get_or l i 0) right.header
      ∙ get_or-append (header_of cs) (drop (header_size (length cs)) s) 0 i (omega (arith, length-header cs))

  -- ANY OTHER BYTE OF THE HEADER THAN A CODE'S FIRST, ALTERED, IS REFUSED 14
  pub altered-wrong : (i b : ℕ) → i < header_size (length cs) → b < 256 → (b ≡ get_or s i 0 → ⊥) → (i % 12 ≡ 4 → ⊥)
      → right_set (set s i b) ≡ false
  altered-wrong i b h k other no? =
      fails (right_set (set s i b)) (λ t. go (passes-right (set s i b) (bytes-set s i b small k) (true_of t)))
    where
      go : (ds : List ℕ) × RightSet (set s i b) ds → ⊥
      go (ds, q) =
          let e : length cs ≡ length ds = omega (arith, right.long, q.long, length-set s i b) in
          let a : get_or (set s i b) i 0 ≡ get_or (header_of ds) i 0 = ap (λ (l : List ℕ). get_or l i 0) q.header
          ∙ get_or-append (header_of ds) (drop (header_size (length ds)) (set s i b)) 0 i
          (omega (arith, length-header ds)) in
          other (sym (get_or-set_same s i b 0 (omega (arith, right.long))) ∙ a
          ∙ sym (headers-agree cs ds i e codes-small (rising-bytes 0 ds q.rises) no?) ∙ sym (header-byte i h))

  -- A CODE'S FIRST BYTE ALTERED LEAVES A RIGHT SET EXACTLY WHERE THE CODES STILL RISE
  module _ (j b : ℕ) (h : j < length cs) (k : b < 256) where
    abbrev codes : List ℕ
    codes = set cs j b

    made : set s (4 + 12 * j) b ≡ header_of (set cs j b) ++ drop (header_size (length cs)) s
    made =
        let l : 4 + 12 * j < length (header_of cs) = omega (arith, length-header cs) in
        ap (λ (x : List ℕ). set x (4 + 12 * j) b) right.header
        ∙ set-append_left (header_of cs) (drop (header_size (length cs)) s) (4 + 12 * j) b l
        ∙ ap (λ (x : List ℕ). x ++ drop (header_size (length cs)) s) (header-set cs j b codes-small k h)

    whole : set s (4 + 12 * j) b ≡ header_of (set cs j b) ++ drop (header_size (length (set cs j b))) (set s (4 + 12 * j)
        b)
    whole =
        let n = length-set cs j b in
        let d : drop (header_size (length (set cs j b))) (set s (4 + 12 * j) b) ≡ drop (header_size (length cs)) s =
        rw made (drop_at (header_of (set cs j b)) (drop (header_size (length cs)) s)
        (header_size (length (set cs j b))) (length-header (set cs j b))) in
        rw d made

    still : rising 0 (set cs j b) ≡ true → RightSet (set s (4 + 12 * j) b) (set cs j b)
    still r = record {
      rises = r;
      header = whole;
      long = length-set s (4 + 12 * j) b
          ∙ omega (arith, right.long, length-set cs j b);
    }

    back : right_set (set s (4 + 12 * j) b) ≡ true → rising 0 (set cs j b) ≡ true
    back t = go (passes-right (set s (4 + 12 * j) b) (bytes-set s (4 + 12 * j) b small k) t)
      where
        go : (ds : List ℕ) × RightSet (set s (4 + 12 * j) b) ds → rising 0 (set cs j b) ≡ true
        go (ds, q) =
            let u = set s (4 + 12 * j) b in
            let e : length ds ≡ length (set cs j b) =
            omega (arith, right.long, q.long, length-set s (4 + 12 * j) b, length-set cs j b) in
            let z : ds ≡ set cs j b =
            same_codes u ds (set cs j b) 4 (header_size (length ds)) (header_size (length (set cs j b))) e
            (rising-bytes 0 ds q.rises) (bytes-set cs j b codes-small k) (entries-lie u ds q)
            (header-lies u (set cs j b) whole) in
            ap (rising 0) (sym z) ∙ q.rises

    pub code-altered : right_set (set s (4 + 12 * j) b) ≡ rising 0 (set cs j b)
    code-altered =
        same_test (right_set (set s (4 + 12 * j) b)) (rising 0 (set cs j b)) (λ t. of-true (back (true_of t)))
        (λ t. of-true (right-passes (set s (4 + 12 * j) b) (set cs j b) (still (true_of t))))

  -- so the reader refuses 14
  pub altered-14 : (i b code : ℕ) → i < header_size (length cs) → b < 256 → (b ≡ get_or s i 0 → ⊥) → (i % 12 ≡ 4 → ⊥)
      → code ≤ 3 → find_of (set s i b) code ≡ Err 14
  unfolding find_of
  altered-14 i b code h k other no? known = rw (le-ltb 3 code known, altered-wrong i b h k other no?)

-- ---- with all four endings no code can become another

four-rise : (j b : ℕ) → j < 4 → rising 0 (set (0 ∷ 1 ∷ 2 ∷ 3 ∷ []) j b) ≡ true → b ≡ j
four-rise zero b h r =
    let x = rising-first 0 b (1 ∷ 2 ∷ 3 ∷ []) r in
    omega (arith, (rising-first (b + 1) 1 (2 ∷ 3 ∷ []) x.2).0)
four-rise (suc zero) b h r =
    let x = rising-first 1 b (2 ∷ 3 ∷ []) (rising-first 0 0 (b ∷ 2 ∷ 3 ∷ []) r).2 in
    omega (arith, x.0, (rising-first (b + 1) 2 (3 ∷ []) x.2).0)
four-rise (suc (suc zero)) b h r =
    let x = rising-first 2 b (3 ∷ []) (rising-first 1 1 (b ∷ 3 ∷ []) (rising-first 0 0 (1 ∷ b ∷ 3 ∷ []) r).2).2 in
    omega (arith, x.0, (rising-first (b + 1) 3 [] x.2).0)
four-rise (suc (suc (suc zero))) b h r =
    let x = rising-first 3 b []
    (rising-first 2 2 (b ∷ []) (rising-first 1 1 (2 ∷ b ∷ []) (rising-first 0 0 (1 ∷ 2 ∷ b ∷ []) r).2).2).2 in
    omega (arith, x.0, x.1)
four-rise (suc (suc (suc (suc n)))) b h r = absurd (omega arith)

four-codes : (j : ℕ) → j < 4 → get_or (header_of (0 ∷ 1 ∷ 2 ∷ 3 ∷ [])) (4 + 12 * j) 0 ≡ j
unfolding header_of entries_of word4
four-codes zero h = refl
four-codes (suc zero) h = refl
four-codes (suc (suc zero)) h = refl
four-codes (suc (suc (suc zero))) h = refl
four-codes (suc (suc (suc (suc n)))) h = absurd (omega arith)

-- ANY BYTE OF THE HEADER OF ALL FOUR ENDINGS, ALTERED, IS REFUSED 14
module _ (s : List ℕ) (right : RightSet s (0 ∷ 1 ∷ 2 ∷ 3 ∷ [])) (small : Bytes s) (i b code : ℕ) (h : i < 52)
    (k : b < 256) (other : b ≡ get_or s i 0 → ⊥) (known : code ≤ 3) where
  abbrev all : List ℕ
  all = 0 ∷ 1 ∷ 2 ∷ 3 ∷ []

  code-wrong : i % 12 ≡ 4 → right_set (set s i b) ≡ false
  code-wrong e =
      let z : i ≡ 4 + 12 * (i / 12) = omega arith in
      let l : i / 12 < 4 = omega arith in
      let byte : get_or s i 0 ≡ i / 12 = header-byte s all right small i h ∙ ap (λ (x : ℕ). get_or (header_of all) x 0) z
      ∙ four-codes (i / 12) l in
      let rises : right_set (set s i b) ≡ rising 0 (set all (i / 12) b) = ap (λ (x : ℕ). right_set (set s x b)) z
      ∙ code-altered s all right small (i / 12) b l k in
      fails (right_set (set s i b)) (λ t. other (four-rise (i / 12) b l (sym rises ∙ true_of t) ∙ sym byte))

  four-wrong : right_set (set s i b) ≡ false
  four-wrong =
      by-test (eqb (i % 12) 4) (λ t. code-wrong (eqb→eq (i % 12) 4 t))
      (λ no?. altered-wrong s all right small i b h k other (λ e. no? (of-true (eq-eqb (i % 12) 4 e))))

  pub four-altered-14 : find_of (set s i b) code ≡ Err 14
  unfolding find_of
  four-altered-14 = rw (le-ltb 3 code known, four-wrong)

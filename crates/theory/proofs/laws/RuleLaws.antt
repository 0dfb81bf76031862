-- `required` is what 01's rule says, the rule says one byte, and only the members of the list count, not their order nor how often each
-- stands.
use Rattle.std.specs.Prelude.{◌≡◌, ◌⊎◌, ◌↔◌, Bool, true, false, not, ℕ, ◌+◌, ◌≤◌, ◌<◌, min, max, T, leb}
use Rattle.std.proofs.Math.Path.{refl}
use Rattle.std.proofs.Common.{sym, subst, inl, inr, arith, T_not, leb→le, le→leb}
use mathlib.Core.List.Memᴰ
use mathlib.Core.List.{List, [], ◌∷◌, cons≢nil}
use Rattle.finite.specs.Truth.{decided}
use Rattle.finite.specs.Members.{◌∈◌, nil-or, none_in}
use Rattle.theory.specs.Required.{Win, Loss, Draw, back, better, best, required, Rule}
use Rattle.theory.specs.Required.Rule.{checkmate, wins, loses, draws, stalemate}
use Rattle.theory.proofs.laws.Better.{Kind, kind, back-draw, back_more, better-wins, better-left, better-right, better-draw, better-loss}
use Rattle.theory.proofs.laws.Better.Kind.{win, loss, draw}

-- ---- one more move, where the rule holds of those before

module _ (b : ℕ) (bs : List ℕ) (r : ℕ) where
  -- what holds of the new byte and of the others holds of all
  each : {F : ℕ → Type 0} → F b → ((c : ℕ) → c ∈ bs → F c) → (c : ℕ) → c ∈ b ∷ bs → F c
  each {F} h f c (Memᴰ.head e) = subst F (sym e) h
  each h f c (Memᴰ.tail m) = f c m

  here : b ∈ b ∷ bs
  here = Memᴰ.head refl

  add-draw : Draw b → ¬ (bs ≡ []) → Rule bs r false → Rule (b ∷ bs) (better (back b) r) false
  add-draw d n (wins c m l f e) =
      wins c (Memᴰ.tail m) l (each (λ k. absurd (omega arith)) f)
      (rw (back-draw b d, better-right 1 r (λ v. omega arith) (omega arith)) e)
  add-draw d n (loses c m f e) =
      let k = f c m in
      draws b here d (each (λ k. omega arith) (λ a i l. omega (arith, (f a i).0.1)))
      (rw (back-draw b d, better-draw 1 r (λ v. omega arith) (λ v. omega arith) (inl refl)))
  add-draw d n (draws c m k f e) =
      draws b here d (each (λ k. omega arith) f)
      (rw (back-draw b d, better-draw 1 r (λ v. omega arith) (λ v. omega arith) (inl refl)))
  add-draw d n (stalemate z e) = absurd (n z)

  add-win : Win b → ¬ (bs ≡ []) → Rule bs r false → Rule (b ∷ bs) (better (back b) r) false
  add-win w n (wins c m l f e) =
      wins c (Memᴰ.tail m) l (each (λ k. absurd (omega arith)) f)
      (rw (back_more b (omega arith), better-right (1 + b) r (λ v. omega arith) (omega arith)) e)
  add-win w n (loses c m f e) = go (decided (leb b c))
    where
      k : Win c × (c ≤ c)
      k = f c m

      value : better (back b) r ≡ max (1 + b) r
      value = rw (
        back_more b (omega arith),
        better-loss (1 + b) r (λ v. omega arith) (λ v. omega (arith, k.0.1)) (omega arith) (omega (arith, k.0.0)),
      )

      go : T (leb b c) ⊎ T (not (leb b c)) → Rule (b ∷ bs) (better (back b) r) false
      go (inl t) = let h = leb→le b c t in loses c (Memᴰ.tail m) (each (w, h) f) (rw value (omega arith))
      go (inr t) = let h : ¬ (b ≤ c) = λ l. T_not (leb b c) t (le→leb b c l) in
          loses b here (each (w, omega arith) (λ a i. ((f a i).0, omega (arith, (f a i).1)))) (rw value (omega arith))
  add-win w n (draws c m k f e) =
      draws c (Memᴰ.tail m) k (each (λ k. omega arith) f)
      (rw (back_more b (omega arith), better-draw (1 + b) r (λ v. omega arith) (λ v. omega arith) (inr e)))
  add-win w n (stalemate z e) = absurd (n z)

  add-loss : Loss b → ¬ (bs ≡ []) → Rule bs r false → Rule (b ∷ bs) (better (back b) r) false
  add-loss l n (wins c m k f e) = go (decided (leb b c))
    where
      value : better (back b) r ≡ min (1 + b) r
      value = rw (back_more b (omega arith), better-wins (1 + b) r (omega arith) (omega arith))

      go : T (leb b c) ⊎ T (not (leb b c)) → Rule (b ∷ bs) (better (back b) r) false
      go (inl t) = let h = leb→le b c t in
          wins b here l (each (λ j. omega arith) (λ a i j. omega (arith, f a i j))) (rw value (omega arith))
      go (inr t) = let h : ¬ (b ≤ c) = λ l. T_not (leb b c) t (le→leb b c l) in
          wins c (Memᴰ.tail m) k (each (λ j. omega arith) f) (rw value (omega arith))
  add-loss l n (loses c m f e) = let k = f c m in
      wins b here l (each (λ j. omega arith) (λ a i j. absurd (omega (arith, (f a i).0.1))))
      (rw (back_more b (omega arith), better-left (1 + b) r (omega arith) (λ v. omega arith)))
  add-loss l n (draws c m k f e) =
      wins b here l (each (λ j. omega arith) (λ a i j. absurd (f a i j)))
      (rw (back_more b (omega arith), better-left (1 + b) r (omega arith) (λ v. omega arith)))
  add-loss l n (stalemate z e) = absurd (n z)

  add : Kind b → ¬ (bs ≡ []) → Rule bs r false → Rule (b ∷ bs) (better (back b) r) false
  add (win w) = add-win w
  add (loss l) = add-loss l
  add (draw d) = add-draw d

-- the first move
alone : (b : ℕ) → Kind b → Rule (b ∷ []) (better (back b) 0) false
alone b (win w) =
    loses b (Memᴰ.head refl) (λ c m. let e : c ≡ b = Memᴰ.eq_of_singleton m in (rw e w, omega arith))
    (rw (
      back_more b (omega arith),
      better-loss (1 + b) 0 (λ v. omega arith) (λ v. omega arith) (omega arith) (omega arith),
    ) (omega arith))
alone b (loss l) =
    wins b (Memᴰ.head refl) l (λ c m k. let e : c ≡ b = Memᴰ.eq_of_singleton m in omega arith)
    (rw (back_more b (omega arith), better-left (1 + b) 0 (omega arith) (λ v. omega arith)))
alone b (draw d) =
    draws b (Memᴰ.head refl) d (λ c m k. let e : c ≡ b = Memᴰ.eq_of_singleton m in omega arith)
    (rw (back-draw b d, better-draw 1 0 (λ v. omega arith) (λ v. omega arith) (inl refl)))

-- ---- only the members count

abbrev pub SameMembers : List ℕ → List ℕ → Type 0
SameMembers l bs = (c : ℕ) → (c ∈ l) ↔ (c ∈ bs)

rule-same : {l bs : List ℕ} {r : ℕ} {mate : Bool} → SameMembers l bs → Rule l r mate → Rule bs r mate
rule-same s (checkmate e) = checkmate e
rule-same s (wins b m l f e) = wins b ((s b).0 m) l (λ c n. f c ((s c).1 n)) e
rule-same s (loses b m f e) = loses b ((s b).0 m) (λ c n. f c ((s c).1 n)) e
rule-same s (draws b m d f e) = draws b ((s b).0 m) d (λ c n. f c ((s c).1 n)) e
rule-same {l} {bs} {r} s (stalemate z e) = go (nil-or bs)
  where
    go : (bs ≡ []) ⊎ ((x : ℕ) × (x ∈ bs)) → Rule bs r false
    go (inl y) = stalemate y e
    go (inr x) = absurd (none_in z ((s x.0).1 x.1))

-- ---- `best`, a move at a time: `seen` are the bytes already passed, the last first

passed : List ℕ → List ℕ → List ℕ
passed seen [] = seen
passed seen (b ∷ bs) = passed (b ∷ seen) bs

passed-in : (seen bs : List ℕ) (c : ℕ) → (c ∈ passed seen bs) ↔ ((c ∈ seen) ⊎ (c ∈ bs))
unfolding passed
passed-in seen [] c = (λ m. inl m, λ o. go o)
  where
    go : (c ∈ seen) ⊎ (c ∈ []) → c ∈ seen
    go (inl m) = m
    go (inr m) = elim m [ ]
passed-in seen (b ∷ bs) c = (λ m. there ((passed-in (b ∷ seen) bs c).0 m), λ o. (passed-in (b ∷ seen) bs c).1 (here-or o))
  where
    there : (c ∈ b ∷ seen) ⊎ (c ∈ bs) → (c ∈ seen) ⊎ (c ∈ b ∷ bs)
    there (inl (Memᴰ.head e)) = inr (Memᴰ.head e)
    there (inl (Memᴰ.tail m)) = inl m
    there (inr m) = inr (Memᴰ.tail m)

    here-or : (c ∈ seen) ⊎ (c ∈ b ∷ bs) → (c ∈ b ∷ seen) ⊎ (c ∈ bs)
    here-or (inl m) = inl (Memᴰ.tail m)
    here-or (inr (Memᴰ.head e)) = inl (Memᴰ.head e)
    here-or (inr (Memᴰ.tail m)) = inr m

passed-all : (bs : List ℕ) → SameMembers (passed [] bs) bs
passed-all bs c = (λ m. go ((passed-in [] bs c).0 m), λ m. (passed-in [] bs c).1 (inr m))
  where
    go : (c ∈ []) ⊎ (c ∈ bs) → c ∈ bs
    go (inl m) = elim m [ ]
    go (inr m) = m

best-passed : (a : ℕ) (seen bs : List ℕ) (top : ℕ) → Rule (a ∷ seen) top false
    → Rule (passed (a ∷ seen) bs) (best top bs) false
unfolding best passed
best-passed a seen [] top r = r
best-passed a seen (b ∷ bs) top r =
    best-passed b (a ∷ seen) bs (better (back b) top) (add b (a ∷ seen) top (kind b) (λ e. cons≢nil e) r)

best-rule : (b : ℕ) (bs : List ℕ) → Rule (b ∷ bs) (best 0 (b ∷ bs)) false
best-rule b bs =
    rule-same (passed-all (b ∷ bs)) (unfold best passed in best-passed b [] bs (better (back b) 0) (alone b (kind b)))

-- ---- the rule and the byte required

rule-pos : {bs : List ℕ} {r : ℕ} {mate : Bool} → Rule bs r mate → 1 ≤ r
rule-pos (checkmate e) = omega arith
rule-pos (wins b m l f e) = omega arith
rule-pos (loses b m f e) = omega arith
rule-pos (draws b m d f e) = omega arith
rule-pos (stalemate z e) = omega arith

-- The byte required is what 01's rule says.
pub required-rule : (mate : Bool) (bs : List ℕ) → Rule bs (required mate bs) mate
unfolding required
required-rule true bs = checkmate refl
required-rule false [] = unfold best in stalemate refl refl
required-rule false (b ∷ bs) = let h = rule-pos (best-rule b bs) in let e : max 1 (best 0 (b ∷ bs)) ≡ best 0 (b ∷ bs) =
    omega arith in rw e (best-rule b bs)

-- The rule says one byte.
pub rule-one : {bs : List ℕ} {r s : ℕ} {mate : Bool} → Rule bs r mate → Rule bs s mate → r ≡ s
rule-one (checkmate e) (checkmate d) = omega arith
rule-one (wins b m l f e) (wins c n k g d) = omega (arith, f c n k, g b m l)
rule-one (wins b m l f e) (loses c n g d) = absurd (omega (arith, (g b m).0.1))
rule-one (wins b m l f e) (draws c n k g d) = absurd (g b m l)
rule-one (wins b m l f e) (stalemate z d) = absurd (none_in z m)
rule-one (loses b m f e) (wins c n k g d) = absurd (omega (arith, (f c n).0.1))
rule-one (loses b m f e) (loses c n g d) = omega (arith, (f c n).1, (g b m).1)
rule-one (loses b m f e) (draws c n k g d) = absurd (omega (arith, (f c n).0.0))
rule-one (loses b m f e) (stalemate z d) = absurd (none_in z m)
rule-one (draws b m k f e) (wins c n l g d) = absurd (f c n l)
rule-one (draws b m k f e) (loses c n g d) = absurd (omega (arith, (g b m).0.0))
rule-one (draws b m k f e) (draws c n l g d) = omega arith
rule-one (draws b m k f e) (stalemate z d) = omega arith
rule-one (stalemate z e) (wins c n k g d) = absurd (none_in z n)
rule-one (stalemate z e) (loses c n g d) = absurd (none_in z n)
rule-one (stalemate z e) (draws c n k g d) = omega arith
rule-one (stalemate z e) (stalemate y d) = omega arith

-- So the rule and the function are one.
pub required-is : (mate : Bool) (bs : List ℕ) (r : ℕ) → Rule bs r mate ↔ (r ≡ required mate bs)
required-is mate bs r = (λ h. rule-one h (required-rule mate bs), λ e. rw e (required-rule mate bs))

pub required-pos : (mate : Bool) (bs : List ℕ) → 1 ≤ required mate bs
required-pos mate bs = rule-pos (required-rule mate bs)

-- Only the members count.
pub required-same : (mate : Bool) (l bs : List ℕ) → SameMembers l bs → required mate l ≡ required mate bs
required-same mate l bs s = rule-one (rule-same s (required-rule mate l)) (required-rule mate bs)

-- a byte above 2 is required only where a successor holds the byte before it
pub byte-before : {bs : List ℕ} {r : ℕ} {mate : Bool} → Rule bs r mate → 2 < r → (b : ℕ) × (b ∈ bs) × (r ≡ 1 + b)
byte-before (checkmate e) h = absurd (omega arith)
byte-before (wins b m l f e) h = (b, m, e)
byte-before (loses b m f e) h = (b, m, e)
byte-before (draws b m d f e) h = absurd (omega arith)
byte-before (stalemate z e) h = absurd (omega arith)

-- The least key leads to the normal board: with the kings before the men, the lesser of a key and the same with file
-- and rank exchanged has the kings by the rule and the men as they prefer.
use Rattle.std.specs.Prelude.{◌≡◌, ◌⊎◌, Bool, ◌&&◌, ◌||◌, ℕ, ◌+◌, ◌*◌, ◌/◌, ◌%◌, ◌<◌, ◌≤◌}
use Rattle.std.proofs.Math.Path.{refl, sym}
use Rattle.std.proofs.Common.{ap, ap₂, ◌∙◌, inl, inr, ⊎_elim, lt-ltb, le-ltb, eq-eqb, ne_eqb}
use Rattle.std.proofs.Math.Bool.{true, false, cond}
use native.Mathlib.Omega.{arith}
use Rattle.std.specs.Int.Bits.{bit_and}
use Rattle.std.proofs.lemmas.Nat.{and_block, and_mask}
use Rattle.std.proofs.Math.Dec.{ltb}
use Rattle.finite.specs.Truth.{le-or-lt, cond-true}
use Rattle.symmetry.specs.Symmetry.{mapped, exchange}
use Rattle.symmetry.proofs.laws.SymmetryLaws.{mapped-on, mapped-off}
use Rattle.rules.specs.Changed.{keeping}
use Rattle.pawn_numbers.specs.Places.{flip_bits}
use Rattle.pawn_numbers.proofs.laws.PlaceLaws.{bits-turn}
use Rattle.numbering.specs.Kings.{above, on_diagonal}
use Rattle.numbering.specs.Normal.{turn, swaps_kings}
use Rattle.numbering.specs.KingMaps.{swapping}
use Rattle.numbering.proofs.laws.NormalLaws.{stays-diagonal}
use Rattle.index.specs.Least.{flip_of, flipped, packed, transposed_key, rising_key, least_of}
use Rattle.index.specs.Least.{men_digits}

-- ---- the reversals, by bits

flips : (files ranks : Bool) (s : ℕ) → flipped (flip_bits files ranks) s ≡ mapped (keeping files ranks) s
unfolding flipped
flips files ranks s =
    ⊎_elim (λ h. rw (le-ltb s 64 h) (sym (mapped-off (keeping files ranks) s h)))
    (λ h. rw (lt-ltb s 64 h) (bits-turn files ranks s h)) (le-or-lt 64 s)

pub flip-turns : (white s : ℕ) → flipped (flip_of white) s ≡ mapped (turn white) s
unfolding flip_of turn
flip-turns white s = flips (ltb 3 (white % 8)) (ltb 3 (white / 8)) s

-- ---- the squares of a key

module _ (w b x y : ℕ) (hw : w < 64) (hb : b < 64) (hx : x < 64) (hy : y < 64) where
  pub packed-white : packed w b x y / 262144 % 64 ≡ w
  unfolding packed
  packed-white = omega arith

  pub packed-black : packed w b x y / 4096 % 64 ≡ b
  unfolding packed
  packed-black = omega arith

  pub packed-first : packed w b x y / 64 % 64 ≡ x
  unfolding packed
  packed-first = omega arith

  pub packed-second : packed w b x y % 64 ≡ y
  unfolding packed
  packed-second = omega arith

  packed-kings : packed w b x y / 4096 * 4096 ≡ (w * 64 + b) * 4096
  unfolding packed
  packed-kings = omega arith

-- ---- file and rank exchanged

transposed-is : (s : ℕ) → s < 64 → mapped exchange s ≡ s % 8 * 8 + s / 8
unfolding mapped
transposed-is s h = cond-true (ltb s 64) (s % 8 * 8 + s / 8) s (rw (lt-ltb s 64 h) tt)

-- the files, cut out digit by digit
files : (w b x y : ℕ) → w < 64 → b < 64 → x < 64 → y < 64
    → bit_and (packed w b x y) 1864135 ≡ packed (w % 8) (b % 8) (x % 8) (y % 8)
unfolding packed
files w b x y hw hb hx hy =
    and_block 6 ((w * 64 + b) * 64 + x) 29127 y 7 hy (omega arith)
    ∙ ap₂ (λ (p q : ℕ). p * 64 + q)
    (and_block 6 (w * 64 + b) 455 x 7 hx (omega arith)
    ∙ ap₂ (λ (p q : ℕ). p * 64 + q)
    (and_block 6 w 7 b 7 hb (omega arith)
    ∙ ap₂ (λ (p q : ℕ). p * 64 + q) (and_mask w 3) (and_mask b 3)) (and_mask x 3)) (and_mask y 3)

eighth : (w b x y : ℕ)
    → packed w b x y / 8 ≡ packed (w / 8) (w % 8 * 8 + b / 8) (b % 8 * 8 + x / 8) (x % 8 * 8 + y / 8)
unfolding packed
eighth w b x y = omega arith

low_digit : (a b : ℕ) → b < 64 → (a % 8 * 8 + b / 8) % 8 ≡ b / 8
low_digit a b h = omega arith

low-high : (a b : ℕ) → b < 64 → a % 8 * 8 + b / 8 < 64
low-high a b h = omega arith

top_digit : (a : ℕ) → a < 64 → a / 8 % 8 ≡ a / 8
top_digit a h = omega arith

joined : (a b c d e f g h : ℕ)
    → packed a b c d + packed e f g h * 8 ≡ packed (e * 8 + a) (f * 8 + b) (g * 8 + c) (h * 8 + d)
unfolding packed
joined a b c d e f g h = omega arith

pub transposed-packed : (w b x y : ℕ) → w < 64 → b < 64 → x < 64 → y < 64
    → transposed_key (packed w b x y)
    ≡ packed (mapped exchange w) (mapped exchange b) (mapped exchange x) (mapped exchange y)
unfolding transposed_key
transposed-packed w b x y hw hb hx hy =
    let ranks : bit_and (packed w b x y / 8) 1864135 ≡ packed (w / 8) (b / 8) (x / 8) (y / 8) =
    ap (λ (n : ℕ). bit_and n 1864135) (eighth w b x y)
    ∙ files (w / 8) (w % 8 * 8 + b / 8) (b % 8 * 8 + x / 8) (x % 8 * 8 + y / 8) (omega arith) (low-high w b hb)
    (low-high b x hx) (low-high x y hy)
    ∙ rw (top_digit w hw, low_digit w b hb, low_digit b x hx, low_digit x y hy) in
    rw (transposed-is w hw, transposed-is b hb, transposed-is x hx, transposed-is y hy)
    (ap₂ (λ (p q : ℕ). p + q * 8) ranks (files w b x y hw hb hx hy)
    ∙ joined (w / 8) (b / 8) (x / 8) (y / 8) (w % 8) (b % 8) (x % 8) (y % 8))

-- ---- like men, the lower square first

abbrev pub in_order : Bool → ℕ → ℕ → ℕ → ℕ → ℕ
in_order like w b x y = cond (ltb y x && like) (packed w b y x) (packed w b x y)

module _ (like : Bool) (w b x y : ℕ) (hw : w < 64) (hb : b < 64) (hx : x < 64) (hy : y < 64) where
  pub rising-packed : rising_key like (packed w b x y) ≡ in_order like w b x y
  unfolding rising_key
  rising-packed =
      rw (
        packed-second w b x y hw hb hx hy,
        packed-first w b x y hw hb hx hy,
        packed-kings w b x y hw hb hx hy,
      )
      (ap (λ (n : ℕ). cond (ltb y x && like) n (packed w b x y)) turned)
    where
      turned : (w * 64 + b) * 4096 + (y * 64 + x) ≡ packed w b y x
      turned = unfold packed in omega arith

  order-digits : in_order like w b x y ≡ (w * 64 + b) * 4096 + men_digits like x y
  unfolding packed
  order-digits = go (ltb y x && like)
    where
      go : (e : Bool) → cond e (packed w b y x) (packed w b x y) ≡ (w * 64 + b) * 4096 + cond e (y * 64 + x)
          (x * 64 + y)
      go true = omega arith
      go false = omega arith

  digits_lt : men_digits like x y < 4096
  digits_lt = go (ltb y x && like)
    where
      go : (e : Bool) → cond e (y * 64 + x) (x * 64 + y) < 4096
      go true = omega arith
      go false = omega arith

-- ---- which of the two keys is less

-- a square is above the diagonal, on it or below, and so goes to t
abbrev Way : ℕ → ℕ → Type 0
Way t s = ((above s ≡ true) × (t < s))
    ⊎ (((above s ≡ false) × (on_diagonal s ≡ true) × (t ≡ s))
    ⊎ ((above s ≡ false) × (on_diagonal s ≡ false) × (s < t)))

way : (s : ℕ) → s < 64 → Way (mapped exchange s) s
way s h = go (mapped exchange s) (transposed-is s h) (le-or-lt (s / 8) (s % 8)) (le-or-lt (s % 8) (s / 8))
  where
    go : (t : ℕ) → t ≡ s % 8 * 8 + s / 8 → (s / 8 ≤ s % 8) ⊎ (s % 8 < s / 8) → (s % 8 ≤ s / 8) ⊎ (s / 8 < s % 8)
        → Way t s
    go t e (inr k) j = inl (lt-ltb (s % 8) (s / 8) k, omega arith)
    go t e (inl k) (inl j) =
        inr (inl (le-ltb (s % 8) (s / 8) k, eq-eqb (s % 8) (s / 8) (omega arith), omega arith))
    go t e (inl k) (inr j) =
        inr (inr (le-ltb (s % 8) (s / 8) k, ne_eqb (s % 8) (s / 8) (λ z. absurd (omega (arith, z))), omega arith))

module _ (w b : ℕ) (hw : w < 64) (hb : b < 64) where
  by-keys : (n k : ℕ) → n < 4096 → k < 4096
      → ltb ((mapped exchange w * 64 + mapped exchange b) * 4096 + k) ((w * 64 + b) * 4096 + n)
      ≡ swaps_kings w b (ltb k n)
  unfolding swaps_kings
  by-keys n k hn hk =
      go (mapped exchange w) (mapped exchange b) (mapped-on exchange w hw) (mapped-on exchange b hb) (way w hw)
      (way b hb)
      (le-or-lt n k)
    where
      go : (v c : ℕ) → v < 64 → c < 64 → Way v w → Way c b → (n ≤ k) ⊎ (k < n)
          → ltb ((v * 64 + c) * 4096 + k) ((w * 64 + b) * 4096 + n)
          ≡ (above w || (on_diagonal w && (above b || (on_diagonal b && ltb k n))))
      go v c tw tb (inl p) q r =
          rw p.0 (lt-ltb ((v * 64 + c) * 4096 + k) ((w * 64 + b) * 4096 + n) (omega (arith, p.1)))
      go v c tw tb (inr (inr p)) q r =
          rw (p.0, p.1) (le-ltb ((v * 64 + c) * 4096 + k) ((w * 64 + b) * 4096 + n) (omega (arith, p.2)))
      go v c tw tb (inr (inl p)) (inl q) r =
          rw (p.0, p.1, q.0)
          (lt-ltb ((v * 64 + c) * 4096 + k) ((w * 64 + b) * 4096 + n) (omega (arith, p.2, q.1)))
      go v c tw tb (inr (inl p)) (inr (inr q)) r =
          rw (p.0, p.1, q.0, q.1)
          (le-ltb ((v * 64 + c) * 4096 + k) ((w * 64 + b) * 4096 + n) (omega (arith, p.2, q.2)))
      go v c tw tb (inr (inl p)) (inr (inl q)) (inl r) =
          rw (p.0, p.1, q.0, q.1)
          (le-ltb ((v * 64 + c) * 4096 + k) ((w * 64 + b) * 4096 + n) (omega (arith, p.2, q.2)) ∙ sym (le-ltb k n r))
      go v c tw tb (inr (inl p)) (inr (inl q)) (inr r) =
          rw (p.0, p.1, q.0, q.1)
          (lt-ltb ((v * 64 + c) * 4096 + k) ((w * 64 + b) * 4096 + n) (omega (arith, p.2, q.2)) ∙ sym (lt-ltb k n r))

-- ---- the least key of four squares that the reversals have brought home

-- whether file and rank are exchanged
abbrev pub swaps_four : Bool → ℕ → ℕ → ℕ → ℕ → Bool
swaps_four like w b x y =
    swaps_kings w b (ltb (men_digits like (mapped exchange x) (mapped exchange y)) (men_digits like x y))

module _ (like : Bool) (w b x y : ℕ) (hw : w < 64) (hb : b < 64) (hx : x < 64) (hy : y < 64) where
  key-swaps : ltb (in_order like (mapped exchange w) (mapped exchange b) (mapped exchange x) (mapped exchange y))
      (in_order like w b x y) ≡ swaps_four like w b x y
  key-swaps =
      let v = mapped exchange w in
      let c = mapped exchange b in
      let p = mapped exchange x in
      let q = mapped exchange y in
      let hv = mapped-on exchange w hw in
      let hc = mapped-on exchange b hb in
      let hp = mapped-on exchange x hx in
      let hq = mapped-on exchange y hy in
      ap₂ ltb (order-digits like v c p q hv hc hp hq) (order-digits like w b x y hw hb hx hy)
      ∙ by-keys w b hw hb (men_digits like x y) (men_digits like p q) (digits_lt like w b x y hw hb hx hy)
      (digits_lt like v c p q hv hc hp hq)

  pub transposed-less : ltb (rising_key like (transposed_key (packed w b x y))) (rising_key like (packed w b x y))
      ≡ swaps_four like w b x y
  transposed-less =
      ap₂ ltb
      (ap (rising_key like) (transposed-packed w b x y hw hb hx hy)
      ∙ rising-packed like (mapped exchange w) (mapped exchange b) (mapped exchange x) (mapped exchange y)
      (mapped-on exchange w hw) (mapped-on exchange b hb) (mapped-on exchange x hx) (mapped-on exchange y hy))
      (rising-packed like w b x y hw hb hx hy)
      ∙ key-swaps

  pub least-packed : (let e = swapping (swaps_four like w b x y) in least_of like (packed w b x y)
      ≡ in_order like (mapped e w) (mapped e b) (mapped e x) (mapped e y))
  unfolding least_of
  least-packed =
      rw (
        transposed-packed w b x y hw hb hx hy,
        rising-packed like w b x y hw hb hx hy,
        rising-packed like (mapped exchange w) (mapped exchange b) (mapped exchange x) (mapped exchange y)
            (mapped-on exchange w hw) (mapped-on exchange b hb) (mapped-on exchange x hx) (mapped-on exchange y hy),
        key-swaps,
      )
      (go (swaps_four like w b x y))
    where
      as_is : (s : ℕ) → mapped (swapping false) s ≡ s
      as_is s = stays-diagonal false s (λ t. absurd t)

      go : (e : Bool)
          → cond e (in_order like (mapped exchange w) (mapped exchange b) (mapped exchange x) (mapped exchange y))
          (in_order like w b x y)
          ≡ in_order like (mapped (swapping e) w) (mapped (swapping e) b) (mapped (swapping e) x) (mapped (swapping e) y)
      go true = refl
      go false = rw (as_is w, as_is b, as_is x, as_is y)

-- ---- as code finds it: unlike men stay in their order

pub rising-unlike : (like : Bool) (n : ℕ) → like ≡ false → n ≡ rising_key like n
rising-unlike like n e = ap (λ (l : Bool). n) e ∙ sym (rw e (unfold rising_key in go (ltb (n % 64) (n / 64 % 64))))
  where
    go : (p : Bool) → cond (p && false) (n / 4096 * 4096 + (n % 64 * 64 + n / 64 % 64)) n ≡ n
    go true = refl
    go false = refl

module _ (like : Bool) (k t : ℕ) (e : t ≡ transposed_key k) where
  pub least-like : like ≡ true → (let r = rising_key true t in let s = rising_key true k in cond (ltb r s) r s) ≡ least_of like k
  unfolding least_of
  least-like l = sym (rw (← e, l))

  pub least-unlike : like ≡ false → cond (ltb t k) t k ≡ least_of like k
  unfolding least_of
  least-unlike l = sym (rw (← e, ← rising-unlike like k l, ← rising-unlike like t l))

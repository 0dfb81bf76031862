-- Numbers of four bytes: what lies at a place is read there, and back.
use Rattle.std.specs.Prelude.{◌≡◌, List, ◌∷◌, ℕ, suc, ◌+◌, ◌*◌, ◌/◌, ◌%◌, ◌<◌, ◌≤◌, length, get_or, drop}
use Rattle.std.proofs.Common.{sym, ap, ◌∙◌, add-zero, arith, drop-cons, get_or-drop}
use Rattle.std.proofs.Math.Nat.{div-div-eq-div-mul}
use Rattle.finite.specs.Pieces.{Lies}
use Rattle.sets.specs.Layout.{word4, word_at}

-- a number's four bytes
joined : (x y z w a b c d : ℕ) → x ≡ 256 * y + a → y ≡ 256 * z + b → z ≡ 256 * w + c → w ≡ d
    → a + 256 * b + 65536 * c + 16777216 * d ≡ x
joined x y z w a b c d ex ey ez ew = omega arith

split : (x : ℕ) → x ≡ 256 * (x / 256) + x % 256
split x = omega arith

last : (w : ℕ) → w < 256 → w ≡ w % 256
last w h = omega arith

top : (x y z w a b c : ℕ) → x ≡ 256 * y + a → y ≡ 256 * z + b → z ≡ 256 * w + c → x < 4294967296 → w < 256
top x y z w a b c ex ey ez h = omega arith

digits : (x : ℕ) → x < 4294967296
    → x % 256 + 256 * (x / 256 % 256) + 65536 * (x / 65536 % 256) + 16777216 * (x / 16777216 % 256) ≡ x
digits x h =
    let e₂ : x / 65536 ≡ x / 256 / 256 = sym (div-div-eq-div-mul x 256 256) in
    let e₃ : x / 16777216 ≡ x / 256 / 256 / 256 = sym (div-div-eq-div-mul x 65536 256) ∙ ap (λ (y : ℕ). y / 256) e₂ in
    let y = x / 256 in
    let z = y / 256 in
    let w = z / 256 in
    rw (e₂, e₃) (joined x y z w (x % 256) (y % 256) (z % 256) (w % 256) (split x) (split y) (split z)
    (last w (top x y z w (x % 256) (y % 256) (z % 256) (split x) (split y) (split z) h)))

-- a number that lies at a place is read there
pub word_read : (s : List ℕ) (at x : ℕ) → x < 4294967296 → Lies s at (word4 x) → word_at s at ≡ x
unfolding Lies word4 word_at
word_read s at x h e =
    let g₀ : get_or s at 0 ≡ x % 256 = ap (λ (n : ℕ). get_or s n 0) (sym (add-zero at)) ∙ sym (get_or-drop at s 0 0)
    ∙ ap (λ (l : List ℕ). get_or l 0 0) e in
    let g₁ : get_or s (at + 1) 0 ≡ x / 256 % 256 = sym (get_or-drop at s 1 0) ∙ ap (λ (l : List ℕ). get_or l 1 0) e in
    let g₂ : get_or s (at + 2) 0 ≡ x / 65536 % 256 = sym (get_or-drop at s 2 0) ∙ ap (λ (l : List ℕ). get_or l 2 0) e in
    let g₃ : get_or s (at + 3) 0 ≡ x / 16777216 % 256 = sym (get_or-drop at s 3 0) ∙ ap (λ (l : List ℕ). get_or l 3 0) e in
    rw (g₀, g₁, g₂, g₃) (digits x h)

-- of bytes, the number read at a place lies there
abbrev pub Bytes : List ℕ → Type 0
Bytes s = (i : ℕ) → get_or s i 0 < 256

pub word-lies : (s : List ℕ) (at : ℕ) → Bytes s → at + 4 ≤ length s → Lies s at (word4 (word_at s at))
unfolding Lies word4 word_at
word-lies s at small h =
    let a = get_or s at 0 in
    let b = get_or s (at + 1) 0 in
    let c = get_or s (at + 2) 0 in
    let d = get_or s (at + 3) 0 in
    let ha = small at in
    let hb = small (at + 1) in
    let hc = small (at + 2) in
    let hd = small (at + 3) in
    let x = a + 256 * b + 65536 * c + 16777216 * d in
    let e₁ : suc at ≡ at + 1 = omega arith in
    let e₂ : suc (at + 1) ≡ at + 2 = omega arith in
    let e₃ : suc (at + 2) ≡ at + 3 = omega arith in
    let e₄ : suc (at + 3) ≡ at + 4 = omega arith in
    let d₀ : drop at s ≡ a ∷ drop (at + 1) s = rw e₁ at (drop-cons s at 0 (omega arith)) in
    let d₁ : drop (at + 1) s ≡ b ∷ drop (at + 2) s = rw e₂ at (drop-cons s (at + 1) 0 (omega arith)) in
    let d₂ : drop (at + 2) s ≡ c ∷ drop (at + 3) s = rw e₃ at (drop-cons s (at + 2) 0 (omega arith)) in
    let d₃ : drop (at + 3) s ≡ d ∷ drop (at + 4) s = rw e₄ at (drop-cons s (at + 3) 0 (omega arith)) in
    let k = digits a b c d ha hb hc hd in
    d₀ ∙ ap (λ (l : List ℕ). a ∷ l) (d₁ ∙ ap (λ (l : List ℕ). b ∷ l) (d₂ ∙ ap (λ (l : List ℕ). c ∷ l) d₃))
    ∙ sym (rw (k.0, k.1, k.2, k.3))
  where
    digits : (a b c d : ℕ) → a < 256 → b < 256 → c < 256 → d < 256
        → ((a + 256 * b + 65536 * c + 16777216 * d) % 256 ≡ a)
        × ((a + 256 * b + 65536 * c + 16777216 * d) / 256 % 256 ≡ b)
        × ((a + 256 * b + 65536 * c + 16777216 * d) / 65536 % 256 ≡ c)
        × ((a + 256 * b + 65536 * c + 16777216 * d) / 16777216 % 256 ≡ d)
    digits a b c d ha hb hc hd = omega arith

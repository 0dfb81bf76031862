-- One flip makes a board with a pawn normal, and no other; normal boards with one key are one.
use Rattle.std.specs.Prelude.{◌≡◌, refl, Bool, true, false, cond, ◌&&◌, ◌↔◌, [], ◌∷◌, ℕ, zero, suc, ◌+◌, ◌-◌, ◌*◌, ◌/◌, ◌%◌, ◌<◌, eqb}
use Rattle.std.proofs.Math.Path.{ap, subst, subst⁻¹}
use Rattle.std.proofs.Common.{ap₂, sym, ◌∙◌, arith}
use Rattle.std.proofs.Math.Dec.{T, ltb, eqb→eq, ltb→lt}
use borrow.Author.Tests.{lt-ltb, le-ltb, eq-eqb, ltb-true, ltb-false}
use Rattle.finite.specs.Truth.{and_left, and_right}
use Rattle.symmetry.specs.Symmetry.{mapped}
use Rattle.rules.specs.declared.Piece.{Piece}
use Rattle.rules.specs.Rules.{Board, piece_of}
use Rattle.rules.specs.Changed.{other, swapped}
use Rattle.rules.proofs.laws.Changed.{board-eq}
use Rattle.rules.specs.Changed.{keeping}
use Rattle.pawn_numbers.specs.PawnNumber.{Flip, flip, flipped, lone, normal_pawn, slot_of, pawn_key, pawn_flip, pawn_number, pawn_size, HasPawn}
use Rattle.pawn_numbers.proofs.laws.FlipLaws.{has-flipped}

file-kept : (f x : Bool) (s : ℕ) → s < 64 → mapped (keeping f x) s % 8 ≡ cond f (7 - s % 8) (s % 8)
unfolding mapped
file-kept true true s h = rw (lt-ltb s 64 h) (omega arith)
file-kept true false s h = rw (lt-ltb s 64 h) (omega arith)
file-kept false true s h = rw (lt-ltb s 64 h) (omega arith)
file-kept false false s h = rw (lt-ltb s 64 h) (omega arith)

-- of the two colours one flip makes White, of the files one flip makes a to d
pub white-by : (x : Bool) (c : ℕ) → c < 2 → (swapped x c ≡ 0) ↔ (x ≡ eqb c 1)
unfolding swapped other
white-by true zero h = (λ e. absurd (omega arith), λ e. absurd (subst T e tt))
white-by true (suc zero) h = (λ e. refl, λ e. refl)
white-by x (suc (suc n)) h = absurd (omega arith)
white-by false zero h = (λ e. refl, λ e. refl)
white-by false (suc zero) h = (λ e. absurd (omega arith), λ e. absurd (subst T (sym e) tt))

near_by : (f : Bool) (y : ℕ) → y < 8 → (cond f (7 - y) y < 4) ↔ (f ≡ ltb 3 y)
near_by true y h = (λ l. sym (lt-ltb 3 y (omega arith)), λ e. let k = ltb-true 3 y (sym e) in omega arith)
near_by false y h = (λ l. sym (le-ltb 3 y (omega arith)), λ e. let k = ltb-false 3 y (sym e) in omega arith)

-- ---- a normal board

module _ (b : Board) (h : HasPawn b) where
  pub on-board : (7 < h.square) × (h.square < 56)
  on-board = (
    ltb→lt 7 h.square (and_left (ltb 7 h.square) (ltb h.square 56) h.inner),
    ltb→lt h.square 56 (and_right (ltb 7 h.square) (ltb h.square 56) h.inner),
  )

  the-pawn : lone b.men ≡ piece_of 4 h.colour h.square
  the-pawn = ap lone h.men

  pub record Normal : Type 0 where
    pub white : h.colour ≡ 0
    pub file : h.square % 8 < 4

  pub normal-facts : T (normal_pawn b) → Normal
  unfolding normal_pawn
  normal-facts t =
      let u : T (eqb h.colour 0 && ltb (h.square % 8) 4)
      = subst (λ (a : Piece). T (eqb a.colour 0 && ltb (a.square % 8) 4)) the-pawn t in
      record {
        white = eqb→eq h.colour 0 (and_left (eqb h.colour 0) (ltb (h.square % 8) 4) u);
        file = ltb→lt (h.square % 8) 4 (and_right (eqb h.colour 0) (ltb (h.square % 8) 4) u);
      }

  pub facts-normal : h.colour ≡ 0 → h.square % 8 < 4 → T (normal_pawn b)
  unfolding normal_pawn
  facts-normal e l =
      subst⁻¹ (λ (a : Piece). T (eqb a.colour 0 && ltb (a.square % 8) 4)) the-pawn
      (rw (eq-eqb h.colour 0 e, lt-ltb (h.square % 8) 4 l) tt)

  pub key-is : pawn_key b ≡ (b.side * 24 + slot_of h.square) * 4096 + b.white * 64 + b.black
  unfolding pawn_key
  key-is = ap (λ (a : Piece). (b.side * 24 + slot_of a.square) * 4096 + b.white * 64 + b.black) the-pawn

  key-lt : T (normal_pawn b) → pawn_key b < pawn_size
  key-lt t =
      let n = (normal-facts t).file in
      let o = on-board in omega (arith, key-is, o.0, o.1, h.side, h.white, h.black)

-- ---- one flip makes a board normal, and no other

module _ (b : Board) (h : HasPawn b) where
  abbrev wanted : Flip
  wanted = flip (ltb 3 (h.square % 8)) (eqb h.colour 1)

  wanted-is : wanted ≡ pawn_flip b
  wanted-is = ap (λ (a : Piece). flip (ltb 3 (a.square % 8)) (eqb a.colour 1)) (sym (the-pawn b h))

  low : h.square < 64
  low = let o = on-board b h in omega (arith, o.1)

  wanted-normal : T (normal_pawn (flipped wanted b))
  unfolding has-flipped
  wanted-normal =
      facts-normal (flipped wanted b) (has-flipped wanted b h)
      ((white-by (eqb h.colour 1) h.colour h.white-or-black).1 refl)
      (subst⁻¹ (λ (y : ℕ). y < 4) (file-kept (ltb 3 (h.square % 8)) (eqb h.colour 1) h.square low)
      ((near_by (ltb 3 (h.square % 8)) (h.square % 8) (omega arith)).1 refl))

  pub normal-flipped : T (normal_pawn (flipped (pawn_flip b) b))
  normal-flipped = subst (λ (s : Flip). T (normal_pawn (flipped s b))) wanted-is wanted-normal

  pub one-flip : (s : Flip) → T (normal_pawn (flipped s b)) → s ≡ pawn_flip b
  unfolding has-flipped
  one-flip s t =
      let n = normal-facts (flipped s b) (has-flipped s b h) t in
      let x = (white-by s.colours h.colour h.white-or-black).0 n.white in
      let f = (near_by s.files (h.square % 8) (omega arith)).0
      (subst (λ (y : ℕ). y < 4) (file-kept s.files s.colours h.square low) n.file) in
      (λ i. flip (f i) (x i)) ∙ wanted-is

  -- "196,608 bytes"
  pub number_lt : pawn_number b < pawn_size
  unfolding pawn_number
  number_lt = key-lt (flipped (pawn_flip b) b) (has-flipped (pawn_flip b) b h) normal-flipped

-- ---- a key tells its board

last-digit : (x y k l : ℕ) → k < 64 → l < 64 → x * 64 + k ≡ y * 64 + l → (x ≡ y) × (k ≡ l)
last-digit x y k l h i e = (omega arith, omega arith)

digits : (p q w v k l : ℕ) → w < 64 → v < 64 → k < 64 → l < 64
    → p * 4096 + w * 64 + k ≡ q * 4096 + v * 64 + l → (p ≡ q) × (w ≡ v) × (k ≡ l)
digits p q w v k l hw hv hk hl e =
    let a = last-digit (p * 64 + w) (q * 64 + v) k l hk hl (omega arith) in
    let b = last-digit p q w v hw hv a.0 in
    (b.0, b.1, a.1)

slots : (p q s t : ℕ) → 7 < s → s < 56 → 7 < t → t < 56 → s % 8 < 4 → t % 8 < 4
    → p * 24 + slot_of s ≡ q * 24 + slot_of t → (p ≡ q) × (s ≡ t)
slots p q s t a b c d f g e =
    let m : p ≡ q = omega arith in
    let n : s / 8 ≡ t / 8 = omega arith in
    (m, omega arith)

pub key-own : (b c : Board) → HasPawn b → HasPawn c → T (normal_pawn b) → T (normal_pawn c) → pawn_key b ≡ pawn_key c
    → b ≡ c
key-own b c h k t u e =
    let n = normal-facts b h t in
    let m = normal-facts c k u in
    let o = on-board b h in
    let p = on-board c k in
    let d = digits (b.side * 24 + slot_of h.square) (c.side * 24 + slot_of k.square) b.white c.white
    b.black c.black h.white k.white h.black k.black (sym (key-is b h) ∙ e ∙ key-is c k) in
    let v = slots b.side c.side h.square k.square o.0 o.1 p.0 p.1 n.file m.file d.0 in
    board-eq v.0 d.1 d.2
    (h.men ∙ ap₂ (λ (x y : ℕ). piece_of 4 x y ∷ []) (n.white ∙ sym m.white) v.1 ∙ sym k.men)

-- An ending's word is read back, and no two words are one ending's; the word of a position's men is its ending's.
use Rattle.std.specs.Prelude.{◌≡◌, refl, Bool, true, false, cond, not, ◌&&◌, ◌||◌, [], ◌∷◌, ◌++◌, ℕ, zero, suc, ◌+◌, ◌-◌, ◌*◌, ◌/◌, ◌%◌, ◌^◌, ◌≤◌, ◌<◌, min, max, T, leb, ltb, eqb, None, Option, Some}
use Rattle.std.proofs.Common.{sym, ap, ◌∙◌, arith, leb→le, ltb→lt, le→leb, lt→ltb, ne_eqb, eqb-true, leb-false}
use Rattle.std.proofs.lemmas.Bool.{eqb-false}
use Rattle.finite.specs.Truth.{and_left, and_right, and_both, true_of, refuted}
use Rattle.rules.specs.declared.Piece.{Piece}
use Rattle.numbering.specs.declared.Material.{Material}
use Rattle.numbering.specs.Material.{given, one_of, material_in, size_of}
use Rattle.numbering.proofs.laws.MaterialLaws.{one_piece}
use Rattle.position.specs.Keyed.{slot_men, board_of}
use Rattle.position.specs.Refusals.{bad_men_of, placing_with}
use Rattle.position.proofs.laws.BothSizes.{placed-men-with}
use Rattle.move_bytes.specs.MoveBytes.{flag_of}
use Rattle.given_words.specs.Bits.{bits}
use Rattle.given_words.specs.Men.{man_read, position_read}
use Rattle.given_words.specs.Endings.{material_word, no_material, material_read, ending_word, ending_of, table_bytes}
use Rattle.given_words.proofs.laws.BitLaws.{field}

-- ---- from an ending to its word and back

one-back : (kind : ℕ) → kind < 4 → material_read kind ≡ Material.One kind
one-back kind h =
    let high : bits 8 24 kind ≡ 0 = field 8 24 kind 0 0 kind (omega arith) (omega arith) (omega arith) in
    let low : bits 0 8 kind ≡ kind = field 0 8 0 kind 0 kind (omega arith) (omega arith) (omega arith) in
    rw (high, low) (one_piece kind h)

two_back : (j k x : ℕ) → j < 4 → k < 4 → x < 2
    → material_read (j + (k + 1) * 2 ^ 8 + x * 2 ^ 16) ≡ Material.Two j k (eqb x 1)
two_back j k x hj hk hx =
    let word : ℕ = j + (k + 1) * 2 ^ 8 + x * 2 ^ 16 in
    let above : bits 8 24 word ≡ k + 1 + x * 2 ^ 8 =
    field 8 24 j (k + 1 + x * 2 ^ 8) 0 word (omega arith) (omega arith) (omega arith) in
    let first : bits 0 8 word ≡ j =
    field 0 8 0 j (k + 1 + x * 2 ^ 8) word (omega arith) (omega arith) (omega arith) in
    let second : bits 8 8 word ≡ k + 1 = field 8 8 j (k + 1) x word (omega arith) (omega arith) (omega arith) in
    let each : bits 16 1 word ≡ x =
    field 16 1 (j + (k + 1) * 2 ^ 8) x 0 word (omega arith) (omega arith) hx in
    let none : bits 17 15 word ≡ 0 =
    field 17 15 word 0 0 word (omega arith) (omega arith) (omega arith) in
    let less : k + 1 - 1 ≡ k = omega arith in
    rw (above, ne_eqb (k + 1 + x * 2 ^ 8) 0 (λ e. omega arith), second, ne_eqb (k + 1) 0 (λ e. omega arith), none, first, each, less)

-- READING AN ENDING'S WORD GIVES THE ENDING.
pub material-back : (m : Material) → T (given m) → material_read (material_word m) ≡ m
material-back (Material.One kind) h = one-back kind (ltb→lt kind 4 h)
material-back (Material.Two j k r) h = go r
  where
    a : j < 4
    a = let x = leb→le j k (and_left (leb j k) (ltb k 4) h) in
        let y = ltb→lt k 4 (and_right (leb j k) (ltb k 4) h) in omega arith

    go : (r : Bool) → material_read (material_word (Material.Two j k r)) ≡ Material.Two j k r
    go true = two_back j k 1 a (ltb→lt k 4 (and_right (leb j k) (ltb k 4) h)) (omega arith)
    go false = two_back j k 0 a (ltb→lt k 4 (and_right (leb j k) (ltb k 4) h)) (omega arith)
material-back Material.Pawn h = refl

-- ---- from a word to its ending and back

whole : (q : ℕ) → q < 16777216 → q % 16777216 ≡ 0 → q ≡ 0
whole q h e = omega arith

low_word : (w : ℕ) → w / 256 ≡ 0 → w / 1 % 256 ≡ w
low_word w e = omega arith

one_word : (w : ℕ) → w < 2 ^ 32 → bits 8 24 w ≡ 0 → bits 0 8 w ≡ w
one_word w h e = low_word w (whole (w / 256) (omega arith) e)

flag_is : (x : ℕ) → x < 2 → flag_of (eqb x 1) ≡ x
flag_is x h = go (eqb x 1) refl
  where
    go : (b : Bool) → eqb x 1 ≡ b → flag_of b ≡ x
    go true e = sym (eqb-true x 1 e)
    go false e = let n = eqb-false x 1 e in zero_of x h n
      where
        zero_of : (x : ℕ) → x < 2 → (x ≡ 1 → ⊥) → 0 ≡ x
        zero_of x h n = omega (arith, n)

-- 17 bits as 8, 8 and 1
summed : (w r a s b : ℕ) → w ≡ r + a * 256 → a ≡ s + b * 256 → r + s * 256 + b * 65536 ≡ w
summed w r a s b e f = omega arith

less-more : (x : ℕ) → (x ≡ 0 → ⊥) → x - 1 + 1 ≡ x
less-more zero n = absurd (n refl)
less-more (suc x) n = omega arith

parts : (w a b : ℕ) → a ≡ w / 256 → b ≡ w / 65536 → b < 2 → (a % 256 ≡ 0 → ⊥)
    → w / 1 % 256 + (a % 256 - 1 + 1) * 256 + b % 2 * 65536 ≡ w
parts w a b e f h n =
    let o : w / 1 % 256 ≡ w % 256 = omega arith in
    let q : b % 2 ≡ b = omega arith in
    let d : a ≡ a % 256 + b * 256 = omega arith in
    let g : w ≡ w % 256 + a * 256 = omega arith in
    rw (o, less-more (a % 256) n, q) (summed w (w % 256) a (a % 256) b g d)

short : (w : ℕ) → w < 2 ^ 32 → bits 17 15 w ≡ 0 → w / 65536 < 2
short w h e = let z : w / 131072 ≡ 0 = under (w / 131072) (omega arith) e in omega arith
  where
    under : (q : ℕ) → q < 32768 → q % 32768 ≡ 0 → q ≡ 0
    under q h e = omega arith

two-word : (w : ℕ) → w < 2 ^ 32 → (bits 8 8 w ≡ 0 → ⊥) → bits 17 15 w ≡ 0
    → material_word (Material.Two (bits 0 8 w) (bits 8 8 w - 1) (eqb (bits 16 1 w) 1)) ≡ w
two-word w h n e =
    rw (flag_is (bits 16 1 w) (omega arith)) (parts w (w / 256) (w / 65536) refl refl (short w h e) n)

-- one man's word is his kind
kind-word : (kind : ℕ) → material_word (one_of kind) ≡ kind
kind-word kind = go (eqb kind 4) refl
  where
    go : (b : Bool) → eqb kind 4 ≡ b → material_word (cond b Material.Pawn (Material.One kind)) ≡ kind
    go true e = sym (eqb-true kind 4 e)
    go false e = refl

-- A WORD THAT IS AN ENDING'S IS THE WORD OF THAT ENDING: no two words are one ending's.
pub word_back : (w : ℕ) → w < 2 ^ 32 → T (given (material_read w)) → material_word (material_read w) ≡ w
word_back w h = go (eqb (bits 8 24 w) 0) refl (eqb (bits 8 8 w) 0) refl (eqb (bits 17 15 w) 0) refl
  where
    go : (a : Bool) → eqb (bits 8 24 w) 0 ≡ a → (b : Bool) → eqb (bits 8 8 w) 0 ≡ b → (c : Bool) → eqb (bits 17 15 w) 0 ≡ c
        → (let m = cond a (one_of (bits 0 8 w))
        (cond b no_material (cond c (Material.Two (bits 0 8 w) (bits 8 8 w - 1) (eqb (bits 16 1 w) 1)) no_material)) in
        T (given m) → material_word m ≡ w)
    go true e b f c g t = kind-word (bits 0 8 w) ∙ one_word w h (eqb-true (bits 8 24 w) 0 e)
    go false e true f c g t = absurd t
    go false e false f true g t = two-word w h (eqb-false (bits 8 8 w) 0 f) (eqb-true (bits 17 15 w) 0 g)
    go false e false f false g t = absurd t

-- ---- the word of a position's men

kinds-known : (a c : ℕ) → a < 4 → c < 4 → T (leb (min a c) (max a c) && ltb (max a c) 4)
kinds-known a c h k =
    and_both (leb (min a c) (max a c)) (ltb (max a c) 4) (le→leb (min a c) (max a c) (omega arith))
    (lt→ltb (max a c) 4 (omega arith))

-- a piece, or a pawn
kind-given : (kind : ℕ) → kind < 5 → T (given (one_of kind))
kind-given kind h = go (eqb kind 4) refl
  where
    go : (b : Bool) → eqb kind 4 ≡ b → T (given (cond b Material.Pawn (Material.One kind)))
    go true e = tt
    go false e = lt→ltb kind 4 (under kind h (eqb-false kind 4 e))
      where
        under : (k : ℕ) → k < 5 → (k ≡ 4 → ⊥) → k < 4
        under k h n = omega (arith, n)

men-given : (f s : Option Piece) → bad_men_of f s ≡ false → T (given (material_in (slot_men f ++ slot_men s)))
men-given None s e = absurd (refuted e tt)
men-given (Some a) None e = kind-given a.kind (leb-false 5 a.kind e)
men-given (Some a) (Some c) e = go (leb 4 a.kind) refl (leb 4 c.kind) refl e
  where
    go : (x : Bool) → leb 4 a.kind ≡ x → (y : Bool) → leb 4 c.kind ≡ y → (x || y) ≡ false
        → T (leb (min a.kind c.kind) (max a.kind c.kind) && ltb (max a.kind c.kind) 4)
    go true p y q z = absurd (refuted z tt)
    go false p true q z = absurd (refuted z tt)
    go false p false q z = kinds-known a.kind c.kind (leb-false 4 a.kind p) (leb-false 4 c.kind q)

-- THE WORD OF A POSITION'S MEN IS READ AS ITS ENDING, where 1 to 5 and 18 do not refuse it.
pub ending-told : (side white black first second : ℕ) → placing_with (position_read side white black first second) ≡ 0
    → material_read (ending_of first second) ≡ material_in (board_of (position_read side white black first second)).men
unfolding board_of
ending-told side white black first second z =
    let m = material_in (slot_men (man_read first) ++ slot_men (man_read second)) in
    let k : T (given m) = men-given (man_read first) (man_read second) (placed-men-with (position_read side white black first second) z) in
    ap (λ (x : Bool). material_read (cond x (material_word m) 4294967295)) (true_of {b = given m} k) ∙ material-back m k

-- ---- as the code reads it

pub one-is : (kind : ℕ) → kind ≡ 4 → Material.Pawn ≡ one_of kind
one-is kind e = sym (rw e)

pub one-other : (kind : ℕ) → (kind ≡ 4 → ⊥) → Material.One kind ≡ one_of kind
one-other kind n = sym (rw (ne_eqb kind 4 n))

module _ (word : ℕ) where
  whole_word : word / 1 ≡ word
  whole_word = omega arith

  pub read_one : (m : Material) → m ≡ one_of (word % 256) → word / 256 % 16777216 ≡ 0 → m ≡ material_read word
  read_one m f e = f ∙ sym (rw (e, whole_word))

  pub read_none : (word / 256 % 16777216 ≡ 0 → ⊥) → word / 256 % 256 ≡ 0 → Material.One 255 ≡ material_read word
  read_none n e = sym (rw (ne_eqb (word / 256 % 16777216) 0 n, e))

  pub read-high : (word / 256 % 16777216 ≡ 0 → ⊥) → (word / 256 % 256 ≡ 0 → ⊥) → (word / 131072 % 32768 ≡ 0 → ⊥)
      → Material.One 255 ≡ material_read word
  read-high n s e = sym (rw (ne_eqb (word / 256 % 16777216) 0 n, ne_eqb (word / 256 % 256) 0 s, ne_eqb (word / 131072 % 32768) 0 e))

  pub read-two : (word / 256 % 16777216 ≡ 0 → ⊥) → (word / 256 % 256 ≡ 0 → ⊥) → word / 131072 % 32768 ≡ 0
      → Material.Two (word % 256) (word / 256 % 256 - 1) (eqb (word / 65536 % 2) 1) ≡ material_read word
  read-two n s e = sym (rw (ne_eqb (word / 256 % 16777216) 0 n, ne_eqb (word / 256 % 256) 0 s, e, whole_word))

module _ (a : Piece) where
  pub joined-none : (s : Option Piece) (r : Material) → s ≡ None → r ≡ one_of a.kind → r ≡ material_in (a ∷ slot_men s)
  joined-none s r e f = f ∙ sym (rw e)

  pub joined-some : (s : Option Piece) (c : Piece) (r : Material) → s ≡ Some c → r ≡ material_in (a ∷ c ∷ [])
      → r ≡ material_in (a ∷ slot_men s)
  joined-some s c r e f = f ∙ sym (rw e)

  pub alone-some : (s : Option Piece) (r : Material) → s ≡ Some a → r ≡ one_of a.kind → r ≡ material_in (slot_men s)
  alone-some s r e f = f ∙ sym (rw e)

  pub in_some : (f s : Option Piece) (r : Material) → f ≡ Some a → r ≡ material_in (a ∷ slot_men s)
      → r ≡ material_in (slot_men f ++ slot_men s)
  in_some f s r e g = g ∙ sym (rw e)

  pub in-none : (f s : Option Piece) (r : Material) → f ≡ None → r ≡ material_in (slot_men s)
      → r ≡ material_in (slot_men f ++ slot_men s)
  in-none f s r e g = g ∙ sym (rw e)

  module _ (c : Piece) where
    rising : (x y : ℕ) (r : Bool) → x ≤ y → Material.Two x y r ≡ Material.Two (min x y) (max x y) r
    rising x y r h = let l : min x y ≡ x = omega arith in let g : max x y ≡ y = omega arith in rw (l, g)

    falling : (x y : ℕ) (r : Bool) → y < x → Material.Two y x r ≡ Material.Two (min x y) (max x y) r
    falling x y r h = let l : min x y ≡ y = omega arith in let g : max x y ≡ x = omega arith in rw (l, g)

    pub pair-rising : a.kind ≤ c.kind
        → Material.Two a.kind c.kind (not (eqb a.colour c.colour)) ≡ material_in (a ∷ c ∷ [])
    pair-rising h = rising a.kind c.kind (not (eqb a.colour c.colour)) h

    pub pair-falling : c.kind < a.kind
        → Material.Two c.kind a.kind (not (eqb a.colour c.colour)) ≡ material_in (a ∷ c ∷ [])
    pair-falling h = falling a.kind c.kind (not (eqb a.colour c.colour)) h

-- how long a table is, by the test
module _ (m : Material) (b : Bool) (e : b ≡ given m) where
  pub bytes-none : b ≡ false → 0 ≡ table_bytes m
  bytes-none f = sym (rw (sym e ∙ f))

  pub bytes-some : (r : ℕ) → b ≡ true → r ≡ size_of m → r ≡ table_bytes m
  bytes-some r f g = g ∙ sym (rw (sym e ∙ f))

pub two-word-is : (m : Material) (j k x : ℕ) (r : Bool) → m ≡ Material.Two j k r → x ≡ flag_of r
    → j + (k + 1) * 256 + x * 65536 ≡ material_word m
two-word-is m j k x r e f = rw (e, f)

-- the ending of two words, by the test
module _ (first second : ℕ) (f s : Option Piece) (m : Material) (e : f ≡ man_read first) (g : s ≡ man_read second)
    (h : m ≡ material_in (slot_men f ++ slot_men s)) where
  word-is : ending_word m ≡ ending_of first second
  word-is = rw (h, e, g)

  pub ending-none : (b : Bool) → b ≡ given m → b ≡ false → 4294967295 ≡ ending_of first second
  ending-none b k z =
      sym (ap (λ (x : Bool). cond x (material_word m) 4294967295) (sym k ∙ z)) ∙ word-is

  pub ending-some : (b : Bool) → b ≡ given m → (r : ℕ) → b ≡ true → r ≡ material_word m → r ≡ ending_of first second
  ending-some b k r z w =
      w ∙ sym (ap (λ (x : Bool). cond x (material_word m) 4294967295) (sym k ∙ z)) ∙ word-is

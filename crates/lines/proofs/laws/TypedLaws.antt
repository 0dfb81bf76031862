-- "in a number with its right check one altered digit, or two unequal neighbours exchanged, is always refused": 13, at any of the seven places, of
-- any number line.
use Rattle.std.specs.Prelude.{◌≡◌, true, List, [], ◌∷◌, map, ℕ, suc, ◌+◌, ◌-◌, ◌<◌, T, eqb, leb, length, get_or, set, drop, Err}
use Rattle.std.proofs.Common.{ap, sym, subst, ◌∙◌, arith, leb→le, eqb→eq, length-set, length-drop, drop-cons, get_or-drop, get_or-set_same}
use Prim.Native.Char.{code}
use Rattle.std.proofs.lemmas.List.{length-map, drop-set-add}
use Rattle.std.proofs.Math.ListN.{get_or-map}
use Rattle.std.proofs.Math.Seq.{drop-length}
use Rattle.finite.specs.Truth.{and_left, true_of, fails}
use Rattle.finite.specs.Below.{all_below, below}
use Rattle.check_digits.specs.Check.{reading, right_number, right, exchanged}
use Rattle.check_digits.proofs.laws.ListLaws.{set-map, exchanged-length, exchanged-drop, exchanged-map}
use Rattle.check_digits.proofs.laws.Finding.{Digits, altered-wrong, exchanged-wrong}
use Rattle.lines.specs.Grammar.{between, fits_place, has_shape, position_shape, number_shape, digit_of, five_digits, typed_check, seven_digits, number_request, request_of}
use Rattle.lines.proofs.laws.Shapes.{shape-length, shape-longer, shape_at, shape-set, shape-exchanged}
use Rattle.lines.proofs.laws.Requests.{digit-most}
use Rattle.lines.specs.Typed.{Digit, typed_digits, RightLine}

-- ---- digits and their places

digit-place : (i : ℕ) → i < 7 → get_or number_shape (4 + i) 0 ≡ code "0"
unfolding all_below
digit-place i h =
    eqb→eq (get_or number_shape (4 + i) 0) (code "0") (below (λ k. eqb (get_or number_shape (4 + k) 0) (code "0")) 7 tt i h)

place-digit : (i b : ℕ) → i < 7 → Digit b → T (fits_place (get_or number_shape (4 + i) 0) b)
unfolding fits_place
place-digit i b h d = rw (digit-place i h) d

digit_at : (line : List ℕ) (i : ℕ) → T (has_shape number_shape line) → i < 7 → Digit (get_or line (4 + i) 0)
unfolding fits_place
digit_at line i t h = rw (digit-place i h) at (shape_at number_shape line (4 + i) t (omega arith))

-- a digit's byte is told by its value
one-digit : (a b : ℕ) → Digit a → Digit b → digit_of a ≡ digit_of b → a ≡ b
unfolding digit_of
one-digit a b s t e =
    let p = leb→le 48 a (and_left (leb 48 a) (leb a 57) s) in
    let q = leb→le 48 b (and_left (leb 48 b) (leb b 57) t) in
    let f : a - 48 ≡ b - 48 = rw (true_of {b = between 48 57 a} s, true_of {b = between 48 57 b} t) at e in omega arith

-- the digits of a line, place by place
typed_at : (line : List ℕ) (i : ℕ) → get_or (typed_digits line) i 0 ≡ digit_of (get_or line (4 + i) 0)
unfolding digit_of
typed_at line i = get_or-map digit_of (drop 4 line) i 0 ∙ ap digit_of (get_or-drop 4 line i 0)

typed-small : (line : List ℕ) → Digits (typed_digits line)
typed-small line i = omega (arith, typed_at line i, digit-most (get_or line (4 + i) 0))

-- ---- the seven digits as one number

-- a line of a number line's length ends with its seven digits
seven-last : (line : List ℕ) → length line ≡ 11 → drop 11 line ≡ []
seven-last line e = rw (sym e) (drop-length line)

typed-seven : (line : List ℕ) → length line ≡ 11
    → typed_digits line
    ≡ (digit_of (get_or line 4 0) ∷ digit_of (get_or line 5 0) ∷ digit_of (get_or line 6 0) ∷ digit_of
    (get_or line 7 0) ∷ digit_of (get_or line 8 0) ∷ digit_of (get_or line 9 0) ∷ digit_of (get_or line 10 0) ∷ [])
typed-seven line e =
    rw (
      drop-cons line 4 0 (omega arith),
      drop-cons line 5 0 (omega arith),
      drop-cons line 6 0 (omega arith),
      drop-cons line 7 0 (omega arith),
      drop-cons line 8 0 (omega arith),
      drop-cons line 9 0 (omega arith),
      drop-cons line 10 0 (omega arith),
      seven-last line e,
    )

pub seven-reads : (line : List ℕ) → length line ≡ 11 → seven_digits line ≡ reading 0 (typed_digits line)
unfolding seven_digits five_digits typed_check reading
seven-reads line e = rw (typed-seven line e) (omega arith)

typed-right : (line : List ℕ) → length line ≡ 11 → T (right_number (seven_digits line)) → T (right (typed_digits line))
unfolding right
typed-right line e t = subst (λ (n : ℕ). T (right_number n)) (seven-reads line e) t

-- ---- a number line by its check

-- "The old nine-byte line becomes refusal 12", as any other length does
pub other_length : (line : List ℕ) → (length line ≡ 11 → ⊥) → (length line ≡ 12 → ⊥)
    → request_of line ≡ Err 12
unfolding request_of
other_length line a b =
    rw (shape-longer position_shape line (λ e. b (sym e)), shape-longer number_shape line (λ e. a (sym e)))

pub request-12 : (line : List ℕ) → length line ≡ 11 → (T (has_shape number_shape line) → ⊥)
    → request_of line ≡ Err 12
unfolding request_of
request-12 line e w =
    rw (shape-longer position_shape line (λ d. absurd (omega (arith, d))), fails (has_shape number_shape line) w)

pub request-13 : (line : List ℕ) → T (has_shape number_shape line) → (T (right_number (seven_digits line)) → ⊥)
    → request_of line ≡ Err 13
unfolding request_of number_request
request-13 line t w =
    let s : has_shape number_shape line ≡ true = true_of t in
    let e = shape-length number_shape line s in
    rw (shape-longer position_shape line (λ d. absurd (omega (arith, d))), s, fails (right_number (seven_digits line)) w)

-- ---- a right number line

module _ (line : List ℕ) (r : RightLine line) where
  right-length : length line ≡ 11
  right-length = shape-length number_shape line (true_of r.shaped)

  typed-length : length (typed_digits line) ≡ 7
  typed-length = length-map (drop 4 line) digit_of ∙ omega (arith, length-drop 4 line, right-length)

  -- one digit altered: to any other digit, at any of the seven places
  pub altered-refused : (i b : ℕ) → i < 7 → Digit b → (get_or line (4 + i) 0 ≡ b → ⊥)
      → request_of (set line (4 + i) b) ≡ Err 13
  altered-refused i b h d other =
      request-13 (set line (4 + i) b) (shape-set number_shape line (4 + i) b r.shaped (place-digit i b h d)) wrong
    where
      there : typed_digits (set line (4 + i) b) ≡ set (typed_digits line) i (digit_of b)
      there = ap (map digit_of) (drop-set-add 4 line i b) ∙ set-map digit_of (drop 4 line) i b

      unlike : get_or (typed_digits line) i 0 ≡ digit_of b → ⊥
      unlike e = other (one-digit (get_or line (4 + i) 0) b (digit_at line i r.shaped h) d (sym (typed_at line i) ∙ e))

      wrong : T (right_number (seven_digits (set line (4 + i) b))) → ⊥
      wrong t = altered-wrong (typed_digits line) i (digit_of b) (typed-small line) (omega (arith, typed-length))
          (omega (arith, digit-most b)) unlike
          (typed-right line right-length r.right)
          (rw there at (typed-right (set line (4 + i) b) (length-set line (4 + i) b ∙ right-length) t))

  -- two unequal neighbours exchanged: any of the six pairs, number and check alike
  pub exchanged-refused : (i : ℕ) → i < 6 → (get_or line (4 + i) 0 ≡ get_or line (5 + i) 0 → ⊥)
      → request_of (exchanged (4 + i) line) ≡ Err 13
  exchanged-refused i h unequal =
      request-13 (exchanged (4 + i) line) (shape-exchanged number_shape line (4 + i) (omega arith) alike r.shaped)
      wrong
    where
      next : suc (4 + i) ≡ 4 + suc i
      next = omega arith

      after : 4 + suc i ≡ 5 + i
      after = omega arith

      alike : get_or number_shape (4 + i) 0 ≡ get_or number_shape (suc (4 + i)) 0
      alike = digit-place i (omega arith) ∙ sym (rw next (digit-place (suc i) (omega arith)))

      there : typed_digits (exchanged (4 + i) line) ≡ exchanged i (typed_digits line)
      there = ap (map digit_of) (exchanged-drop 4 i line) ∙ exchanged-map digit_of i (drop 4 line)

      unlike : get_or (typed_digits line) i 0 ≡ get_or (typed_digits line) (suc i) 0 → ⊥
      unlike e = unequal
          (one-digit (get_or line (4 + i) 0) (get_or line (5 + i) 0) (digit_at line i r.shaped (omega arith))
          (rw after at (digit_at line (suc i) r.shaped (omega arith)))
          (sym (typed_at line i) ∙ e ∙ typed_at line (suc i) ∙ rw after))

      wrong : T (right_number (seven_digits (exchanged (4 + i) line))) → ⊥
      wrong t = exchanged-wrong (typed_digits line) i (typed-small line) (omega (arith, typed-length)) unlike
          (typed-right line right-length r.right)
          (rw there at (typed-right (exchanged (4 + i) line) (exchanged-length (4 + i) line ∙ right-length) t))

  -- a digit altered to any other byte
  pub spoilt-refused : (i b : ℕ) → i < 7 → (Digit b → ⊥) → request_of (set line (4 + i) b) ≡ Err 12
  spoilt-refused i b h other =
      request-12 (set line (4 + i) b) (length-set line (4 + i) b ∙ right-length)
      (λ t. other
      (rw (get_or-set_same line (4 + i) b 0 (omega (arith, right-length))) at (digit_at (set line (4 + i) b) i t h)))

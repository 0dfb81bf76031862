-- The normal board read from the least key, for one man and for two.
use Rattle.std.specs.Prelude.{◌≡◌, ◌⊎◌, Bool, ◌&&◌, [], ◌∷◌, map, ℕ, ◌+◌, ◌*◌, ◌/◌, ◌%◌, ◌<◌, ◌≤◌, T}
use Rattle.std.proofs.Math.Path.{refl, ap, ap₂, sym}
use Rattle.std.proofs.Common.{◌∙◌, inl, inr, eqb→eq}
use Rattle.std.proofs.Math.Bool.{true, false, cond}
use native.Mathlib.Omega.{arith}
use Rattle.std.proofs.Math.Dec.{ltb, eqb}
use borrow.Author.Tests.{lt-ltb, le-ltb}
use Rattle.finite.specs.Truth.{and_left, and_right, le-or-lt}
use Rattle.symmetry.specs.Symmetry.{Symmetry, mapped, exchange}
use Rattle.symmetry.proofs.laws.SymmetryLaws.{mapped-on, mapped-composed}
use Rattle.rules.specs.Rules.{Board, piece_of}
use Rattle.rules.specs.Changed.{swapped, changed_piece, changed}
use Rattle.rules.specs.Reordered.{crossed}
use Rattle.rules.proofs.laws.Changed.{board-eq}
use Rattle.rules.proofs.laws.ReorderedLaws.{crossed-map}
use Rattle.numbering.specs.Normal.{turn, swaps_kings}
use Rattle.numbering.specs.KingMaps.{king_map, swapping}
use Rattle.numbering.specs.Keys.{key_from}
use Rattle.numbering.specs.Men.{crosses, first_black, like, falling, ordered, prefers}
use Rattle.numbering.specs.Change.{change, changed_by}
use Rattle.numbering.specs.Number.{arranged, ruling_map, ruling_order, normalised}
use Rattle.numbering.proofs.laws.NormalLaws.{turn-then, stays-diagonal}
use Rattle.numbering.proofs.laws.ArrangeLaws.{and-false}
use Rattle.numbering.proofs.laws.LoneLaws.{is-arranged}
use Rattle.index.specs.Least.{packed, least_of}
use Rattle.index.proofs.laws.LeastLaws.{packed-white, packed-black, packed-first, packed-second, in_order, swaps_four, least-packed}
use Rattle.index.specs.Least.{men_digits}

-- the reversals, and then the exchange or nothing
by_two : (white black : ℕ) (men : Bool) (s : ℕ) → mapped (king_map white black men) s
    ≡ mapped (swapping (swaps_kings (mapped (turn white) white) (mapped (turn white) black) men)) (mapped (turn white) s)
unfolding king_map
by_two white black men s =
    let e = swaps_kings (mapped (turn white) white) (mapped (turn white) black) men in
    sym (mapped-composed (turn white) (swapping e) s ∙ ap (λ (m : Symmetry). mapped m s) (turn-then white e))

-- ---- two men in standard order

module _ (j k d side white black x y : ℕ) where
  abbrev pub pair_board : Board
  pair_board = record { side = side; white = white; black = black; men = piece_of j 0 x ∷ piece_of k d y ∷ [] }

  abbrev alike : Bool
  alike = eqb j k && eqb 0 d

  in_place : (s : ℕ) → mapped (swapping false) s ≡ s
  in_place s = stays-diagonal false s (λ t. absurd t)

  stays : (j ≤ k) → crosses (piece_of j 0 x ∷ piece_of k d y ∷ []) ≡ false
  unfolding crosses
  stays h = rw (le-ltb d 0 (omega arith), le-ltb k j h) (go (eqb j k))
    where
      go : (e : Bool) → cond e false false ≡ false
      go true = refl
      go false = refl

  pub pair-arranged : j ≤ k → arranged pair_board ≡ pair_board
  unfolding arranged changed_by changed crossed first_black swapped
  pair-arranged h =
      rw (stays h)
      (board-eq refl (in_place white) (in_place black)
      (ap₂ (λ (s t : ℕ). piece_of j 0 s ∷ piece_of k d t ∷ []) (in_place x) (in_place y)))

-- the digits of two men are what they prefer by
module _ (j k d : ℕ) where
  key-two : (f : Bool) (x y : ℕ)
      → key_from 0 (crossed f (piece_of j 0 x ∷ piece_of k d y ∷ [])) ≡ cond f (y * 64 + x) (x * 64 + y)
  unfolding key_from crossed
  key-two true x y = omega arith
  key-two false x y = omega arith

  two-prefer : (x y : ℕ) → prefers (piece_of j 0 x ∷ piece_of k d y ∷ [])
      ≡ ltb (men_digits (eqb j k && eqb 0 d) (mapped exchange x) (mapped exchange y))
      (men_digits (eqb j k && eqb 0 d) x y)
  unfolding prefers ordered falling like swapped
  two-prefer x y =
      ap₂ ltb
      (key-two (ltb (mapped exchange y) (mapped exchange x) && (eqb j k && eqb 0 d)) (mapped exchange x)
      (mapped exchange y)) (key-two (ltb y x && (eqb j k && eqb 0 d)) x y)

-- like men in the other order are the same men on each other's squares
men-in-order : (j k d x y : ℕ) (f : Bool) → (T f → (j ≡ k) × (0 ≡ d))
    → crossed f (piece_of j 0 x ∷ piece_of k d y ∷ []) ≡ piece_of j 0 (cond f y x) ∷ piece_of k d (cond f x y) ∷ []
unfolding crossed
men-in-order j k d x y true h = rw ((h tt).0, (h tt).1)
men-in-order j k d x y false h = refl

-- a key in either order of the men, read digit by digit
module _ (f : Bool) (w b x y : ℕ) (hw : w < 64) (hb : b < 64) (hx : x < 64) (hy : y < 64) where
  abbrev either : ℕ
  either = cond f (packed w b y x) (packed w b x y)

  read : (either / 262144 % 64 ≡ w) × (either / 4096 % 64 ≡ b) × (either / 64 % 64 ≡ cond f y x) ×
      (either % 64 ≡ cond f x y)
  read = go f
    where
      go : (f : Bool) → (cond f (packed w b y x) (packed w b x y) / 262144 % 64 ≡ w)
          × (cond f (packed w b y x) (packed w b x y) / 4096 % 64 ≡ b)
          × (cond f (packed w b y x) (packed w b x y) / 64 % 64 ≡ cond f y x)
          × (cond f (packed w b y x) (packed w b x y) % 64 ≡ cond f x y)
      go true = (
        packed-white w b y x hw hb hy hx,
        packed-black w b y x hw hb hy hx,
        packed-first w b y x hw hb hy hx,
        packed-second w b y x hw hb hy hx,
      )
      go false = (
        packed-white w b x y hw hb hx hy,
        packed-black w b x y hw hb hx hy,
        packed-first w b x y hw hb hx hy,
        packed-second w b x y hw hb hx hy,
      )

-- the board of a key with two men, and with one
abbrev pub two_from : ℕ → ℕ → ℕ → ℕ → ℕ → Board
two_from j k d side n = record {
  side = side;
  white = n / 262144 % 64;
  black = n / 4096 % 64;
  men = piece_of j 0 (n / 64 % 64) ∷ piece_of k d (n % 64) ∷ [];
}

abbrev pub one_from : ℕ → ℕ → ℕ → Board
one_from kind side n = record {
  side = side;
  white = n / 262144 % 64;
  black = n / 4096 % 64;
  men = piece_of kind 0 (n / 64 % 64) ∷ [];
}

module _ (j k d side white black x y : ℕ) (hw : white < 64) (hb : black < 64) (hx : x < 64) (hy : y < 64)
    (h : j ≤ k) where
  abbrev board : Board
  board = pair_board j k d side white black x y

  abbrev t : ℕ → ℕ
  t s = mapped (turn white) s

  abbrev same : Bool
  same = eqb j k && eqb 0 d

  abbrev swap : Bool
  swap = swaps_four same (t white) (t black) (t x) (t y)

  -- where a square goes
  abbrev to : ℕ → ℕ
  to s = mapped (swapping swap) (t s)

  to-on : (s : ℕ) → s < 64 → to s < 64
  to-on s k = mapped-on (swapping swap) (t s) (mapped-on (turn white) s k)

  pub pair-swap : (ruling_map board).swap ≡ swap
  unfolding ruling_map king_map changed swapped
  pair-swap = ap (swaps_kings (t white) (t black)) (two-prefer j k d (t x) (t y))

  ruled : (s : ℕ) → mapped (ruling_map board) s ≡ to s
  unfolding ruling_map changed swapped
  ruled s =
      by_two white black (prefers (piece_of j 0 (t x) ∷ piece_of k d (t y) ∷ [])) s
      ∙ ap (λ (p : Bool). mapped (swapping (swaps_kings (t white) (t black) p)) (t s)) (two-prefer j k d (t x) (t y))

  abbrev falls : Bool
  falls = ltb (to y) (to x) && same

  falls-alike : T falls → (j ≡ k) × (0 ≡ d)
  falls-alike f =
      let s = and_right (ltb (to y) (to x)) same f in
      (eqb→eq j k (and_left (eqb j k) (eqb 0 d) s), eqb→eq 0 d (and_right (eqb j k) (eqb 0 d) s))

  pub pair-order : ruling_order board ≡ falls
  unfolding ruling_order falling like swapped
  pair-order = rw (ruled x, ruled y)

  men-ruled : map (changed_piece (ruling_map board) false) (crossed (ruling_order board) board.men)
      ≡ piece_of j 0 (cond falls (to y) (to x)) ∷ piece_of k d (cond falls (to x) (to y)) ∷ []
  unfolding swapped
  men-ruled =
      sym (crossed-map (changed_piece (ruling_map board) false) (ruling_order board) board.men)
      ∙ ap₂ crossed pair-order
      (ap₂ (λ (s u : ℕ). piece_of j 0 s ∷ piece_of k d u ∷ []) (ruled x) (ruled y))
      ∙ men-in-order j k d (to x) (to y) falls falls-alike

  pub pair-normal : normalised board ≡ two_from j k d side (least_of same (packed (t white) (t black) (t x) (t y)))
  unfolding normalised changed_by changed swapped
  pair-normal =
      let r = read falls (to white) (to black) (to x) (to y) (to-on white hw) (to-on black hb) (to-on x hx)
      (to-on y hy) in
      ap (λ (b : Board). changed_by (change (ruling_order b) false (ruling_map b)) b)
      (pair-arranged j k d side white black x y h)
      ∙ board-eq refl (ruled white) (ruled black) men-ruled
      ∙ sym
      (ap (two_from j k d side)
      (least-packed same (t white) (t black) (t x) (t y) (mapped-on (turn white) white hw)
      (mapped-on (turn white) black hb) (mapped-on (turn white) x hx) (mapped-on (turn white) y hy))
      ∙ board-eq refl r.0 r.1
      (ap₂ (λ (s u : ℕ). piece_of j 0 s ∷ piece_of k d u ∷ []) r.2 r.3))

-- ---- one man, White's

one-prefers : (kind s : ℕ) → prefers (piece_of kind 0 s ∷ [])
    ≡ ltb (men_digits false (mapped exchange s) 0) (men_digits false s 0)
unfolding prefers ordered falling like crossed key_from swapped
one-prefers kind s = digits (mapped exchange s) s (ltb 0 (mapped exchange s)) (ltb 0 s)
  where
    digits : (t s : ℕ) (p q : Bool)
        → ltb (0 * 64 + t) (0 * 64 + s) ≡ ltb (cond (p && false) (0 * 64 + t) (t * 64 + 0))
        (cond (q && false) (0 * 64 + s) (s * 64 + 0))
    digits t s p q = rw (and-false p, and-false q) (go (le-or-lt s t))
      where
        go : (s ≤ t) ⊎ (t < s) → ltb (0 * 64 + t) (0 * 64 + s) ≡ ltb (t * 64 + 0) (s * 64 + 0)
        go (inl h) =
            le-ltb (0 * 64 + t) (0 * 64 + s) (omega arith) ∙ sym (le-ltb (t * 64 + 0) (s * 64 + 0) (omega arith))
        go (inr h) =
            lt-ltb (0 * 64 + t) (0 * 64 + s) (omega arith) ∙ sym (lt-ltb (t * 64 + 0) (s * 64 + 0) (omega arith))

abbrev pub one_board : ℕ → ℕ → ℕ → ℕ → ℕ → Board
one_board kind side white black x = record { side = side; white = white; black = black; men = piece_of kind 0 x ∷ [] }

module _ (kind side white black x : ℕ) (hw : white < 64) (hb : black < 64) (hx : x < 64) where
  abbrev single : Board
  single = one_board kind side white black x

  abbrev u : ℕ → ℕ
  u s = mapped (turn white) s

  abbrev one_swap : Bool
  one_swap = swaps_four false (u white) (u black) (u x) 0

  abbrev goes : ℕ → ℕ
  goes s = mapped (swapping one_swap) (u s)

  goes_on : (s : ℕ) → s < 64 → goes s < 64
  goes_on s k = mapped-on (swapping one_swap) (u s) (mapped-on (turn white) s k)

  zero-stays : (e : Bool) → mapped (swapping e) 0 ≡ 0
  unfolding mapped
  zero-stays true = refl
  zero-stays false = refl

  pub one-swap : (ruling_map single).swap ≡ one_swap
  unfolding ruling_map king_map changed swapped
  one-swap = ap (swaps_kings (u white) (u black)) (one-prefers kind (u x) ∙ zeroed)
    where
      zeroed : ltb (men_digits false (mapped exchange (u x)) 0) (men_digits false (u x) 0)
          ≡ ltb (men_digits false (mapped exchange (u x)) (mapped exchange 0)) (men_digits false (u x) 0)
      zeroed = ap (λ (z : ℕ). ltb (men_digits false (mapped exchange (u x)) z) (men_digits false (u x) 0))
          (sym (zero-stays true))

  one-ruled : (s : ℕ) → mapped (ruling_map single) s ≡ goes s
  unfolding ruling_map king_map changed swapped
  one-ruled s = by_two white black (prefers (piece_of kind 0 (u x) ∷ [])) s
      ∙ ap (λ (p : Bool). mapped (swapping p) (u s)) one-swap

  pub one-normal : normalised single ≡ one_from kind side (least_of false (packed (u white) (u black) (u x) 0))
  unfolding normalised changed_by changed swapped crossed ruling_order falling like
  one-normal =
      let r = read (ltb 0 (goes x) && false) (goes white) (goes black) (goes x) 0 (goes_on white hw) (goes_on black hb)
      (goes_on x hx) (omega arith) in
      ap (λ (b : Board). changed_by (change (ruling_order b) false (ruling_map b)) b)
      (is-arranged kind side white x black)
      ∙ board-eq refl (one-ruled white) (one-ruled black) (ap (λ (s : ℕ). piece_of kind 0 s ∷ []) (one-ruled x))
      ∙ sym
      (ap (one_from kind side)
      (least-packed false (u white) (u black) (u x) 0 (mapped-on (turn white) white hw)
      (mapped-on (turn white) black hb) (mapped-on (turn white) x hx) (omega arith)
      ∙ ap (λ (z : ℕ). in_order false (goes white) (goes black) (goes x) z) (zero-stays one_swap))
      ∙ board-eq refl r.0 r.1
      (ap (λ (s : ℕ). piece_of kind 0 s ∷ []) (r.2 ∙ kept (ltb 0 (goes x)))))
    where
      kept : (p : Bool) → cond (p && false) 0 (goes x) ≡ goes x
      kept true = refl
      kept false = refl

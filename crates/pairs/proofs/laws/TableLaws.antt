-- The rule of the constant lists, shown once over each whole list: one pass over all pairs of squares, which antt computes.
use Rattle.std.specs.Prelude.{◌≡◌, List, Bool, true, false, not, cond, ◌&&◌, ℕ, zero, suc, ◌+◌, ◌-◌, ◌*◌, ◌/◌, ◌%◌, ◌<◌, ◌≤◌, T, eqb, ltb, leb, get_or}
use Rattle.std.proofs.Common.{ap, ◌∙◌, ⊎_elim, arith, eqb→eq, ltb→lt, nltb→le, leb→le}
use Rattle.std.proofs.Math.Path.{sym}
use borrow.Author.Tests.{le-leb, lt-leb, le-ltb, lt-ltb}
use Rattle.finite.specs.Truth.{and_left, and_right, implies, implied, by-test, cond-false, le-or-lt}
use Rattle.finite.specs.Members.{any}
use Rattle.finite.specs.Numbers.{numbers}
use Rattle.finite.specs.Below.{all_below, below}
use Rattle.finite.specs.Ranked.{rank, select, pass, passed, selected, select-none}
use Rattle.board.specs.Square.{stays, shift}
use Rattle.board.specs.Reach.{line, reaches}
use Rattle.numbering.specs.Kings.{above, in_triangle, cornered, separate, king_rule, king_pair, pair_of, kings_of}
use Rattle.numbering.proofs.laws.PairLaws.{pair-count}
use Rattle.numbering.proofs.laws.Numberable.{separate-black, ruled-separate, ruled-triangle}
use Rattle.pairs.specs.Tables.{whites, firsts, slot_of, row_from, row_of, pairs, pair_in}
use Rattle.pairs.specs.Packed.{entry_of, black_of}

-- ---- the ten white squares

slot-right : ℕ → Bool
slot-right s = implies (in_triangle s) (ltb (slot_of s) 10)

all_slots : T (all_below slot-right 28)
unfolding all_below slot-right slot_of
all_slots = tt

pub in-triangle : (white : ℕ) → T (in_triangle white) → white < 28
in-triangle white t =
    omega (
      arith,
      ltb→lt (white % 8) 4 (and_left (ltb (white % 8) 4) (not (above white)) t),
      nltb→le (white % 8) (white / 8) (and_right (ltb (white % 8) 4) (not (above white)) t),
    )

-- a square has a place exactly in the triangle
pub slot-in : (white : ℕ) → T (in_triangle white) → slot_of white < 10
unfolding slot-right
slot-in white t =
    ltb→lt (slot_of white) 10
    (implied (in_triangle white) (ltb (slot_of white) 10) (below slot-right 28 all_slots white (in-triangle white t)) t)

inside : (white : ℕ) → slot_of white < 10 → T (in_triangle white)
unfolding slot_of
inside white h =
    by-test (in_triangle white) (λ t. t)
    (λ f. let e = cond-false (in_triangle white) (white % 8 + white / 8 * (7 - white / 8) / 2) 10 f in
    absurd (omega arith))

-- as the code finds it
pub slot-past : (white : ℕ) → 3 < white % 8 → 10 ≡ slot_of white
unfolding slot_of
slot-past white h = sym (rw (le-ltb (white % 8) 4 (omega arith)))

pub slot-above : (white : ℕ) → white % 8 ≤ 3 → white % 8 < white / 8 → 10 ≡ slot_of white
unfolding slot_of
slot-above white h k = sym (rw (lt-ltb (white % 8) 4 (omega arith), lt-ltb (white % 8) (white / 8) k))

pub slot-place : (white : ℕ) → white % 8 ≤ 3 → white / 8 ≤ white % 8
    → white % 8 + white / 8 * (7 - white / 8) / 2 ≡ slot_of white
unfolding slot_of
slot-place white h k = sym (rw (lt-ltb (white % 8) 4 (omega arith), le-ltb (white % 8) (white / 8) k))

-- the sum fits a byte
small : ℕ → Bool
small rank = leb (rank * (7 - rank)) 12

all_small : T (all_below small 4)
unfolding all_below small
all_small = tt

pub place-small : (rank : ℕ) → rank < 4 → rank * (7 - rank) ≤ 12
unfolding small
place-small rank h = leb→le (rank * (7 - rank)) 12 (below small 4 all_small rank h)

-- ---- both lists of pairs, in one pass over the squares of both kings, with the number of pairs so far carried along

abbrev entry : ℕ → ℕ → ℕ
entry white black = get_or pairs (slot_of white * 64 + black) 0

abbrev kings_at : ℕ → ℕ
kings_at pair = get_or whites (row_of pair) 0 * 64 + black_of pair

right : ℕ → ℕ → Bool
right k c = implies (in_triangle (k / 64)) (eqb (entry (k / 64) (k % 64)) (cond (king_pair k) c 65535)) && implies
    (king_pair k) (eqb (kings_at c) k)

all_right : T (pass king_pair right 4096 0 0)
unfolding pass right pairs slot_of row_from king_pair king_rule cornered separate reaches any numbers line shift stays
all_right = tt

right-at : (k : ℕ) → k < 4096 → T (right k (rank king_pair k))
right-at k h = passed king_pair right 4096 all_right k h

-- ---- from squares to pair

pub no-pair : (white black : ℕ) → (T (king_rule white black) → ⊥) → 65535 ≡ pair_of white black
unfolding pair_of
no-pair white black f = sym (cond-false (king_rule white black) (rank king_pair (white * 64 + black)) 65535 f)

-- a black square off the board and a white one outside the triangle have none
off-board : (white black : ℕ) → 64 ≤ black → T (king_rule white black) → ⊥
off-board white black h t = omega (arith, separate-black white black (ruled-separate white black t))

outside : (white black : ℕ) → 10 ≤ slot_of white → T (king_rule white black) → ⊥
outside white black h t = let s = slot-in white (ruled-triangle white black t) in omega arith

-- the entry of any other two squares is their pair, or says that there is none
pub entry-pair : (white black : ℕ) → black < 64 → slot_of white < 10 → entry white black ≡ pair_of white black
unfolding right pair_of king_pair
entry-pair white black k l =
    let h = in-triangle white (inside white l) in
    let n : ℕ = white * 64 + black in
    let q : n / 64 ≡ white = omega arith in
    let r : n % 64 ≡ black = omega arith in
    let t = rw (q, r) at (right-at n (omega arith)) in
    let e = eqb (entry white black) (cond (king_rule white black) (rank king_pair n) 65535) in
    eqb→eq (entry white black) (cond (king_rule white black) (rank king_pair n) 65535)
    (implied (in_triangle white) e
    (and_left (implies (in_triangle white) e) (implies (king_rule white black) (eqb (kings_at (rank king_pair n)) n))
    t) (inside white l))

-- ---- by a lent list

module _ (list : List ℕ) (white black : ℕ) where
  pub in-outside : 10 ≤ slot_of white → 65535 ≡ pair_in list white black
  unfolding pair_in
  in-outside l = sym (rw (le-leb 10 (slot_of white) l))

  pub in-off : slot_of white < 10 → 64 ≤ black → 65535 ≡ pair_in list white black
  unfolding pair_in
  in-off l k = sym (rw (lt-leb 10 (slot_of white) l, le-leb 64 black k))

  pub in_entry : slot_of white < 10 → black < 64 → get_or list (slot_of white * 64 + black) 0 ≡ pair_in list white black
  unfolding pair_in
  in_entry l k = sym (rw (lt-leb 10 (slot_of white) l, lt-leb 64 black k))

-- the constant list, lent, gives the pair
pub lent-pair : (list : List ℕ) (white black : ℕ) → list ≡ pairs → pair_in list white black ≡ pair_of white black
lent-pair list white black e =
    ap (λ (l : List ℕ). pair_in l white black) e
    ∙ ⊎_elim (λ l. sym (in-outside pairs white black l) ∙ no-pair white black (outside white black l))
    (λ l. ⊎_elim (λ k. sym (in-off pairs white black l k) ∙ no-pair white black (off-board white black k))
    (λ k. sym (in_entry pairs white black l k) ∙ entry-pair white black k l)
    (le-or-lt 64 black))
    (le-or-lt 10 (slot_of white))

-- ---- the list packed, by one test over the whole of it

packed : ℕ → Bool
packed i = eqb (entry_of i) (get_or pairs i 0)

all-packed : T (all_below packed 640)
unfolding all_below packed pairs
all-packed = tt

pub entry-packed : (i : ℕ) → i < 640 → entry_of i ≡ get_or pairs i 0
unfolding packed
entry-packed i h = eqb→eq (entry_of i) (get_or pairs i 0) (below packed 640 all-packed i h)

-- ---- from pair to squares

pub record Found (pair row : ℕ) : Type 0 where
  pub kings : get_or whites row 0 * 64 + black_of pair ≡ kings_of pair
  pub small : get_or whites row 0 * 64 + black_of pair < 4096

-- the white square of the pair's row and the pair's black square
pub kings-found : (pair row : ℕ) → pair < 462 → row ≡ row_of pair → Found pair row
unfolding right kings_of
kings-found pair row h e =
    let s = selected king_pair 4096 pair (rw pair-count h) in
    let k = select king_pair 4096 pair in
    let u = s.under in
    let t = rw s.ranked at (right-at k s.under) in
    let q : kings_at pair ≡ k = eqb→eq (kings_at pair) k
    (implied (king_pair k) (eqb (kings_at pair) k)
    (and_right (implies (in_triangle (k / 64)) (eqb (entry (k / 64) (k % 64)) (cond (king_pair k) pair 65535)))
    (implies (king_pair k) (eqb (kings_at pair) k)) t) s.passes) in
    rw e (record { kings = q; small = omega arith })

pub no-kings : (pair : ℕ) → 462 ≤ pair → 0 ≡ kings_of pair
unfolding kings_of
no-kings pair h = sym (select-none king_pair 4096 pair (rw pair-count h))

-- the row as a loop finds it
pub row_here : (i pair : ℕ) → i < 9 → pair < get_or firsts (i + 1) 0 → row_from (9 - i) i pair ≡ i
unfolding row_from
row_here i pair h l = let e : 9 - i ≡ suc (8 - i) = omega arith in rw (e, lt-leb (get_or firsts (i + 1) 0) pair l)

pub row_next : (i pair : ℕ) → i < 9 → get_or firsts (i + 1) 0 ≤ pair
    → row_from (9 - i) i pair ≡ row_from (9 - (i + 1)) (i + 1) pair
unfolding row_from
row_next i pair h l = let e : 9 - i ≡ suc (9 - (i + 1)) = omega arith in rw (e, le-leb (get_or firsts (i + 1) 0) pair l)

pub row_last : (i pair : ℕ) → 9 ≤ i → row_from (9 - i) i pair ≡ i
unfolding row_from
row_last i pair h = let e : 9 - i ≡ 0 = omega arith in rw e

row-grows : (n i pair : ℕ) → row_from n i pair < i + n + 1
unfolding row_from
row-grows zero i pair = omega arith
row-grows (suc n) i pair = pick (leb (get_or firsts (i + 1) 0) pair) (row_from n (i + 1) pair) (row-grows n (i + 1) pair)
  where
    pick : (b : Bool) (r : ℕ) → r < i + 1 + n + 1 → cond b r i < i + suc n + 1
    pick true r h = omega arith
    pick false r h = omega arith

pub row_lt : (pair : ℕ) → row_of pair < 10
row_lt pair = row-grows 9 0 pair

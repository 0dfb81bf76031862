-- Laws of square sets: what a set holds after an operation on its bits, and that what it holds makes it up.
use Rattle.std.specs.Prelude.{◌≡◌, refl, Bool, true, false, not, ◌&&◌, ◌||◌, [], ℕ, zero, suc, ◌+◌, ◌-◌, ◌*◌, ◌/◌, ◌%◌, ◌^◌, ◌≤◌, ◌<◌, T}
use Rattle.std.proofs.Common.{sym, ◌∙◌, zero-add, add-zero, add-suc, suc-add, mul_comm, pow-suc, div-one, le_of_suc-le-suc, arith}
use Rattle.std.proofs.Math.Path.{ap}
use Rattle.std.specs.Bool.{beq}
use Rattle.std.proofs.Math.Nat.{zero-div, div-div-eq-div-mul}
use Rattle.std.proofs.Math.Dec.{eqb}
use Rattle.std.specs.Int.Bits.{bit_and, bit_or}
use Rattle.std.proofs.lemmas.Nat.{and_shr, and_mod, or_shr, or_mod}
use Rattle.finite.specs.Truth.{same_answer}
use Rattle.finite.specs.Members.{◌∈◌}
use Rattle.finite.specs.Filter.{filter, filter-in, filter-out, filter_same}
use Rattle.finite.specs.Numbers.{numbers, numbers-in, numbers-out}
use Rattle.finite.specs.Below.{all_below, all_below2, below2}
use Rattle.board.specs.Sets.{has, squares, members, digit, pack, set_of}
use Rattle.board.specs.SetLaws.{bit}

-- ---- what a set holds, by the operation that made it

pub has-none : (u : ℕ) → has 0 u ≡ false
has-none u = rw (zero-div (2 ^ u))

bit-right : ℕ → ℕ → Bool
bit-right s u = beq (has (bit s) u) (eqb u s)

bits-right : T (all_below2 bit-right 64 64)
unfolding all_below all_below2 bit-right
bits-right = tt

pub has-bit : (s u : ℕ) → s < 64 → u < 64 → has (bit s) u ≡ eqb u s
unfolding bit-right
has-bit s u hs hu = same_answer (has (bit s) u) (eqb u s) (below2 bit-right 64 64 bits-right s u hs hu)

-- two binary digits
or_right : ℕ → ℕ → Bool
or_right m n = beq (eqb (bit_or m n) 1) (eqb m 1 || eqb n 1)

and_right : ℕ → ℕ → Bool
and_right m n = beq (eqb (bit_and m n) 1) (eqb m 1 && eqb n 1)

ors-right : T (all_below2 or_right 2 2)
unfolding all_below all_below2 or_right
ors-right = tt

ands-right : T (all_below2 and_right 2 2)
unfolding all_below all_below2 and_right
ands-right = tt

module _ (a b u : ℕ) where
  pub has-or : has (bit_or a b) u ≡ (has a u || has b u)
  unfolding or_right
  has-or =
      ap (λ n. eqb (n % 2) 1) (or_shr a b u)
      ∙ ap (λ n. eqb n 1) (or_mod (a / 2 ^ u) (b / 2 ^ u) 1)
      ∙ same_answer (eqb (bit_or (a / 2 ^ u % 2) (b / 2 ^ u % 2)) 1) (has a u || has b u)
      (below2 or_right 2 2 ors-right (a / 2 ^ u % 2) (b / 2 ^ u % 2) (omega arith) (omega arith))

  pub has-and : has (bit_and a b) u ≡ (has a u && has b u)
  unfolding and_right
  has-and =
      ap (λ n. eqb (n % 2) 1) (and_shr a b u)
      ∙ ap (λ n. eqb n 1) (and_mod (a / 2 ^ u) (b / 2 ^ u) 1)
      ∙ same_answer (eqb (bit_and (a / 2 ^ u % 2) (b / 2 ^ u % 2)) 1) (has a u && has b u)
      (below2 and_right 2 2 ands-right (a / 2 ^ u % 2) (b / 2 ^ u % 2) (omega arith) (omega arith))

-- a square of the board put in, as the code's `set | 1 << s`
pub has-added : (set s u : ℕ) → s < 64 → u < 64 → has (bit_or set (bit s)) u ≡ (has set u || eqb u s)
has-added set s u hs hu = has-or set (bit s) u ∙ ap (λ b. has set u || b) (has-bit s u hs hu)

-- ---- bit by bit

has-zero : (s : ℕ) → has s 0 ≡ eqb (s % 2) 1
has-zero s = rw div-one

has-suc : (s i : ℕ) → has s (suc i) ≡ has (s / 2) i
has-suc s i = rw (pow-suc, mul_comm (2 ^ i) 2, ← div-div-eq-div-mul)

half_lt : (k s : ℕ) → s < 2 ^ suc k → s / 2 < 2 ^ k
half_lt k s h = let e : 2 ^ suc k ≡ 2 ^ k * 2 = pow-suc 2 k in omega arith

-- a bit above the set's width
has-high : (k s u : ℕ) → k ≤ u → s < 2 ^ k → has s u ≡ false
has-high zero s u l h = let z : s ≡ 0 = omega arith in rw z (has-none u)
has-high (suc k) s zero l h = absurd (omega arith)
has-high (suc k) s (suc u) l h = has-suc s u ∙ has-high k (s / 2) u (le_of_suc-le-suc l) (half_lt k s h)

not_digit : (d : ℕ) → d < 2 → eqb (1 - d) 1 ≡ not (eqb d 1)
not_digit zero h = refl
not_digit (suc zero) h = refl
not_digit (suc (suc d)) h = absurd (omega arith)

not-bits : (k s u : ℕ) → u < k → s < 2 ^ k → has ((2 ^ k - 1) - s) u ≡ not (has s u)
not-bits zero s u l h = absurd (omega arith)
not-bits (suc k) s zero l h =
    let w : 2 ^ suc k ≡ 2 ^ k * 2 = pow-suc 2 k in
    let e : ((2 ^ suc k - 1) - s) % 2 ≡ 1 - s % 2 = omega arith in
    has-zero ((2 ^ suc k - 1) - s) ∙ rw (e, has-zero s) (not_digit (s % 2) (omega arith))
not-bits (suc k) s (suc u) l h =
    let w : 2 ^ suc k ≡ 2 ^ k * 2 = pow-suc 2 k in
    let e : ((2 ^ suc k - 1) - s) / 2 ≡ (2 ^ k - 1) - s / 2 = omega arith in
    has-suc ((2 ^ suc k - 1) - s) u ∙ rw (e, has-suc s u) (not-bits k (s / 2) u (le_of_suc-le-suc l) (half_lt k s h))

-- the code's `!set`
pub has-not : (set u : ℕ) → u < 64 → set < 2 ^ 64 → has ((2 ^ 64 - 1) - set) u ≡ not (has set u)
has-not set u l h = not-bits 64 set u l h

-- a set holds nothing off the board
pub has-off : (set u : ℕ) → 64 ≤ u → set < 2 ^ 64 → has set u ≡ false
has-off set u l h = has-high 64 set u l h

-- ---- the set of a test

digit-le : (b : Bool) → digit b ≤ 1
digit-le true = omega arith
digit-le false = omega arith

pub eqb-digit : (b : Bool) → eqb (digit b) 1 ≡ b
eqb-digit true = refl
eqb-digit false = refl

digit-eqb : (n : ℕ) → n < 2 → digit (eqb n 1) ≡ n
digit-eqb zero h = refl
digit-eqb (suc zero) h = refl
digit-eqb (suc (suc n)) h = absurd (omega arith)

-- its lowest bit, and the others
pub pack-low : (p : ℕ → Bool) (n k : ℕ) → pack p (suc n) k % 2 ≡ digit (p k)
unfolding pack
pack-low p n k = omega (arith, digit-le (p k))

pub pack-rest : (p : ℕ → Bool) (n k : ℕ) → pack p (suc n) k / 2 ≡ pack p n (suc k)
unfolding pack
pack-rest p n k = omega (arith, digit-le (p k))

has-pack : (p : ℕ → Bool) (n k i : ℕ) → i < n → has (pack p n k) i ≡ p (k + i)
has-pack p zero k i h = absurd (omega arith)
has-pack p (suc n) k zero h = rw (div-one, pack-low, eqb-digit, add-zero)
has-pack p (suc n) k (suc i) h =
    has-suc (pack p (suc n) k) i ∙ rw (pack-rest, has-pack p n (suc k) i (le_of_suc-le-suc h), suc-add, add-suc)

pub pack-same : (p q : ℕ → Bool) (n k : ℕ) → ((i : ℕ) → k ≤ i → i < k + n → p i ≡ q i) → pack p n k ≡ pack q n k
unfolding pack
pack-same p q zero k e = refl
pack-same p q (suc n) k e =
    rw (e k (omega arith) (omega arith), pack-same p q n (suc k) (λ i a b. e i (omega arith) (omega arith)))

pack-next : (p : ℕ → Bool) (n k : ℕ) → pack (λ i. p (suc i)) n k ≡ pack p n (suc k)
unfolding pack
pack-next p zero k = refl
pack-next p (suc n) k = rw (pack-next p n (suc k))

pack-has : (n s : ℕ) → s < 2 ^ n → pack (has s) n 0 ≡ s
unfolding pack
pack-has zero s h = omega arith
pack-has (suc n) s h =
    rw (
      ← pack-next (has s) n 0,
      pack-same (λ i. has s (suc i)) (has (s / 2)) n 0 (λ i a b. has-suc s i),
      pack-has n (s / 2) (half_lt n s h),
      has-zero,
      digit-eqb (s % 2) (omega arith),
    )
    (omega arith)

-- a set of squares is a word
pack-lt : (p : ℕ → Bool) (n k : ℕ) → pack p n k < 2 ^ n
unfolding pack
pack-lt p zero k = omega arith
pack-lt p (suc n) k = go (p k) (pack-lt p n (suc k))
  where
    go : (x : Bool) → pack p n (suc k) < 2 ^ n → digit x + 2 * pack p n (suc k) < 2 ^ suc n
    go true h = let e : 2 ^ suc n ≡ 2 ^ n * 2 = pow-suc 2 n in omega arith
    go false h = let e : 2 ^ suc n ≡ 2 ^ n * 2 = pow-suc 2 n in omega arith

pub set_of-lt : (p : ℕ → Bool) → set_of p < 2 ^ 64
unfolding set_of
set_of-lt p = pack-lt p 64 0

pub has-set_of : (p : ℕ → Bool) (u : ℕ) → u < 64 → has (set_of p) u ≡ p u
unfolding set_of
has-set_of p u h = has-pack p 64 0 u h ∙ rw zero-add

pub set_of-has : (set : ℕ) → set < 2 ^ 64 → set_of (has set) ≡ set
unfolding set_of
set_of-has set h = pack-has 64 set h

pub set_of-same : (p q : ℕ → Bool) → ((u : ℕ) → u < 64 → p u ≡ q u) → set_of p ≡ set_of q
unfolding set_of
set_of-same p q e = pack-same p q 64 0 (λ i a b. e i b)

-- a set that holds what a test says is the set of the test
pub set_is : (p : ℕ → Bool) (set : ℕ) → set < 2 ^ 64 → ((u : ℕ) → u < 64 → has set u ≡ p u) → set ≡ set_of p
set_is p set h e = sym (set_of-has set h) ∙ set_of-same (has set) p e

-- what a set holds that is known as the set of a test
pub set-has : (p : ℕ → Bool) {set : ℕ} → set ≡ set_of p → (u : ℕ) → u < 64 → has set u ≡ p u
set-has p e u h = ap (λ z. has z u) e ∙ has-set_of p u h

-- ---- members

pub squares-in : (u : ℕ) → u < 64 → u ∈ squares
unfolding squares
squares-in u h = numbers-in 64 0 u (omega arith) h

pub squares-out : (u : ℕ) → u ∈ squares → u < 64
unfolding squares
squares-out u m = (numbers-out 64 0 u m).1

pub members-in : (set u : ℕ) → u < 64 → T (has set u) → u ∈ members set
unfolding members
members-in set u h t = filter-in (has set) (squares-in u h) t

pub members-out : (set u : ℕ) → u ∈ members set → (u < 64) × T (has set u)
unfolding members
members-out set u m = let r = filter-out (has set) u squares m in (squares-out u r.0, r.1)

pub members-set_of : (p : ℕ → Bool) → members (set_of p) ≡ filter p squares
unfolding members
members-set_of p = filter_same (has (set_of p)) p squares (λ u m. has-set_of p u (squares-out u m))

pub members-none : members 0 ≡ []
unfolding members squares filter numbers
members-none = refl

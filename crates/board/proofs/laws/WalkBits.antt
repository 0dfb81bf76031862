-- A walk by a square's bit, and the squares of a line gathered on the way: what each test of the code says.
use Rattle.std.specs.Prelude.{◌≡◌, Bool, cond, ◌&&◌, ◌||◌, ℕ, ◌+◌, ◌-◌, ◌*◌, ◌^◌, ◌≤◌, ◌<◌, T, eqb, Some, None}
use Rattle.std.proofs.Math.Path.{refl}
use Rattle.std.proofs.Common.{sym, ap, ◌∙◌, ⊎_elim, arith, ltb→lt, eqb→eq, eq-eqb, lt-ltb}
use Rattle.std.proofs.Math.Bool.{true, false}
use Rattle.std.proofs.Math.Dec.{ltb}
use Rattle.std.specs.Int.Bits.{bit_and, bit_or, and_lt}
use Rattle.std.proofs.Math.ListN.{get_or}
use Rattle.std.proofs.lemmas.Bool.{not-false, not-true}
use Rattle.finite.specs.Truth.{le-or-lt, fails, and_left, and_right, true_of, of-true, true-not-false, implies, implied}
use Rattle.finite.specs.Filter.{filter}
use Rattle.finite.specs.Numbers.{numbers}
use Rattle.finite.specs.Below.{all_below, all_below2, below, below2}
use Rattle.board.specs.Square.{stays, shift}
use Rattle.board.specs.Reach.{step_xs, step_ys, stepped, line_of}
use Rattle.board.specs.Sets.{has, squares, members, lowest_square, pack, set_of}
use Rattle.board.specs.Walk.{walk_of}
use Rattle.board.proofs.laws.SquareLaws.{shift_le}
use Rattle.board.specs.SetLaws.{bit}
use Rattle.board.proofs.laws.SetLaws.{has-none, has-bit, has-or, has-and, has-not, has-added, set_is}
use Rattle.board.proofs.laws.WalkLaws.{walk-edge, walk-next}
use Rattle.board.proofs.laws.WalkAttack.{line-edge}
use Rattle.board.proofs.laws.SweepLaws.{sweep-end, sweep-stop, sweep-next}
use Rattle.board.specs.StepLaws.{IsStep, next}
use Rattle.board.proofs.laws.StepLaws.{is-stepped}

-- ---- a square's bit beside a set: the code's `b & m`

module _ (u m : ℕ) (h : u < 64) where
  has-shared : (w : ℕ) → w < 64 → has (bit_and (bit u) m) w ≡ (eqb w u && has m w)
  has-shared w l = has-and (bit u) m w ∙ rw (has-bit u w h l)

  -- where they share nothing, the set does not hold the square
  apart : bit_and (bit u) m ≡ 0 → has m u ≡ false
  apart e = sym (has-shared u h ∙ rw (eq-eqb u u refl)) ∙ ap (λ z. has z u) e ∙ has-none u

  none-shared : has m u ≡ false → (w : ℕ) → (eqb w u && has m w) ≡ false
  none-shared n w =
      fails (eqb w u && has m w)
      (λ q.
      let e = eqb→eq w u (and_left (eqb w u) (has m w) q) in
      true-not-false (true_of (and_right (eqb w u) (has m w) q)) (ap (has m) e ∙ n))

  -- elsewhere it does
  shared : m < 2 ^ 64 → (bit_and (bit u) m ≡ 0 → ⊥) → has m u ≡ true
  unfolding set_of pack
  shared f z = go (has m u) refl
    where
      go : (b : Bool) → has m u ≡ b → has m u ≡ true
      go true e = e
      go false e =
          absurd (z
          (set_is (λ w. false) (bit_and (bit u) m) (and_lt 64 (bit u) m (omega arith) (omega arith))
          (λ w l. has-shared w l ∙ none-shared e w)))

-- a square's bit is not 0, and the square is the lowest that it holds
bit-some : (u : ℕ) → u < 64 → bit u ≡ 0 → ⊥
bit-some u h e = true-not-false (has-bit u u h h ∙ eq-eqb u u refl) (ap (λ z. has z u) e ∙ has-none u)

lowest-right : ℕ → Bool
lowest-right u = eqb (lowest_square (bit u)) u

all-lowest : T (all_below lowest-right 64)
unfolding all_below lowest-right members squares filter numbers
all-lowest = tt

lowest-bit : (u : ℕ) → u < 64 → lowest_square (bit u) ≡ u
unfolding lowest-right
lowest-bit u h = eqb→eq (lowest_square (bit u)) u (below lowest-right 64 all-lowest u h)

-- ---- a walk ends: each step brings the bit nearer to one end of the board

abbrev pub left : ℕ → ℕ → ℕ
left step b = cond (ltb step 18) b (2 ^ 64 - b)

nearer-right : ℕ → ℕ → Bool
nearer-right k s =
    let step = get_or step_xs k 0 + 8 * get_or step_ys k 0 in
    implies (ltb (stepped s k) 64) (ltb (left step (bit (stepped s k))) (left step (bit s)))

all-nearer : T (all_below2 nearer-right 8 64)
unfolding all_below all_below2 nearer-right shift stays
all-nearer = tt

-- ---- the k-th direction, from s to the bit b

module _ (k step s b : ℕ) (h : k < 8) (p : IsStep step k) (e : b ≡ bit (next s step)) where
  lands : b ≡ bit (stepped s k)
  lands = is-stepped s k step b p e

  -- the code's `b == 0`: the edge
  at_edge : b ≡ 0 → 64 ≤ stepped s k
  at_edge z = ⊎_elim (λ q. q) (λ q. absurd (bit-some (stepped s k) q (sym lands ∙ z))) (le-or-lt 64 (stepped s k))

  pub on-board : (b ≡ 0 → ⊥) → stepped s k < 64
  on-board z =
      ⊎_elim
      (λ q. let o : stepped s k ≡ 64 = omega (arith, shift_le s (get_or step_xs k 0) (get_or step_ys k 0)) in
      absurd (z (lands ∙ rw o)))
      (λ q. q)
      (le-or-lt 64 (stepped s k))

  pub nearer : s < 64 → stepped s k < 64 → left step b < left step (bit s)
  unfolding nearer-right
  nearer l q =
      let parts : step ≡ get_or step_xs k 0 + 8 * get_or step_ys k 0 = omega (arith, p.0, p.1) in
      let here = get_or step_xs k 0 + 8 * get_or step_ys k 0 in
      let less = ltb (left here (bit (stepped s k))) (left here (bit s)) in
      rw (lands, parts)
      (ltb→lt (left here (bit (stepped s k))) (left here (bit s))
      (implied (ltb (stepped s k) 64) less (below2 nearer-right 8 64 all-nearer k s h l)
      (of-true (lt-ltb (stepped s k) 64 q))))

  module _ (occ : ℕ) (f : occ < 2 ^ 64) where
    pub meets-edge : b ≡ 0 → walk_of (has occ) s k ≡ None
    meets-edge z = walk-edge (has occ) s k h (at_edge z)

    pub meets-piece : (b ≡ 0 → ⊥) → (bit_and b occ ≡ 0 → ⊥) → walk_of (has occ) s k ≡ Some (lowest_square b)
    meets-piece z o =
        let q = on-board z in
        walk-next (has occ) s k h q
        ∙ rw (shared (stepped s k) occ q f (λ y. o (rw lands y)), lands, lowest-bit (stepped s k) q)

    pub goes_on : (b ≡ 0 → ⊥) → bit_and b occ ≡ 0 → walk_of (has occ) s k ≡ walk_of (has occ) (stepped s k) k
    goes_on z o = let q = on-board z in walk-next (has occ) s k h q ∙ rw (apart (stepped s k) occ q (rw (← lands) o))

    -- the code's `b & !occ`: no free square comes next
    abbrev free : ℕ
    free = bit_and b ((2 ^ 64 - 1) - occ)

    pub free-board : (free ≡ 0 → ⊥) → stepped s k < 64
    free-board z = on-board (λ y. z (rw y))

    -- the set gathers the squares of a line
    module _ (set t : ℕ) (l : t < 64) where
      pub gathers-on : (free ≡ 0 → ⊥)
          → (has set t || line_of (has occ) 0 s t k) ≡ (has (bit_or set b) t || line_of (has occ) 0 (stepped s k) t k)
      gathers-on z =
          let q = free-board z in
          let o : has occ (stepped s k) ≡ false =
          not-true (has occ (stepped s k))
          (sym (has-not occ (stepped s k) q f)
          ∙ shared (stepped s k) ((2 ^ 64 - 1) - occ) q (omega arith) (λ y. z (rw lands y))) in
          sweep-next (has occ) s k t h q (has set t) o ∙ rw (lands, has-added set (stepped s k) t q l)

      pub gathers-last : free ≡ 0 → (has set t || line_of (has occ) 0 s t k) ≡ has (bit_or set b) t
      gathers-last z = ⊎_elim edge piece (le-or-lt 64 (stepped s k))
        where
          edge : 64 ≤ stepped s k → (has set t || line_of (has occ) 0 s t k) ≡ has (bit_or set b) t
          edge q =
              let none : stepped s k ≡ 64 = omega (arith, shift_le s (get_or step_xs k 0) (get_or step_ys k 0)) in
              sweep-end (has set t) (line_of (has occ) 0 s t k) (line-edge (has occ) t s k h q)
              ∙ sym (has-or set b t ∙ sweep-end (has set t) (has b t) (rw (lands, none) (has-none t)))

          piece : stepped s k < 64 → (has set t || line_of (has occ) 0 s t k) ≡ has (bit_or set b) t
          piece q =
              let o : has occ (stepped s k) ≡ true =
              not-false (has occ (stepped s k))
              (sym (has-not occ (stepped s k) q f) ∙ apart (stepped s k) ((2 ^ 64 - 1) - occ) q (rw (← lands) z)) in
              sweep-stop (has occ) s k t h q (has set t) o ∙ sym (rw (lands, has-added set (stepped s k) t q l))

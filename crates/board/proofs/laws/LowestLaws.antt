-- The count of a set's members and the lowest of them, as counts of bits; and the set without its lowest member.
use Rattle.std.specs.Prelude.{◌≡◌, refl, Bool, true, false, not, ◌&&◌, ◌||◌, List, [], ◌∷◌, ℕ, zero, suc, ◌+◌, ◌*◌, ◌/◌, ◌%◌, ◌^◌, ◌<◌, min, T, eqb, length, get_or}
use Rattle.std.proofs.Common.{inl, inr, sym, ap, ap₂, subst, ◌∙◌, zero-add, add-zero, add-suc, suc-add, arith, eq-eqb, ne_eqb, eqb-true, eqb→eq}
use Rattle.std.proofs.Math.Bool.{and-true}
use mathlib.Core.List.Memᴰ
use Rattle.std.specs.Int.Bits.{bit_and, and_step, and_self}
use Rattle.std.specs.Int.Count.{ones, ones_in, ones_step, count_trailing_zeros, under}
use Rattle.finite.specs.Truth.{true_of, of-true, fails, or_left, or_right, or_cases, same_test}
use Rattle.finite.specs.Members.{◌∈◌, none_in}
use Rattle.finite.specs.Filter.{keep, filter, filter_same}
use Rattle.finite.specs.Numbers.{numbers, numbers-out}
use Rattle.board.specs.Sets.{has, squares, members, lowest_square, digit, pack, set_of}
use Rattle.board.proofs.laws.SetLaws.{pack-low, pack-rest, pack-same, has-none, has-set_of, set_of-has, set_is, members-in, members-out, members-set_of}

-- ---- the count of the ones is the number of members

length-keep : (b : Bool) (x : ℕ) (l : List ℕ) → length (keep b x l) ≡ digit b + length l
length-keep true x l = omega arith
length-keep false x l = omega arith

ones_none : (p : ℕ → Bool) (k : ℕ) → ones (pack p 0 k) ≡ 0
unfolding ones ones_in pack
ones_none p k = refl

ones-pack : (p : ℕ → Bool) (n k : ℕ) → ones (pack p n k) ≡ length (filter p (numbers n k))
unfolding filter numbers
ones-pack p zero k = ones_none p k
ones-pack p (suc n) k = ones_step (pack p (suc n) k) ∙ rw (pack-low, pack-rest, ones-pack p n (suc k), length-keep)

pub ones-members : (set : ℕ) → set < 2 ^ 64 → ones set ≡ length (members set)
unfolding set_of members squares
ones-members set h = ap ones (sym (set_of-has set h)) ∙ ones-pack (has set) 64 0

-- ---- the trailing zeros are the lowest member

trailing-pack : (p : ℕ → Bool) (n k : ℕ) → k + count_trailing_zeros n (pack p n k) ≡ get_or (filter p (numbers n k)) 0 (k + n)
unfolding filter numbers count_trailing_zeros
trailing-pack p zero k = refl
trailing-pack p (suc n) k = rw (pack-low, pack-rest) (go (p k) (trailing-pack p n (suc k)))
  where
    go : (b : Bool) → suc k + count_trailing_zeros n (pack p n (suc k)) ≡ get_or (filter p (numbers n (suc k))) 0 (suc k + n)
        → k + under (digit b) (count_trailing_zeros n (pack p n (suc k)))
        ≡ get_or (keep b k (filter p (numbers n (suc k)))) 0 (k + suc n)
    go true e = add-zero k
    go false e =
        rw (
          add-suc k (count_trailing_zeros n (pack p n (suc k))),
          add-suc k n,
          ← suc-add k n,
          ← suc-add k (count_trailing_zeros n (pack p n (suc k))),
        ) e

pub trailing-lowest : (set : ℕ) → set < 2 ^ 64 → count_trailing_zeros 64 set ≡ lowest_square set
unfolding set_of members squares
trailing-lowest set h = ap (count_trailing_zeros 64) (sym (set_of-has set h))
    ∙ sym (zero-add (count_trailing_zeros 64 (pack (has set) 64 0))) ∙ trailing-pack (has set) 64 0

-- ---- the set without its lowest member

-- the numbers that pass, without the first of them
tail-filter : (p : ℕ → Bool) (n k x : ℕ) (l : List ℕ) → filter p (numbers n k) ≡ x ∷ l
    → filter (λ u. p u && not (eqb u x)) (numbers n k) ≡ l
unfolding filter numbers
tail-filter p zero k x l e = absurd (let z : ◌≡◌ {A = ℕ} 0 1 = cc in omega arith)
tail-filter p (suc n) k x l e = go (p k) refl (λ d. tail-filter p n (suc k) x l d) e
  where
    rest : List ℕ
    rest = filter (λ u. p u && not (eqb u x)) (numbers n (suc k))

    go : (b : Bool) → p k ≡ b → (filter p (numbers n (suc k)) ≡ x ∷ l → rest ≡ l)
        → keep b k (filter p (numbers n (suc k))) ≡ x ∷ l → keep (p k && not (eqb k x)) k rest ≡ l
    go true d f q =
        let ex : k ≡ x = cc in
        let el : filter p (numbers n (suc k)) ≡ l = cc in
        rw (d, eq-eqb k x ex)
        (filter_same (λ u. p u && not (eqb u x)) p (numbers n (suc k))
        (λ u m. let r = (numbers-out n (suc k) u m).0 in rw (ne_eqb u x (λ (z : u ≡ x). omega arith)) (and-true (p u)))
        ∙ el)
    go false d f q = rw d (f q)

tail-members : (set x : ℕ) (l : List ℕ) → members set ≡ x ∷ l → filter (λ u. has set u && not (eqb u x)) squares ≡ l
unfolding members squares
tail-members set x l e = tail-filter (has set) 64 0 x l e

-- what a loop that takes the lowest member t out of a set uses: r is what it leaves
pub record Lowest (set t r : ℕ) : Type 0 where
  pub square : t < 64
  pub here : T (has set t)
  pub first : members set ≡ t ∷ members r
  pub fewer : length (members r) < length (members set)
  pub others : (u : ℕ) → u < 64 → has set u ≡ (eqb u t || has r u)

-- a set with no members is 0
empty-set : (set : ℕ) → set < 2 ^ 64 → members set ≡ [] → set ≡ 0
empty-set set h e =
    sym (set_is (has set) 0 (omega arith)
    (λ u l. has-none u ∙ sym (fails (has set u) (λ t. none_in e (members-in set u l t)))) ∙ set_of-has set h)

pub lowest-of : (set t r : ℕ) → set < 2 ^ 64 → (set ≡ 0 → ⊥) → t ≡ lowest_square set
    → r ≡ set_of (λ u. has set u && not (eqb u t)) → Lowest set t r
lowest-of set t r h some et er = go (members set) refl
  where
    facts : members set ≡ t ∷ members r → Lowest set t r
    facts e =
        let m = members-out set t (subst (λ (l : List ℕ). t ∈ l) (sym e) (Memᴰ.head refl)) in
        record {
          square = m.0;
          here = m.1;
          first = e;
          fewer = omega (arith, ap length e);
          others = λ u l. split u l (eqb u t) refl m.1;
        }
      where
        split : (u : ℕ) → u < 64 → (b : Bool) → eqb u t ≡ b → T (has set t) → has set u ≡ (eqb u t || has r u)
        split u l true q s = rw (q, eqb-true u t q, true_of {b = has set t} s)
        split u l false q s =
            rw (q, er, has-set_of (λ u. has set u && not (eqb u t)) u l, q) (sym (and-true (has set u)))

    go : (l : List ℕ) → members set ≡ l → Lowest set t r
    go [] e = absurd (some (empty-set set h e))
    go (x ∷ l) e =
        let ex : t ≡ x = et ∙ ap (λ (k : List ℕ). get_or k 0 64) e in
        let er' : members r ≡ l = ap members er ∙ members-set_of (λ u. has set u && not (eqb u t))
        ∙ rw ex (tail-members set x l e) in
        facts (e ∙ rw (ex, er'))

-- ---- the same as what the set and the number before it have in common

pub lowest-beyond : (set t r : ℕ) → set < 2 ^ 64 → (set ≡ 0 → ⊥) → t ≡ lowest_square set
    → r ≡ set_of (λ u. has set u && not (eqb u (lowest_square set))) → Lowest set t r
lowest-beyond set t r h some et er = lowest-of set t r h some et (er ∙ rw et)

halves : (a b x y i j : ℕ) → a / 2 ≡ x → b / 2 ≡ y → a % 2 ≡ i → b % 2 ≡ j → bit_and a b ≡ bit_and x y * 2 + min i j
halves a b x y i j p q u v = and_step a b ∙ ap₂ (λ (s t : ℕ). s * 2 + t) (ap₂ bit_and p q) (ap₂ min u v)

beyond-pack : (p : ℕ → Bool) (n k x : ℕ) (l : List ℕ) → filter p (numbers n k) ≡ x ∷ l → (m : ℕ) → pack p n k ≡ suc m
    → bit_and (pack p n k) m ≡ pack (λ u. p u && not (eqb u x)) n k
unfolding filter numbers
beyond-pack p zero k x l e m h = absurd (let z : ◌≡◌ {A = ℕ} 0 1 = cc in omega arith)
beyond-pack p (suc n) k x l e m h = go (p k) refl (beyond-pack p n (suc k) x l) e
  where
    left : ℕ → Bool
    left u = p u && not (eqb u x)

    go : (b : Bool) → p k ≡ b
        → (filter p (numbers n (suc k)) ≡ x ∷ l → (i : ℕ) → pack p n (suc k) ≡ suc i → bit_and (pack p n (suc k)) i ≡ pack left n (suc k))
        → keep b k (filter p (numbers n (suc k))) ≡ x ∷ l → bit_and (pack p (suc n) k) m ≡ pack left (suc n) k
    go true d f q =
        let ex : k ≡ x = cc in
        let low : pack p (suc n) k % 2 ≡ 1 = pack-low p n k ∙ ap digit d in
        let rest = pack-rest p n k in
        let low' : pack left (suc n) k % 2 ≡ 0 = pack-low left n k ∙ rw (d, eq-eqb k x ex) in
        let rest' = pack-rest left n k in
        halves (pack p (suc n) k) m (pack p n (suc k)) (pack p n (suc k)) 1 0 rest (omega arith) low (omega arith)
        ∙ ap (λ (r : ℕ). r * 2 + 0) (and_self (pack p n (suc k))
        ∙ pack-same p left n (suc k) (λ u a b. sym (rw (ne_eqb u x (λ (z : u ≡ x). omega arith)) (and-true (p u)))))
        ∙ omega arith
    go false d f q =
        let low : pack p (suc n) k % 2 ≡ 0 = pack-low p n k ∙ ap digit d in
        let rest = pack-rest p n k in
        let low' : pack left (suc n) k % 2 ≡ 0 = pack-low left n k ∙ rw d in
        let rest' = pack-rest left n k in
        halves (pack p (suc n) k) m (pack p n (suc k)) (m / 2) 0 1 rest refl low (omega arith)
        ∙ ap (λ (r : ℕ). r * 2 + 0) (f q (m / 2) (omega arith))
        ∙ omega arith

from_first : (set m x : ℕ) (l : List ℕ) → set < 2 ^ 64 → set ≡ suc m → members set ≡ x ∷ l
    → bit_and set m ≡ set_of (λ u. has set u && not (eqb u x))
unfolding set_of members squares
from_first set m x l h e q =
    ap (λ (n : ℕ). bit_and n m) (sym (set_of-has set h))
    ∙ beyond-pack (has set) 64 0 x l q m (set_of-has set h ∙ e)

pub common-beyond : (set m : ℕ) → set < 2 ^ 64 → set ≡ suc m → bit_and set m ≡ set_of (λ u. has set u && not (eqb u (lowest_square set)))
common-beyond set m h e = go (members set) refl
  where
    go : (l : List ℕ) → members set ≡ l → bit_and set m ≡ set_of (λ u. has set u && not (eqb u (lowest_square set)))
    go [] q = absurd (let z = empty-set set h q in omega arith)
    go (x ∷ l) q = let lx : lowest_square set ≡ x = ap (λ (k : List ℕ). get_or k 0 64) q in rw lx (from_first set m x l h e q)

-- ---- the same of an iterator's step, which says only what the members are

pub lowest-first : (set t r : ℕ) → members set ≡ t ∷ members r → Lowest set t r
lowest-first set t r e =
    let m = members-out set t (subst (λ (l : List ℕ). t ∈ l) (sym e) (Memᴰ.head refl)) in
    record {
      square = m.0;
      here = m.1;
      first = e;
      fewer = omega (arith, ap length e);
      others = same;
    }
  where
    here : (u : ℕ) → u ∈ members set → T (eqb u t || has r u)
    here u m = go (subst (λ (l : List ℕ). u ∈ l) e m)
      where
        go : u ∈ t ∷ members r → T (eqb u t || has r u)
        go (Memᴰ.head q) = or_left (eqb u t) (has r u) (of-true (eq-eqb u t q))
        go (Memᴰ.tail m) = or_right (eqb u t) (has r u) (members-out r u m).1

    back : (u : ℕ) → u < 64 → T (eqb u t || has r u) → T (has set u)
    back u l h = elim (or_cases (eqb u t) (has r u) h) [
      | inl q ↦ (members-out set u (subst (λ (k : List ℕ). u ∈ k) (sym e) (Memᴰ.head (eqb→eq u t q)))).1
      | inr q ↦ (members-out set u (subst (λ (k : List ℕ). u ∈ k) (sym e) (Memᴰ.tail (members-in r u l q)))).1
    ]

    same : (u : ℕ) → u < 64 → has set u ≡ (eqb u t || has r u)
    same u l = same_test (has set u) (eqb u t || has r u) (λ h. here u (members-in set u l h)) (back u l)

-- Laws by which filling's code is proved, over any numbering: one turn of a pass in place, and what a whole pass comes
-- to.
use Rattle.std.specs.Prelude.{◌≡◌, Bool, cond, List, ℕ, zero, suc, ◌+◌, ◌-◌, ◌<◌, ◌≤◌, get_or, set, None, Ok, Some}
use Rattle.std.proofs.Math.Path.{refl, sym, ap, subst}
use Rattle.std.proofs.Common.{ap₂, ◌∙◌, add-one, zero-add, add-zero, arith}
use Rattle.std.proofs.Math.Bool.{true, false, not}
use Rattle.std.proofs.Math.Dec.{T}
use Rattle.std.proofs.Math.ListN.{length}
use Rattle.std.proofs.Math.Seq.{ext_get_or}
use Rattle.std.proofs.lemmas.List.{set-get_or}
use Rattle.finite.specs.Truth.{false_of, fails}
use Rattle.finite.specs.Below.{all_below, below}
use Rattle.finite.specs.Ranked.{rank, rank-next, rank_most}
use Rattle.finite.specs.Mapped.{map_from, length-map_from, get_d-map_from, Upto, upto-more, upto_all}
use Rattle.theory.specs.Game.{Game}
use Rattle.table_theory.specs.Tables.{Numbering, settles, some_settles, pass_byte, passed, ended}
use Rattle.table_theory.specs.Steps.{settled_by}
use Rattle.table_theory.proofs.laws.Passing.{settles-in-place}
use Rattle.endings.specs.Answers.{result_of}
use Rattle.filling.specs.Settling.{Settle}

-- ---- one number settled, or not

module _ (G : Game) (N : Numbering G) (k : ℕ) (t : List ℕ) where
  pub settle-no : (n : ℕ) (s : Bool) → s ≡ settles G N k t n → s ≡ false → Settle G N k t n 0 t
  settle-no n s e z = record { told = sym (rw (sym e ∙ z)); bytes = sym (rw (sym e ∙ z) (set-get_or t n 0)) }

  pub settle-yes : (n : ℕ) (s : Bool) → s ≡ settles G N k t n → s ≡ true → Settle G N k t n 1 (set t n (2 + k))
  settle-yes n s e z = record { told = sym (rw (sym e ∙ z)); bytes = sym (rw (sym e ∙ z)) }

  -- some number below n is settled
  pub some_below : ℕ → Bool
  some_below n = not (all_below (λ m. not (settles G N k t m)) n)

  pub none_below : false ≡ some_below 0
  unfolding some_below all_below
  none_below = refl

  -- how many numbers below n are settled
  abbrev pub settled_below : ℕ → ℕ
  settled_below n = rank (settles G N k t) n

  pub settled-none : 0 ≡ settled_below 0
  unfolding rank
  settled-none = refl

  -- one turn of the pass in place
  pub pass-turn : (u w : List ℕ) (n did count : ℕ) → Upto (pass_byte G N k t) t u n → n < length t
      → Settle G N k u n did w → count ≡ settled_below n
      → Upto (pass_byte G N k t) t w (n + 1) × (count + did ≡ settled_below (n + 1))
  pass-turn u w n did count up h s e =
      let same = settles-in-place G N k t u n up in (
        subst (λ (l : List ℕ). Upto (pass_byte G N k t) t l (n + 1)) (sym s.bytes)
            (upto-more (pass_byte G N k t) t u n (pass_byte G N k u n (get_or u n 0)) up h
            (ap₂ (λ (b : Bool) (c : ℕ). cond b (2 + k) c) same (up.left n (omega arith)))),
        ap₂ ◌+◌ e (s.told ∙ ap (λ (b : Bool). cond b 1 0) same) ∙ counted (settles G N k t n) (settled_below n)
            ∙ sym (rank-next (settles G N k t) n (settles G N k t n) refl),
      )
    where
      counted : (b : Bool) (r : ℕ) → r + cond b 1 0 ≡ cond b (r + 1) r
      counted true r = refl
      counted false r = add-zero r

  -- no more than the numbers passed
  pub settled-low : (n count : ℕ) → count ≡ settled_below n → count ≤ n
  settled-low n count e = subst (λ (m : ℕ). m ≤ n) (sym e) (rank_most (settles G N k t) n)

  pub settle-one : (n did : ℕ) (w : List ℕ) → Settle G N k t n did w → did ≤ 1
  settle-one n did w s = subst (λ (m : ℕ). m ≤ 1) (sym s.told) (most (settles G N k t n))
    where
      most : (b : Bool) → cond b 1 0 ≤ 1
      most true = omega arith
      most false = omega arith

  pub pass-done : (u : List ℕ) (n count : ℕ) → n ≡ N.size → length t ≡ N.size → Upto (pass_byte G N k t) t u n
      → count ≡ settled_below n → (count ≡ settled_by G N k t) × (u ≡ passed G N k t)
  unfolding settled_by passed
  pass-done u n count z long up e = (e ∙ ap settled_below z, upto_all (pass_byte G N k t) t u n up (omega arith))

  -- pass 0, by that name
  pub pass-zero : (u : List ℕ) (count : ℕ) → k ≡ 0 → (count ≡ settled_by G N 0 t) × (u ≡ passed G N 0 t)
      → (count ≡ settled_by G N k t) × (u ≡ passed G N k t)
  pass-zero u count z h = rw z h

  -- a loop that looks for a number that is settled
  pub none_yet : (n : ℕ) (s : Bool) → s ≡ settles G N k t n → s ≡ false → some_below n ≡ false
      → some_below (n + 1) ≡ false
  unfolding some_below all_below
  none_yet n s e z before = rw (add-one n, ← e, z) before

  pub some-now : (n : ℕ) (s : Bool) → n < N.size → s ≡ settles G N k t n → s ≡ true → true ≡ some_settles G N k t
  unfolding some_settles
  some-now n s h e z =
      sym (ap not
      (fails (all_below (λ m. not (settles G N k t m)) N.size)
      (λ a. subst (λ (b : Bool). T (not b)) (sym e ∙ z) (below (λ m. not (settles G N k t m)) N.size a n h))))

  pub none_at_all : (n : ℕ) → n ≡ N.size → some_below n ≡ false → false ≡ some_settles G N k t
  unfolding some_below some_settles
  none_at_all n z e = sym (ap (λ (m : ℕ). not (all_below (λ j. not (settles G N k t j)) m)) (sym z) ∙ e)

  -- a pass that settles nothing changes nothing
  pub passed_none : length t ≡ N.size → some_settles G N k t ≡ false → passed G N k t ≡ t
  unfolding passed some_settles
  passed_none long e =
      ext_get_or 0 (map_from (pass_byte G N k t) 0 t) t (length-map_from (pass_byte G N k t) 0 t)
      (λ n h. let m : n < length t = subst (λ (s : ℕ). n < s) (length-map_from (pass_byte G N k t) 0 t) h in
      get_d-map_from (pass_byte G N k t) 0 t n m ∙ ap (λ (j : ℕ). pass_byte G N k t j (get_or t n 0)) (zero-add n)
      ∙ rw (unsettled n (subst (λ (s : ℕ). n < s) long m)))
    where
      all : (b : Bool) → not b ≡ false → T b
      all true q = tt
      all false q = absurd (subst T q tt)

      unsettled : (n : ℕ) → n < N.size → settles G N k t n ≡ false
      unsettled n h =
          false_of
          (below (λ m. not (settles G N k t m)) N.size (all (all_below (λ m. not (settles G N k t m)) N.size) e) n
          h)

-- ---- the answer

pub ended-none : (k : ℕ) → k ≡ 0 → Ok None ≡ result_of (ended k)
ended-none k e = rw e

pub ended_some : (k : ℕ) → (k ≡ 0 → ⊥) → Ok (Some (k - 1)) ≡ result_of (ended k)
ended_some zero n = absurd (n refl)
ended_some (suc k) n = let z : suc k - 1 ≡ k = omega arith in rw z

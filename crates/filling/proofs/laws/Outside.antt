-- Numbers that a pass settles none of are passed over: those below where it begins, and those from where it ends on.
use Rattle.std.specs.Prelude.{◌≡◌, refl, Bool, true, false, cond, ◌⊎◌, List, ℕ, zero, suc, ◌+◌, ◌-◌, ◌/◌, ◌<◌, ◌≤◌, length, get_or}
use Rattle.std.proofs.Common.{sym, ap, subst, ◌∙◌, inl, inr, zero-add, arith}
use Rattle.std.proofs.Math.Path.{subst⁻¹}
use Rattle.finite.specs.Truth.{le-or-lt}
use Rattle.finite.specs.Ranked.{rank-next}
use Rattle.finite.specs.Mapped.{Upto, upto-none}
use Rattle.theory.specs.Game.{Game}
use Rattle.table_theory.specs.Tables.{Numbering, settles, pass_byte}
use Rattle.rules.specs.Chess.{chess}
use Rattle.position.specs.declared.Men.{Men}
use Rattle.position.specs.Posed.{material_for}
use Rattle.four_men.specs.Lending.{lent}
use Rattle.working_back.specs.Admitted.{over, Admitted}
use Rattle.filling.specs.Quiet.{Quiet, QuietHalves, QuietOutside, low_of, high_of}
use Rattle.filling.proofs.laws.Laws.{settled_below, settled-none}
use Rattle.filling.proofs.laws.Quiet.{quiet-below, quiet-above}

module _ (G : Game) (N : Numbering G) (k : ℕ) (t : List ℕ) where
  -- a number that is not settled keeps its byte
  pub upto_skip : (u : List ℕ) (i : ℕ) → Upto (pass_byte G N k t) t u i → settles G N k t i ≡ false
      → Upto (pass_byte G N k t) t u (i + 1)
  upto_skip u i up z = record {
    same_length = up.same_length;
    done = λ n h. go n h (le-or-lt i n);
    left = λ n h. up.left n (omega arith);
  }
    where
      at : (n : ℕ) → n ≡ i → get_or u n 0 ≡ pass_byte G N k t n (get_or t n 0)
      at n e =
          up.left n (omega arith)
          ∙ sym (ap (λ (b : Bool). cond b (2 + k) (get_or t n 0)) (ap (settles G N k t) e ∙ z))

      go : (n : ℕ) → n < i + 1 → (i ≤ n) ⊎ (n < i) → get_or u n 0 ≡ pass_byte G N k t n (get_or t n 0)
      go n h (inl g) = at n (omega arith)
      go n h (inr g) = up.done n g

  -- nor do those of a run
  pub run-skip : (u : List ℕ) (i d j : ℕ) → i + d ≡ j → ((n : ℕ) → i ≤ n → n < j → settles G N k t n ≡ false)
      → Upto (pass_byte G N k t) t u i
      → Upto (pass_byte G N k t) t u j × (settled_below G N k t i ≡ settled_below G N k t j)
  run-skip u i zero j e f up =
      let z : i ≡ j = omega arith in
      subst (λ (x : ℕ). Upto (pass_byte G N k t) t u x × (settled_below G N k t i ≡ settled_below G N k t x)) z (up, refl)
  run-skip u i (suc d) j e f up =
      let z : j ≡ (i + d) + 1 = omega arith in
      let b = run-skip u i d (i + d) refl (λ n a h. f n a (omega arith)) up in
      let none = f (i + d) (omega arith) (omega arith) in
      subst⁻¹ (λ (x : ℕ). Upto (pass_byte G N k t) t u x × (settled_below G N k t i ≡ settled_below G N k t x)) z
      (upto_skip u (i + d) b.0 none, b.1 ∙ sym (rank-next (settles G N k t) (i + d) false none))

-- where a pass begins that settles none before, and where it ends that settles none behind
module _ (N : Numbering chess) (k : ℕ) (t : List ℕ) (from to : ℕ) (q : QuietOutside N k t from to) where
  pub begins : Upto (pass_byte chess N k t) t t from × (0 ≡ settled_below chess N k t from)
  begins =
      let r = run-skip chess N k t t 0 from from (zero-add from) (λ n a h. q.below n h) (upto-none _ t) in
      (r.0, settled-none chess N k t ∙ r.1)

  pub ends : (u : List ℕ) (n count : ℕ) → n ≤ to → to ≤ n → Upto (pass_byte chess N k t) t u n
      → count ≡ settled_below chess N k t n
      → Upto (pass_byte chess N k t) t u (length t) × (count ≡ settled_below chess N k t (length t))
  ends u n count a b up e =
      let l : n + (length t - n) ≡ length t = omega (arith, a, q.within.1) in
      let r = run-skip chess N k t u n (length t - n) (length t) l (λ i g h. q.above i (omega (arith, b, g)) h) up in
      (r.0, e ∙ r.1)

-- ---- the halves that are left out

module _ (m : Men) (first second t : List ℕ) (a : Admitted m first second t) (k : ℕ) where
  low : (w : Bool)
      → (w ≡ false → Quiet (material_for m) (lent first second) k t (length t / 2) (length t) (low_of m) 59136)
      → (n : ℕ) → n < cond w 0 (length t / 2) → settles chess (over m first second) k t n ≡ false
  low true f n h = absurd (omega (arith, h))
  low false f n h = quiet-below m first second t a k n h (f refl)

  high : (b : Bool) → (b ≡ false → Quiet (material_for m) (lent first second) k t 0 (length t / 2) 0 (high_of m))
      → (n : ℕ) → cond b (length t) (length t / 2) ≤ n → n < length t → settles chess (over m first second) k t n ≡ false
  high true f n g h = absurd (omega (arith, g, h))
  high false f n g h = quiet-above m first second t a k n h g (f refl)

  order : (w b : Bool) (s : ℕ) → (cond w 0 (s / 2) ≤ cond b s (s / 2)) × (cond b s (s / 2) ≤ s)
  order true true s = omega arith
  order true false s = omega arith
  order false true s = omega arith
  order false false s = omega arith

  pub quiet-outside : (white black : Bool) → QuietHalves m first second k t white black → (from to : ℕ)
      → from ≡ cond white 0 (length t / 2) → to ≡ cond black (length t) (length t / 2)
      → QuietOutside (over m first second) k t from to
  quiet-outside white black q from to e f = record {
    within = subst⁻¹ (λ (x : ℕ). (x ≤ to) × (to ≤ length t)) e
        (subst⁻¹ (λ (y : ℕ). (cond white 0 (length t / 2) ≤ y) × (y ≤ length t)) f (order white black (length t)));
    below = λ n h. low white q.in-white n (subst (λ (x : ℕ). n < x) e h);
    above = λ n g h. high black q.in-black n (subst (λ (y : ℕ). y ≤ n) f g) h;
  }

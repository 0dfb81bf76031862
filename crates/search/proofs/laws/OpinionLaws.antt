-- The depths asked in rising order, a win at odd and a loss at even ones: what is found there is the opinion.
use Rattle.std.specs.Prelude.{◌≡◌, ◌⊎◌, Bool, T, Err, Ok, Result}
use Rattle.std.proofs.Math.Path.{sym}
use Rattle.std.proofs.Common.{subst, ◌∙◌, ⊎_elim, eq-or-lt_of_le, le_of_suc-le-suc, add-one, arith}
use Rattle.std.proofs.Math.Bool.{true, false}
use Prim.Native.Nat.{ℕ, suc, ◌+◌, ◌%◌, ◌<◌, ◌≤◌}
use borrow.Author.Tests.{eq-eqb, ne_eqb, le-leb, lt-leb}
use Rattle.finite.specs.Truth.{or_left, or_right, or_cases, of-true, fails, refuted}
use Rattle.finite.specs.Lowest.{lowest, lowest-none, lowest-is}
use Rattle.theory.specs.Value.{won, lost}
use Rattle.theory.proofs.laws.Within.{won-exact, lost-exact, won-not-lost}
use Rattle.theory.proofs.laws.Depth.{won-odd, lost-even}
use Rattle.rules.specs.Rules.{Board}
use Rattle.rules.specs.Chess.{chess}
use Rattle.position.specs.declared.Position.{Position}
use Rattle.position.specs.Refusals.{standing_refusal}
use Rattle.position.specs.Keyed.{board_of}
use Rattle.position.proofs.laws.Legality.{standing-facts}
use Rattle.rules.proofs.laws.Legal.{legal-pawnless}
use Rattle.search.specs.declared.Opinion.{Opinion}
use Rattle.search.specs.Tried.{Pawnless}
use Rattle.search.specs.Opinions.{most, asked_in, decided_in, least_depth, searched, opinion_of}

-- decided in none of the depths below n
abbrev pub NoneBelow : Board → ℕ → Type 0
NoneBelow b n = (j : ℕ) → j < n → T (decided_in b j) → ⊥

module _ (b : Board) where
  pub in-won : (n : ℕ) → T (won chess n b) → T (decided_in b n)
  unfolding decided_in
  in-won n t = or_left (won chess n b) (lost chess n b) t

  pub in-lost : (n : ℕ) → T (lost chess n b) → T (decided_in b n)
  unfolding decided_in
  in-lost n t = or_right (won chess n b) (lost chess n b) t

  pub decided-cases : (n : ℕ) → T (decided_in b n) → T (won chess n b) ⊎ T (lost chess n b)
  unfolding decided_in
  decided-cases n t = or_cases (won chess n b) (lost chess n b) t

  module _ (n : ℕ) (below : NoneBelow b n) where
    -- a win found first is odd, and a loss even
    first-odd : T (won chess n b) → n % 2 ≡ 1
    first-odd t =
        let w = won-exact chess n b t in
        ⊎_elim (λ e. subst (λ (m : ℕ). m % 2 ≡ 1) e (won-odd chess w.0 b w.2))
        (λ l. absurd (below w.0 l (in-won w.0 w.2.within))) (eq-or-lt_of_le w.1)

    first-even : T (lost chess n b) → n % 2 ≡ 0
    first-even t =
        let w = lost-exact chess n b t in
        ⊎_elim (λ e. subst (λ (m : ℕ). m % 2 ≡ 0) e (lost-even chess w.0 b w.2))
        (λ l. absurd (below w.0 l (in-lost w.0 w.2.within))) (eq-or-lt_of_le w.1)

    asked-won : T (won chess n b) → T (asked_in b n)
    asked-won t = rw (eq-eqb (n % 2) 1 (first-odd t)) t

    asked-lost : T (lost chess n b) → T (asked_in b n)
    asked-lost t = let e = first-even t in rw (ne_eqb (n % 2) 1 (λ q. omega arith)) t

    -- asking by parity misses nothing
    asked-all : T (decided_in b n) → T (asked_in b n)
    asked-all t = ⊎_elim asked-won asked-lost (decided-cases n t)

    -- not found here: go on
    pub below_more : (found : Bool) → found ≡ asked_in b n → found ≡ false → NoneBelow b (n + 1)
    below_more found e f j h t =
        ⊎_elim (λ q. refuted (sym e ∙ f) (asked-all (subst (λ (i : ℕ). T (decided_in b i)) q t))) (λ l. below j l t)
        (eq-or-lt_of_le (le_of_suc-le-suc (rw (add-one n) at h)))

    module _ (k : ℕ) where
      pub found_none : k < n → Ok Opinion.NotWithin ≡ searched b k
      unfolding searched least_depth
      found_none h =
          let low : lowest (decided_in b) (suc k) ≡ suc k =
          lowest-none (decided_in b) (suc k) (λ j l. below j (omega arith)) in
          sym (rw (low, lt-leb (suc k) k (omega arith)))

      module _ (h : n ≤ k) (found : Bool) (e : found ≡ asked_in b n) (t : found ≡ true) where
        pub found-win : n % 2 ≡ 1 → Ok (Opinion.Win n) ≡ searched b k
        unfolding searched least_depth
        found-win o =
            let w : won chess n b ≡ true = sym (rw (eq-eqb (n % 2) 1 o)) ∙ sym e ∙ t in
            let low : lowest (decided_in b) (suc k) ≡ n =
            lowest-is (decided_in b) (suc k) n (omega arith) below (in-won n (of-true w)) in
            sym (rw (low, le-leb n k h, w))

        pub found-loss : (n % 2 ≡ 1 → ⊥) → Ok (Opinion.Loss n) ≡ searched b k
        unfolding searched least_depth
        found-loss o =
            let l : lost chess n b ≡ true = sym (rw (ne_eqb (n % 2) 1 o)) ∙ sym e ∙ t in
            let w : won chess n b ≡ false = fails (won chess n b) (λ x. won-not-lost chess n n b x (of-true l)) in
            let low : lowest (decided_in b) (suc k) ≡ n =
            lowest-is (decided_in b) (suc k) n (omega arith) below (in-lost n (of-true l)) in
            sym (rw (low, le-leb n k h, w))

  pub below_none : NoneBelow b 0
  below_none j h t = absurd (omega arith)

-- what is asked, by the position
module _ (s : Position) (n : ℕ) (found : Bool) where
  pub asked-odd : n % 2 ≡ 1 → found ≡ won chess n (board_of s) → found ≡ asked_in (board_of s) n
  asked-odd o e = e ∙ sym (rw (eq-eqb (n % 2) 1 o))

  pub asked-even : (n % 2 ≡ 1 → ⊥) → found ≡ lost chess n (board_of s) → found ≡ asked_in (board_of s) n
  asked-even o e = e ∙ sym (rw (ne_eqb (n % 2) 1 o))

-- from the search to the answer
module _ (p : Position) (k r : ℕ) (e : r ≡ standing_refusal p) where
  pub opinion-refused : (r ≡ 0 → ⊥) → Err r ≡ opinion_of p k
  unfolding opinion_of
  opinion-refused n = sym (rw (ne_eqb (standing_refusal p) 0 (λ q. n (e ∙ q)), ← e))

  module _ (z : r ≡ 0) where
    -- what is not refused has no pawn
    pub served-pawnless : Pawnless (board_of p)
    served-pawnless = legal-pawnless (board_of p) (standing-facts p (sym e ∙ z)).1

    pub opinion-deep : most < k → Err 16 ≡ opinion_of p k
    unfolding opinion_of
    opinion-deep h = sym (rw (eq-eqb (standing_refusal p) 0 (sym e ∙ z), lt-leb k most h))

    pub opinion-searched : (o : Result Opinion ℕ) → k ≤ most → o ≡ searched (board_of p) k → o ≡ opinion_of p k
    unfolding opinion_of
    opinion-searched o h f = f ∙ sym (rw (eq-eqb (standing_refusal p) 0 (sym e ∙ z), le-leb k most h))

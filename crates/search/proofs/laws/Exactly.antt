-- The second opinion is the value definition's (02, P7: "Show that it equals the value definition"), and stalemate is no loss.
use Rattle.std.specs.Prelude.{◌≡◌, ◌⊎◌, ◌↔◌, cond, ℕ, suc, ◌<◌, ◌≤◌, leb, Ok, Result}
use Rattle.std.proofs.Common.{ap, subst, ◌∙◌, inl, inr}
use native.Mathlib.Omega.{arith}
use Rattle.std.proofs.Math.Dec.{T}
use borrow.Author.Tests.{le-leb, lt-leb, eq-eqb}
use Rattle.finite.specs.Truth.{true_of, fails, le-or-lt}
use Rattle.finite.specs.Lowest.{lowest, lowest-le, lowest-passes}
use Rattle.theory.specs.Value.{won, lost, WonIn, LostIn, Drawn, DepthIs}
use Rattle.theory.proofs.laws.Within.{won-not-lost}
use Rattle.theory.proofs.laws.Depth.{one-depth, draw-is}
use Rattle.rules.specs.Rules.{Board}
use Rattle.rules.specs.Chess.{chess}
use Rattle.position.specs.declared.Position.{Position}
use Rattle.position.specs.Keyed.{board_of}
use Rattle.position.specs.Refusals.{standing_refusal}
use Rattle.search.specs.declared.Opinion.{Opinion}
use Rattle.search.specs.Opinions.{most, decided_in, least_depth, searched, opinion_of}
use Rattle.search.specs.TrueOpinion.{TrueOpinion, Exact}
use Rattle.search.proofs.laws.OpinionLaws.{in-won, in-lost, decided-cases}

module _ (b : Board) (k : ℕ) where
  in-depth : (n : ℕ) → DepthIs chess n b → T (decided_in b n)
  in-depth n (DepthIs.win w) = in-won b n w.within
  in-depth n (DepthIs.loss l) = in-lost b n l.within

  -- what is decided is so in no less than the least depth found
  least : (n : ℕ) → least_depth b k ≤ k → T (decided_in b n) → least_depth b k ≤ n
  unfolding least_depth
  least n h t = go (le-or-lt n k)
    where
      go : (n ≤ k) ⊎ (k < n) → lowest (decided_in b) (suc k) ≤ n
      go (inl l) = lowest-le (decided_in b) (suc k) n (omega arith) t
      go (inr l) = omega arith

  passes : least_depth b k ≤ k → T (decided_in b (least_depth b k))
  unfolding least_depth
  passes h = lowest-passes (decided_in b) (suc k) (omega arith)

  none_within : k < least_depth b k → (n : ℕ) → n ≤ k → DepthIs chess n b → ⊥
  unfolding least_depth
  none_within h n l d = omega (arith, lowest-le (decided_in b) (suc k) n (omega arith) (in-depth n d))

  pub searched-true : TrueOpinion b k (searched b k)
  unfolding searched
  searched-true = go (le-or-lt (least_depth b k) k)
    where
      found : least_depth b k ≤ k → T (won chess (least_depth b k) b) ⊎ T (lost chess (least_depth b k) b)
          → TrueOpinion b k
          (cond (won chess (least_depth b k) b) (Ok (Opinion.Win (least_depth b k))) (Ok (Opinion.Loss (least_depth b k))))
      found h (inl t) =
          TrueOpinion.win (least_depth b k) (record { within = t; least = λ m s. least m h (in-won b m s) }) h
          (rw (true_of {b = won chess (least_depth b k) b} t))
      found h (inr t) =
          TrueOpinion.loss (least_depth b k) (record { within = t; least = λ m s. least m h (in-lost b m s) }) h
          (rw (fails (won chess (least_depth b k) b) (λ x. won-not-lost chess (least_depth b k) (least_depth b k) b x t)))

      go : (least_depth b k ≤ k) ⊎ (k < least_depth b k)
          → TrueOpinion b k
          (cond (leb (least_depth b k) k)
          (cond (won chess (least_depth b k) b) (Ok (Opinion.Win (least_depth b k))) (Ok (Opinion.Loss (least_depth b k))))
          (Ok Opinion.NotWithin))
      go (inl h) = rw (le-leb (least_depth b k) k h) (found h (decided-cases b (least_depth b k) (passes h)))
      go (inr h) = TrueOpinion.neither (none_within h) (rw (lt-leb (least_depth b k) k h))

-- ---- exactly when

clash : ◌≡◌ {A = ℕ} 0 1 → ⊥
clash z = omega arith

module _ (b : Board) (k : ℕ) (o : Result Opinion ℕ) (true? : TrueOpinion b k o) where
  pub win-exactly : (n : ℕ) → (o ≡ Ok (Opinion.Win n)) ↔ (WonIn chess n b × (n ≤ k))
  win-exactly n = (λ q. forth q true?, λ w. back w.0 w.1 true?)
    where
      forth : o ≡ Ok (Opinion.Win n) → TrueOpinion b k o → WonIn chess n b × (n ≤ k)
      forth q (TrueOpinion.win m w h e) = let z : m ≡ n = cc in subst (λ (i : ℕ). WonIn chess i b × (i ≤ k)) z (w, h)
      forth q (TrueOpinion.loss m l h e) = let z : ◌≡◌ {A = ℕ} 0 1 = cc in absurd (clash z)
      forth q (TrueOpinion.neither f e) = let z : ◌≡◌ {A = ℕ} 0 1 = cc in absurd (clash z)

      back : WonIn chess n b → n ≤ k → TrueOpinion b k o → o ≡ Ok (Opinion.Win n)
      back v g (TrueOpinion.win m w h e) = e ∙ ap (λ x0. Ok (Opinion.Win x0)) (one-depth chess m n b (DepthIs.win w) (DepthIs.win v))
      back v g (TrueOpinion.loss m l h e) = absurd (won-not-lost chess n m b v.within l.within)
      back v g (TrueOpinion.neither f e) = absurd (f n g (DepthIs.win v))

  pub loss-exactly : (n : ℕ) → (o ≡ Ok (Opinion.Loss n)) ↔ (LostIn chess n b × (n ≤ k))
  loss-exactly n = (λ q. forth q true?, λ w. back w.0 w.1 true?)
    where
      forth : o ≡ Ok (Opinion.Loss n) → TrueOpinion b k o → LostIn chess n b × (n ≤ k)
      forth q (TrueOpinion.loss m l h e) = let z : m ≡ n = cc in subst (λ (i : ℕ). LostIn chess i b × (i ≤ k)) z (l, h)
      forth q (TrueOpinion.win m w h e) = let z : ◌≡◌ {A = ℕ} 0 1 = cc in absurd (clash z)
      forth q (TrueOpinion.neither f e) = let z : ◌≡◌ {A = ℕ} 0 1 = cc in absurd (clash z)

      back : LostIn chess n b → n ≤ k → TrueOpinion b k o → o ≡ Ok (Opinion.Loss n)
      back v g (TrueOpinion.loss m l h e) =
          e ∙ ap (λ x0. Ok (Opinion.Loss x0)) (one-depth chess m n b (DepthIs.loss l) (DepthIs.loss v))
      back v g (TrueOpinion.win m w h e) = absurd (won-not-lost chess m n b w.within v.within)
      back v g (TrueOpinion.neither f e) = absurd (f n g (DepthIs.loss v))

  pub none-exactly : (o ≡ Ok Opinion.NotWithin) ↔ ((n : ℕ) → n ≤ k → DepthIs chess n b → ⊥)
  none-exactly = (λ q. forth q true?, λ f. back f true?)
    where
      forth : o ≡ Ok Opinion.NotWithin → TrueOpinion b k o → (n : ℕ) → n ≤ k → DepthIs chess n b → ⊥
      forth q (TrueOpinion.neither f e) = f
      forth q (TrueOpinion.win m w h e) = let z : ◌≡◌ {A = ℕ} 0 1 = cc in absurd (clash z)
      forth q (TrueOpinion.loss m l h e) = let z : ◌≡◌ {A = ℕ} 0 1 = cc in absurd (clash z)

      back : ((n : ℕ) → n ≤ k → DepthIs chess n b → ⊥) → TrueOpinion b k o → o ≡ Ok Opinion.NotWithin
      back g (TrueOpinion.neither f e) = e
      back g (TrueOpinion.win m w h e) = absurd (g m h (DepthIs.win w))
      back g (TrueOpinion.loss m l h e) = absurd (g m h (DepthIs.loss l))

  -- a draw has no depth
  pub not-of-draw : Drawn chess b → o ≡ Ok Opinion.NotWithin
  not-of-draw d = none-exactly.1 (λ n l e. (draw-is chess b).0 d n e)

-- ---- the second opinion on a position that nothing refuses

module _ (p : Position) (k : ℕ) (few : k ≤ most) where
  pub opinion-true : standing_refusal p ≡ 0 → TrueOpinion (board_of p) k (opinion_of p k)
  unfolding opinion_of
  opinion-true z = rw (eq-eqb (standing_refusal p) 0 z, le-leb k most few) (searched-true (board_of p) k)

  pub opinion-exact : standing_refusal p ≡ 0 → Exact p k
  opinion-exact l =
      let o = opinion-true l in
      record {
        win = win-exactly (board_of p) k (opinion_of p k) o;
        loss = loss-exactly (board_of p) k (opinion_of p k) o;
        not_within = none-exactly (board_of p) k (opinion_of p k) o;
      }

-- What 01 says of depth: loss in 0, win in n, loss in n, draw; one depth, wins odd and losses even.
use Rattle.std.specs.Prelude.{◌≡◌, refl, ◌⊎◌, ◌↔◌, not, [], map, ℕ, zero, suc, ◌%◌, ◌≤◌, T}
use Rattle.std.proofs.Common.{ap, inl, inr, zero-le, le_of_suc-le-suc, not-suc-le-zero, arith, T_not}
use Rattle.finite.specs.Truth.{decided}
use Rattle.finite.specs.Members.{◌∈◌, all, all-out, all-fails, none_in}
use Rattle.theory.specs.Game.{Game, next}
use Rattle.theory.specs.Value.{won, lost, WonIn, LostIn, Drawn, DepthIs}
use Rattle.theory.proofs.laws.Within.{above, AllWon, mate-next, won-zero, won-in, won-out, lost-zero, lost-mate, lost-in, lost-out, won-up, won-le, won-exact, lost-exact, won-not-lost}

module _ (G : Game) where
  -- Checkmate is a loss in 0, and nothing else is; nothing is a win in 0.
  pub mate-is : (p : G.Pos) → LostIn G 0 p ↔ T (G.mated p)
  mate-is p = (λ l. (lost-zero G p).0 l.within, λ t. record { within = (lost-zero G p).1 t; least = λ m s. zero-le })

  pub no-win-in-0 : (p : G.Pos) → WonIn G 0 p → ⊥
  no-win-in-0 p w = won-zero G p w.within

  -- A win in n + 1: some legal move leads to a loss in n, and none to a loss in fewer.
  pub record WinRule (n : ℕ) (p : G.Pos) : Type 0 where
    pub to : G.Pos
    pub legal : to ∈ next G p
    pub loss : LostIn G n to
    pub none-shorter : (q : G.Pos) → q ∈ next G p → (m : ℕ) → LostIn G m q → n ≤ m

  pub win-is : (n : ℕ) (p : G.Pos) → WonIn G (suc n) p ↔ WinRule n p
  win-is n p = (
    λ w. rule w (won-out G n p w.within),
    λ r. record { within = won-in G n p r.to r.legal r.loss.within; least = λ m. shortest r m },
  )
    where
      rule : WonIn G (suc n) p → (q : G.Pos) × (q ∈ next G p) × T (lost G n q) → WinRule n p
      rule w o = record {
        to = o.0;
        legal = o.1;
        loss =
            record { within = o.2; least = λ m t. le_of_suc-le-suc (w.least (suc m) (won-in G m p o.0 o.1 t)) };
        none-shorter = λ q i m l. le_of_suc-le-suc (w.least (suc m) (won-in G m p q i l.within));
      }

      shortest : WinRule n p → (m : ℕ) → T (won G m p) → suc n ≤ m
      shortest r zero t = absurd (won-zero G p t)
      shortest r (suc m) t = let o = won-out G m p t in let e = lost-exact G m o.0 o.2 in
          omega (arith, e.1, r.none-shorter o.0 o.1 e.0 e.2)

  -- A loss in n + 1: there are legal moves, each leads to a win in at most n, and one to a win in n.
  pub record LossRule (n : ℕ) (p : G.Pos) : Type 0 where
    pub to : G.Pos
    pub legal : to ∈ next G p
    pub longest : WonIn G n to
    pub all-won : (q : G.Pos) → q ∈ next G p → (m : ℕ) × (m ≤ n) × WonIn G m q

  pub loss-is : (n : ℕ) (p : G.Pos) → LostIn G (suc n) p ↔ LossRule n p
  loss-is n p = (
    λ l. rule n l (lost-out G n p l.within),
    λ r. record { within = lost-in G n p (all_of r); least = λ m. longest-needed r m },
  )
    where
      all_of : LossRule n p → AllWon G n p
      all_of r = record {
        to = r.to;
        legal = r.legal;
        each = λ q i. let e = r.all-won q i in
            won-le G e.0 n q e.1 e.2.within;
      }

      longest-needed : LossRule n p → (m : ℕ) → T (lost G m p) → suc n ≤ m
      longest-needed r zero t = absurd (mate-next G p ((lost-zero G p).0 t) r.to r.legal)
      longest-needed r (suc m) t = out (lost-out G m p t)
        where
          out : T (G.mated p) ⊎ AllWon G m p → suc n ≤ suc m
          out (inl s) = absurd (mate-next G p s r.to r.legal)
          out (inr a) = omega (arith, r.longest.least m (a.each r.to r.legal))

      rule : (k : ℕ) → LostIn G (suc k) p → T (G.mated p) ⊎ AllWon G k p → LossRule k p
      rule k l (inl s) = absurd (not-suc-le-zero (l.least 0 (lost-mate G 0 p s)))
      rule zero l (inr a) = absurd (won-zero G a.to (a.each a.to a.legal))
      rule (suc k) l (inr a) = pick (decided (all (λ q. won G k q) (next G p)))
        where
          pick : T (all (λ q. won G k q) (next G p)) ⊎ T (not (all (λ q. won G k q) (next G p))) → LossRule (suc k) p
          pick (inl t) =
              absurd (omega (
                arith,
                l.least (suc k)
                    (lost-in G k p
                    (record { to = a.to; legal = a.legal; each = λ q i. all-out (λ r. won G k r) i t })),
              ))
          pick (inr t) = let f = all-fails (λ q. won G k q) (next G p) t in
              record {
                to = f.0;
                legal = f.1;
                longest = record {
                  within = a.each f.0 f.1;
                  least = λ m. above (λ j. won G j f.0) (won-up G f.0) k m f.2;
                };
                all-won = λ q i. won-exact G (suc k) q (a.each q i);
              }

  -- Wins are odd, losses even.
  parity : (n : ℕ) → ((p : G.Pos) → WonIn G n p → n % 2 ≡ 1) × ((p : G.Pos) → LostIn G n p → n % 2 ≡ 0)
  parity zero = (λ p w. absurd (no-win-in-0 p w), λ p l. refl)
  parity (suc n) = (
    λ p w. let r = (win-is n p).0 w in omega (arith, (parity n).1 r.to r.loss),
    λ p l. let r = (loss-is n p).0 l in omega (arith, (parity n).0 r.to r.longest),
  )

  pub won-odd : (n : ℕ) (p : G.Pos) → WonIn G n p → n % 2 ≡ 1
  won-odd n = (parity n).0

  pub lost-even : (n : ℕ) (p : G.Pos) → LostIn G n p → n % 2 ≡ 0
  lost-even n = (parity n).1

  pub depth-odd : (n : ℕ) (p : G.Pos) → DepthIs G n p → n % 2 ≡ 1 → WonIn G n p
  depth-odd n p (DepthIs.win a) e = a
  depth-odd n p (DepthIs.loss a) e = absurd (omega (arith, lost-even n p a))

  pub depth-even : (n : ℕ) (p : G.Pos) → DepthIs G n p → n % 2 ≡ 0 → LostIn G n p
  depth-even n p (DepthIs.loss a) e = a
  depth-even n p (DepthIs.win a) e = absurd (omega (arith, won-odd n p a))

  -- A position has one depth.
  pub one-depth : (n m : ℕ) (p : G.Pos) → DepthIs G n p → DepthIs G m p → n ≡ m
  one-depth n m p (DepthIs.win a) (DepthIs.win b) = omega (arith, a.least m b.within, b.least n a.within)
  one-depth n m p (DepthIs.win a) (DepthIs.loss b) = absurd (won-not-lost G n m p a.within b.within)
  one-depth n m p (DepthIs.loss a) (DepthIs.win b) = absurd (won-not-lost G m n p b.within a.within)
  one-depth n m p (DepthIs.loss a) (DepthIs.loss b) = omega (arith, a.least m b.within, b.least n a.within)

  -- A draw is what has no depth.
  pub draw-is : (p : G.Pos) → Drawn G p ↔ ((n : ℕ) → DepthIs G n p → ⊥)
  draw-is p = (
    none,
    λ h. record {
      not-won = λ m t. let e = won-exact G m p t in h e.0 (DepthIs.win e.2);
      not-lost = λ m t. let e = lost-exact G m p t in h e.0 (DepthIs.loss e.2);
    },
  )
    where
      none : Drawn G p → (n : ℕ) → DepthIs G n p → ⊥
      none d n (DepthIs.win a) = d.not-won n a.within
      none d n (DepthIs.loss a) = d.not-lost n a.within

  -- No move and no mate is a draw: stalemate, bare kings.
  pub stuck-drawn : (p : G.Pos) → G.moves p ≡ [] → T (not (G.mated p)) → Drawn G p
  stuck-drawn p o t = (draw-is p).1 no-depth
    where
      none-next : (q : G.Pos) → q ∈ next G p → ⊥
      none-next q m = none_in (ap (map (G.play p)) o) m

      no-depth : (n : ℕ) → DepthIs G n p → ⊥
      no-depth zero (DepthIs.win w) = no-win-in-0 p w
      no-depth zero (DepthIs.loss l) = T_not (G.mated p) t ((mate-is p).0 l)
      no-depth (suc n) (DepthIs.win w) = let r = (win-is n p).0 w in none-next r.to r.legal
      no-depth (suc n) (DepthIs.loss l) = let r = (loss-is n p).0 l in none-next r.to r.legal

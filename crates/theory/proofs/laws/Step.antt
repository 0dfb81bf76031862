-- One ply of the rule, for filling, checking and looking up alike: where the successors' bytes are right about the depths below k, the
-- rule requires depth k exactly at the positions of depth k.
use Rattle.std.specs.Prelude.{◌≡◌, refl, ◌⊎◌, ◌↔◌, Bool, true, not, List, map, ℕ, zero, suc, ◌+◌, ◌-◌, ◌≤◌, ◌<◌, T, leb}
use Rattle.std.proofs.Common.{ap, inl, inr, arith, T_not, leb→le, le→leb}
use Rattle.std.proofs.Math.Bool.{false}
use Rattle.finite.specs.Truth.{decided, of-true}
use Rattle.finite.specs.Members.{◌∈◌, map-in, map-out, map_same, map-twice}
use Rattle.theory.specs.Game.{Game, next}
use Rattle.theory.specs.Value.{DepthIs}
use Rattle.theory.proofs.laws.Depth.{mate-is, no-win-in-0, win-is, loss-is, won-odd, lost-even, depth-odd, depth-even, one-depth}
use Rattle.theory.specs.Required.{Rule, required, required_at}
use Rattle.theory.proofs.laws.RuleLaws.{required-rule, rule-one}

-- j ≤ n, where it is enough to show that for n ≤ j
near : (j n : ℕ) → (n ≤ j → j ≤ n) → j ≤ n
near j n f = go (decided (leb n j))
  where
    go : T (leb n j) ⊎ T (not (leb n j)) → j ≤ n
    go (inl t) = f (leb→le n j t)
    go (inr t) = let h : ¬ (n ≤ j) = λ l. T_not (leb n j) t (le→leb n j l) in omega arith

module _ (G : Game) where
  -- only the bytes at the successors count
  pub required-reads : (f g : G.Pos → ℕ) (p : G.Pos) → ((q : G.Pos) → q ∈ next G p → f q ≡ g q)
      → required_at G f p ≡ required_at G g p
  required-reads f g p h = ap (required (G.mated p)) (map_same f g (next G p) h)

  -- as a loop over the moves reads them
  pub required-moves : (reads : G.Pos → ℕ) (p : G.Pos)
      → required_at G reads p ≡ required (G.mated p) (map (λ m. reads (G.play p m)) (G.moves p))
  required-moves reads p = ap (required (G.mated p)) (map-twice reads (G.play p) (G.moves p))

  -- the byte at q is right about the depths below k
  abbrev pub RightBelow : (G.Pos → ℕ) → ℕ → G.Pos → Type 0
  RightBelow reads k q = (n : ℕ) → n < k → (reads q ≡ 2 + n) ↔ DepthIs G n q

  module _ (reads : G.Pos → ℕ) (p : G.Pos) where
    abbrev bytes : List ℕ
    bytes = map reads (next G p)

    mate-step : (k : ℕ) → T (G.mated p) → (2 ≡ 2 + k) ↔ DepthIs G k p
    mate-step k t = (
      λ e. let z : 0 ≡ k = omega arith in rw (← z) (DepthIs.loss ((mate-is G p).1 t)),
      λ d. let z = one-depth G k 0 p d (DepthIs.loss ((mate-is G p).1 t)) in omega arith,
    )

    -- from the rule to the depth
    to-depth : (k : ℕ) → ((q : G.Pos) → q ∈ next G p → RightBelow reads k q) → Rule bytes (2 + k) false → DepthIs G k p
    to-depth zero right (Rule.wins b m l f e) = absurd (omega arith)
    to-depth zero right (Rule.loses b m f e) = absurd (omega (arith, (f b m).0.0))
    to-depth k right (Rule.draws b m d f e) = absurd (omega arith)
    to-depth k right (Rule.stalemate z e) = absurd (omega arith)
    to-depth (suc j) right (Rule.wins b m l f e) =
        let o = map-out reads b (next G p) m in
        DepthIs.win ((win-is G j p).1 (record {
          to = o.0;
          legal = o.1;
          loss = depth-even G j o.0 ((right o.0 o.1 j (omega arith)).0 (omega (arith, o.2))) (omega arith);
          none-shorter = λ q i n k. near j n (λ h.
              let d : reads q ≡ 2 + n = (right q i n (omega arith)).1 (DepthIs.loss k) in
              omega (arith, f (reads q) (map-in reads i) (omega (arith, lost-even G n q k))));
        }))
    to-depth (suc j) right (Rule.loses b m f e) =
        let o = map-out reads b (next G p) m in
        DepthIs.loss ((loss-is G j p).1 (record {
          to = o.0;
          legal = o.1;
          longest = depth-odd G j o.0 ((right o.0 o.1 j (omega arith)).0 (omega (arith, o.2)))
              (omega (arith, (f b m).0.1));
          all-won = λ q i.
              let w = f (reads q) (map-in reads i) in (
                reads q - 2,
                omega (arith, w.1),
                depth-odd G (reads q - 2) q
                    ((right q i (reads q - 2) (omega (arith, w.1))).0 (omega (arith, w.0.0)))
                    (omega (arith, w.0.0, w.0.1)),
              );
        }))

    -- and back
    to-rule : (k : ℕ) → ((q : G.Pos) → q ∈ next G p → RightBelow reads k q) → (T (G.mated p) → ⊥) → DepthIs G k p
        → Rule bytes (2 + k) false
    to-rule zero right live (DepthIs.win w) = absurd (no-win-in-0 G p w)
    to-rule zero right live (DepthIs.loss l) = absurd (live ((mate-is G p).0 l))
    to-rule (suc j) right live (DepthIs.win w) =
        let r = (win-is G j p).0 w in
        let e : reads r.to ≡ 2 + j = (right r.to r.legal j (omega arith)).1 (DepthIs.loss r.loss) in
        Rule.wins (reads r.to) (map-in reads r.legal) (omega (arith, lost-even G j r.to r.loss))
        (λ c m l. let o = map-out reads c (next G p) m in
        let h : j ≤ c - 2 =
        near j (c - 2)
        (λ h. r.none-shorter o.0 o.1 (c - 2)
        (depth-even G (c - 2) o.0 ((right o.0 o.1 (c - 2) (omega arith)).0 (omega (arith, o.2)))
        (omega arith))) in
        omega arith)
        (omega arith)
    to-rule (suc j) right live (DepthIs.loss l) =
        let r = (loss-is G j p).0 l in
        let e : reads r.to ≡ 2 + j = (right r.to r.legal j (omega arith)).1 (DepthIs.win r.longest) in
        Rule.loses (reads r.to) (map-in reads r.legal)
        (λ c m. let o = map-out reads c (next G p) m in
        let w = r.all-won o.0 o.1 in
        let d : reads o.0 ≡ 2 + w.0 = (right o.0 o.1 w.0 (omega (arith, w.1))).1 (DepthIs.win w.2) in
        omega (arith, won-odd G w.0 o.0 w.2, o.2, w.1))
        (omega arith)

    pub step : (k : ℕ) → ((q : G.Pos) → q ∈ next G p → RightBelow reads k q)
        → (required_at G reads p ≡ 2 + k) ↔ DepthIs G k p
    step k right = go (G.mated p) refl
      where
        go : (b : Bool) → G.mated p ≡ b → (required b bytes ≡ 2 + k) ↔ DepthIs G k p
        go true e = unfold required in mate-step k (of-true e)
        go false e = (
          λ d. to-depth k right (rw d at (required-rule false bytes)),
          λ d. rule-one (required-rule false bytes) (to-rule k right (λ t. rw e at t) d),
        )

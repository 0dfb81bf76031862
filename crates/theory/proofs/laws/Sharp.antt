-- The bound of the fifty-move rule is sharp: from a position whose depth and count make 101, in the game in which both sides follow the table, the
-- loser comes to a turn at which he may claim, where no capture or pawn move leads to a decided position.
use Rattle.std.specs.Prelude.{◌≡◌, Bool, false, ◌⊎◌, [], ◌∷◌, ℕ, zero, suc, ◌+◌}
use Rattle.std.proofs.Common.{sym, inl, inr}
use Rattle.std.proofs.Math.Path.{subst}
use Rattle.std.proofs.Math.Option.{Option, some}
use native.Mathlib.Omega.{arith}
use Rattle.finite.specs.Members.{◌∈◌, map-in, map-out}
use Rattle.theory.specs.Game.{Game}
use Rattle.theory.specs.Value.{DepthIs}
use Rattle.theory.specs.Required.{Closed, Consistent}
use Rattle.theory.specs.Play.{after, Over, Chooses}
use Rattle.theory.specs.Fifty.{count_after, count_of, MayClaim, Spoilt}
use Rattle.theory.proofs.laws.Depth.{mate-is, loss-is, depth-even, one-depth}
use Rattle.theory.proofs.laws.Consistency.{consistent-depth}
use Rattle.theory.proofs.laws.Choice.{suits-less}
use Rattle.theory.proofs.laws.OnePly.{answered-at, over-decided}

module _ (G : Game) (zeroing : G.Pos → G.Move → Bool) (D : G.Pos → Type 0) (closed : Closed G D)
    (reads : G.Pos → ℕ) (ok : Consistent G D reads) (pick : G.Pos → Option G.Move)
    (choice : Chooses G D reads pick)
    (quiet : (p : G.Pos) → D p → (m : G.Move) → m ∈ G.moves p → (n : ℕ) → DepthIs G n (G.play p m)
    → zeroing p m ≡ false) where
  -- one more with a quiet move
  one_more : (c : ℕ) (p : G.Pos) (m : G.Move) → zeroing p m ≡ false → count_after G zeroing c p m ≡ 1 + c
  one_more c p m e = rw e

  -- lost in 2 at count 99: any move that he writes down makes it 100
  last_turn : (c : ℕ) (p : G.Pos) → D p → DepthIs G 2 p → c ≡ 99 → Spoilt G zeroing pick c p
  unfolding count_of
  last_turn c p d h e =
      let l = depth-even G 2 p h (omega arith) in
      let r = (loss-is G 1 p).0 l in
      let m = map-out (G.play p) r.to (G.moves p) r.legal in
      let w = subst (λ (q : G.Pos). DepthIs G 1 q) m.2 (DepthIs.win r.longest) in
      let z = one_more c p m.0 (quiet p d m.0 m.1 1 w) in
      record {
        line = [];
        game = tt;
        follows = λ side. tt;
        lost = l;
        claims = MayClaim.intended m.0 m.1 (omega arith);
      }

  -- one move of the table, and the rest from there
  longer : (c k : ℕ) (p : G.Pos) → D p → DepthIs G (3 + k) p
      → ((m : G.Move) → m ∈ G.moves p → DepthIs G (2 + k) (G.play p m) → Spoilt G zeroing pick (1 + c) (G.play p m))
      → Spoilt G zeroing pick c p
  unfolding count_of
  longer c k p d h rest = go (answered-at G D closed reads ok pick choice p d).goes_on
    where
      byte : reads p ≡ 5 + k
      byte = let e = (consistent-depth G D closed reads ok p d (3 + k)).1 h in omega arith

      go : Over G p ⊎ ((m : G.Move) × (pick p ≡ some m) × (m ∈ G.moves p)) → Spoilt G zeroing pick c p
      go (inl o) =
          let t = over-decided G D closed reads ok pick choice p d o (omega (arith, byte)) in
          absurd (omega (arith, one-depth G (3 + k) 0 p h (DepthIs.loss ((mate-is G p).1 t))))
      go (inr x) =
          let m = x.0 in
          let q = G.play p m in
          let s = suits-less (reads p) (reads q) (omega (arith, byte)) (choice.sound p d m x.1).1 in
          let at : D q = closed p q d (map-in (G.play p) x.2) in
          let e : DepthIs G (2 + k) q =
          (consistent-depth G D closed reads ok q at (2 + k)).0 (omega (arith, byte)) in
          let r = rest m x.2 e in
          record {
            line = m ∷ r.line;
            game = (x.2, r.game);
            follows = λ side. (λ f. x.1, r.follows side);
            lost = r.lost;
            claims = subst (λ (a : ℕ). MayClaim G zeroing (count_of G zeroing a q r.line) (after G q r.line))
                (sym (one_more c p m (quiet p d m x.2 (2 + k) e))) r.claims;
          }

  pub sharp : (k c : ℕ) (p : G.Pos) → D p → DepthIs G (2 + k) p → c + k ≡ 99 → Spoilt G zeroing pick c p
  sharp zero c p d h e = last_turn c p d h (omega arith)
  sharp (suc k) c p d h e =
      longer c k p d (subst (λ (n : ℕ). DepthIs G n p) (omega arith) h)
      (λ m i w. sharp k (1 + c) (G.play p m) (closed p (G.play p m) d (map-in (G.play p) i)) w (omega arith))

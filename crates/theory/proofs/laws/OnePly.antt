-- Playing by a consistent table, one position and one ply: each position is answered; a follower's move keeps it as safe as it was, and a
-- winner's byte falls.
use Rattle.std.specs.Prelude.{◌≡◌, refl, ◌⊎◌, Bool, true, false, List, [], map, ℕ, suc, ◌+◌, ◌≤◌, T}
use Rattle.std.proofs.Common.{ap, ◌∙◌, inl, inr, arith}
use Rattle.std.proofs.Math.Bool.{not, not-not}
use Rattle.std.proofs.Math.Option.{Option, some}
use Rattle.std.proofs.Math.Dec.{not_T}
use Rattle.finite.specs.Truth.{false_of, true-not-false}
use Rattle.finite.specs.Members.{◌∈◌, nil-or, none_in, map-in, map-out}
use Rattle.theory.specs.Game.{Game, next}
use Rattle.theory.specs.Value.{DepthIs}
use Rattle.theory.proofs.laws.Within.{mate-next}
use Rattle.theory.proofs.laws.Depth.{mate-is, won-odd}
use Rattle.theory.specs.Required.{Win, Loss, Rule, Closed, Consistent}
use Rattle.theory.proofs.laws.Better.{Kind, kind}
use Rattle.theory.proofs.laws.RuleLaws.{required-rule}
use Rattle.theory.proofs.laws.Consistency.{consistent-depth, consistent-true}
use Rattle.theory.specs.Play.{suits, Over, Chooses, Answered}
use Rattle.theory.proofs.laws.Choice.{suits-draw, suits-less, draw-suits, less-suits}

-- one of the two sides is to move, and not both
pub sides : (a b : Bool) → (a ≡ b) ⊎ (a ≡ not b)
sides true true = inl refl
sides true false = inr refl
sides false true = inr refl
sides false false = inl refl

pub one_side : (a b : Bool) → a ≡ b → a ≡ not b → ⊥
one_side a true e f = true-not-false e f
one_side a false e f = true-not-false f e

module _ (G : Game) (reads : G.Pos → ℕ) where
  -- Safe for k plies: where the side is to move and lost, or the other is to move and won, the depth is at least k.
  unfoldable pub Safe : ℕ → Bool → G.Pos → Type 0
  Safe k side p =
      (G.turn p ≡ side → Loss (reads p) → 2 + k ≤ reads p) × (G.turn p ≡ not side → Win (reads p) → 2 + k ≤ reads p)

  -- The side is winning.
  unfoldable pub Winning : Bool → G.Pos → Type 0
  Winning side p = (G.turn p ≡ side → Win (reads p)) × (G.turn p ≡ not side → Loss (reads p))

module _ (G : Game) (D : G.Pos → Type 0) (closed : Closed G D) (reads : G.Pos → ℕ) (ok : Consistent G D reads)
    (pick : G.Pos → Option G.Move) (choice : Chooses G D reads pick) where
  -- ---- one position

  rule-of : (p : G.Pos) → D p → Rule (map reads (next G p)) (reads p) (G.mated p)
  rule-of p d = rw (ok p d) (required-rule (G.mated p) (map reads (next G p)))

  played : (p : G.Pos) (m : G.Move) → m ∈ G.moves p → G.play p m ∈ next G p
  played p m i = map-in (G.play p) i

  -- where there is a move it is not mate
  pub rule-live : (p : G.Pos) → D p → (m : G.Move) → m ∈ G.moves p → Rule (map reads (next G p)) (reads p) false
  rule-live p d m i = let e : G.mated p ≡ false =
      false_of (not_T (G.mated p) (λ t. mate-next G p t (G.play p m) (played p m i))) in rw e at (rule-of p d)

  pub mate-two : (p : G.Pos) → D p → T (G.mated p) → reads p ≡ 2
  mate-two p d t = (consistent-depth G D closed reads ok p d 0).1 (DepthIs.loss ((mate-is G p).1 t))

  pub two-mated : (p : G.Pos) → D p → reads p ≡ 2 → T (G.mated p)
  two-mated p d e = go ((consistent-depth G D closed reads ok p d 0).0 e)
    where
      go : DepthIs G 0 p → T (G.mated p)
      go (DepthIs.win w) = absurd (omega (arith, won-odd G 0 p w))
      go (DepthIs.loss l) = (mate-is G p).0 l

  -- over and decided: mated
  pub over-decided : (p : G.Pos) → D p → Over G p → 2 ≤ reads p → T (G.mated p)
  over-decided p d o h = go (G.mated p) (rule-of p d)
    where
      none-next : map reads (next G p) ≡ []
      none-next = ap (λ (l : List G.Move). map reads (map (G.play p) l)) o

      go : (mate : Bool) → Rule (map reads (next G p)) (reads p) mate → T mate
      go true r = tt
      go false (Rule.wins b n l f e) = none_in none-next n
      go false (Rule.loses b n f e) = none_in none-next n
      go false (Rule.draws b n x f e) = none_in none-next n
      go false (Rule.stalemate z e) = omega arith

  -- a successor's byte that suits is found
  suits-in : (p : G.Pos) → D p → (b : ℕ) → b ∈ map reads (next G p) → T (suits (reads p) b)
      → (m : G.Move) × (pick p ≡ some m) × (m ∈ G.moves p)
  suits-in p d b i t =
      let q = map-out reads b (next G p) i in
      let m = map-out (G.play p) q.0 (G.moves p) q.1 in
      let e : b ≡ reads (G.play p m.0) = q.2 ∙ ap reads m.2 in
      let f = choice.total p d m.0 m.1 (rw e at t) in
      (f.0, f.1, (choice.sound p d f.0 f.1).0)

  finds : (p : G.Pos) → D p → Rule (map reads (next G p)) (reads p) false → (q : G.Pos) → q ∈ next G p
      → (m : G.Move) × (pick p ≡ some m) × (m ∈ G.moves p)
  finds p x (Rule.wins b i l f e) q j = suits-in p x b i (less-suits (reads p) b (omega arith) (omega arith))
  finds p x (Rule.loses b i f e) q j =
      suits-in p x b i (less-suits (reads p) b (omega (arith, (f b i).0.0)) (omega arith))
  finds p x (Rule.draws b i d f e) q j = suits-in p x b i (draw-suits (reads p) b (omega arith) d)
  finds p x (Rule.stalemate z e) q j = absurd (none_in z (map-in reads j))

  -- each position of D is answered
  pub answered-at : (p : G.Pos) → D p → Answered G reads pick p
  answered-at p d =
      record { truth = consistent-true G D closed reads ok p d; accepted = ok p d; goes_on = go (nil-or (G.moves p)) }
    where
      go : (G.moves p ≡ []) ⊎ ((m : G.Move) × (m ∈ G.moves p))
          → Over G p ⊎ ((m : G.Move) × (pick p ≡ some m) × (m ∈ G.moves p))
      go (inl e) = inl e
      go (inr x) = inr (finds p d (rule-live p d x.0 x.1) (G.play p x.0) (played p x.0 x.1))

  -- ---- one ply, from p by m to q, the mover following if it is the side's turn

  module _ (side : Bool) (p : G.Pos) (d : D p) (m : G.Move) (i : m ∈ G.moves p)
      (follows : G.turn p ≡ side → pick p ≡ some m) where
    abbrev q : G.Pos
    q = G.play p m

    own-ply : G.turn p ≡ side → G.turn q ≡ not side
    own-ply e = G.alternates p m i ∙ ap not e

    other-ply : G.turn p ≡ not side → G.turn q ≡ side
    other-ply e = G.alternates p m i ∙ ap not e ∙ not-not side

    suited : G.turn p ≡ side → T (suits (reads p) (reads q))
    suited e = (choice.sound p d m (follows e)).1

    -- the follower comes to face a win only from a loss, one ply deeper
    from-own : G.turn p ≡ side → Win (reads q) → Kind (reads p) → (reads p ≡ 1 + reads q) × Loss (reads p)
    from-own e w (Kind.draw h) = absurd (omega (arith, suits-draw (reads p) (reads q) h (suited e)))
    from-own e w (Kind.win h) = let z = suits-less (reads p) (reads q) (omega arith) (suited e) in absurd (omega arith)
    from-own e w (Kind.loss h) = let z = suits-less (reads p) (reads q) (omega arith) (suited e) in (omega arith, h)

    -- a move into a loss is made only from a win, at most one ply deeper
    from-other : Rule (map reads (next G p)) (reads p) false → Loss (reads q) → (reads p ≤ 1 + reads q) × Win (reads p)
    from-other (Rule.wins b n l f e) k = (omega (arith, f (reads q) (map-in reads (played p m i)) k), omega arith)
    from-other (Rule.loses b n f e) k = absurd (omega (arith, (f (reads q) (map-in reads (played p m i))).0.1))
    from-other (Rule.draws b n h f e) k = absurd (f (reads q) (map-in reads (played p m i)) k)
    from-other (Rule.stalemate z e) k = absurd (none_in z (map-in reads (played p m i)))

    pub safe-ply : (k : ℕ) → Safe G reads (suc k) side p → Safe G reads k side q
    unfolding Safe
    safe-ply k s = go (sides (G.turn p) side)
      where
        go : (G.turn p ≡ side) ⊎ (G.turn p ≡ not side) → Safe G reads k side q
        go (inl e) = (
          λ f. absurd (one_side (G.turn q) side f (own-ply e)),
          λ f w. let r = from-own e w (kind (reads p)) in
              omega (arith, s.0 e r.1, r.0),
        )
        go (inr e) = (
          λ f l. let r = from-other (rule-live p d m i) l in omega (arith, s.1 e r.1, r.0),
          λ f. absurd (one_side (G.turn q) side (other-ply e) f),
        )

    -- from a loss every move leads to a win, at least one ply less deep
    from-lost : Rule (map reads (next G p)) (reads p) false → Loss (reads p) → (1 + reads q ≤ reads p) × Win (reads q)
    from-lost (Rule.wins b n l f e) k = absurd (omega arith)
    from-lost (Rule.loses b n f e) k = let w = f (reads q) (map-in reads (played p m i)) in (omega (arith, w.1), w.0)
    from-lost (Rule.draws b n h f e) k = absurd (omega arith)
    from-lost (Rule.stalemate z e) k = absurd (omega arith)

    pub winning-ply : Winning G reads side p → Winning G reads side q × (1 + reads q ≤ reads p)
    unfolding Winning
    winning-ply w = go (sides (G.turn p) side)
      where
        go : (G.turn p ≡ side) ⊎ (G.turn p ≡ not side) → Winning G reads side q × (1 + reads q ≤ reads p)
        go (inl e) =
            let h = w.0 e in
            let z = suits-less (reads p) (reads q) (omega arith) (suited e) in
            ((λ f. absurd (one_side (G.turn q) side f (own-ply e)), λ f. omega arith), omega arith)
        go (inr e) =
            let r = from-lost (rule-live p d m i) (w.1 e) in
            ((λ f. r.1, λ f. absurd (one_side (G.turn q) side (other-ply e) f)), r.0)

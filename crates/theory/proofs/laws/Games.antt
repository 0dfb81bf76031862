-- THE THEOREM about games: a side that plays the moves of a consistent table gets what `Promised` says, in every game, of any length,
-- from any position, whatever the other side plays.
use Rattle.std.specs.Prelude.{◌≡◌, refl, ◌⊎◌, Bool, false, T, length, take}
use Rattle.std.proofs.Common.{inl, inr}
use Rattle.std.proofs.Math.Bool.{not}
use mathlib.Core.List.{List, [], ◌∷◌, map}
use Rattle.std.proofs.Math.Option.{Option}
use Prim.Native.Nat.{ℕ, zero, suc, ◌+◌, ◌-◌, ◌≤◌, ◌<◌}
use native.Mathlib.Omega.{arith}
use Rattle.std.proofs.Math.Seq.{length-take-le}
use Rattle.finite.specs.Members.{◌∈◌, map-in}
use Rattle.theory.specs.Game.{Game, next}
use Rattle.theory.specs.Value.{WonIn, LostIn, Drawn, DepthIs, TrueByte}
use Rattle.theory.proofs.laws.Depth.{won-odd, lost-even, depth-even}
use Rattle.theory.proofs.laws.TrueBytes.{byte_one}
use Rattle.theory.specs.Required.{Rule, Closed, Consistent}
use Rattle.theory.proofs.laws.Consistency.{consistent-depth, consistent-true}
use Rattle.theory.specs.Play.{suits, LegalGame, after, at_ply, IsMated, Chooses, Follows, Mates, Unmated, Exact, Promised}
use Rattle.theory.proofs.laws.Choice.{suits-less, legal-take, follows-take}
use Rattle.theory.proofs.laws.OnePly.{sides, one_side, Safe, Winning, rule-live, mate-two, two-mated, over-decided, answered-at, safe-ply, winning-ply}

module _ (G : Game) (D : G.Pos → Type 0) (closed : Closed G D) (reads : G.Pos → ℕ) (ok : Consistent G D reads)
    (pick : G.Pos → Option G.Move) (choice : Chooses G D reads pick) where
  -- a move stays within D
  onward : (p : G.Pos) → D p → (m : G.Move) → m ∈ G.moves p → D (G.play p m)
  onward p d m i = closed p (G.play p m) d (map-in (G.play p) i)

  stays : (p : G.Pos) (ms : List G.Move) → D p → LegalGame G p ms → D (after G p ms)
  stays p [] d l = d
  stays p (m ∷ ms) d l = stays (G.play p m) ms (onward p d m l.0) l.1

  -- safe for more plies than the game has: not mated at its end
  safe-game : (side : Bool) (p : G.Pos) (ms : List G.Move) (k : ℕ) → D p → LegalGame G p ms
      → Follows G pick side p ms → Safe G reads k side p → length ms < k → IsMated G side (after G p ms) → ⊥
  unfolding Safe
  safe-game side p [] k d l c s h x =
      let e = mate-two G D closed reads ok pick choice p d x.0 in omega (arith, s.0 x.1 (omega arith))
  safe-game side p (m ∷ ms) zero d l c s h x = omega arith
  safe-game side p (m ∷ ms) (suc k) d l c s h x =
      safe-game side (G.play p m) ms k (onward p d m l.0) l.1 c.1
      (safe-ply G D closed reads ok pick choice side p d m l.0 c.0 k s) (omega arith) x

  -- winning: the byte falls by at least 1 with each ply
  countdown : (side : Bool) (p : G.Pos) (ms : List G.Move) → D p → LegalGame G p ms → Follows G pick side p ms
      → Winning G reads side p → Winning G reads side (after G p ms) × (length ms + reads (after G p ms) ≤ reads p)
  countdown side p [] d l c w = (w, omega arith)
  countdown side p (m ∷ ms) d l c w =
      let s = winning-ply G D closed reads ok pick choice side p d m l.0 c.0 w in
      let r = countdown side (G.play p m) ms (onward p d m l.0) l.1 c.1 s.0 in
      (r.0, omega (arith, s.1, r.1))

  -- both follow: the byte falls by exactly 1 with each ply
  both-countdown : (side : Bool) (p : G.Pos) (ms : List G.Move) → D p → LegalGame G p ms → Follows G pick side p ms
      → Follows G pick (not side) p ms → 2 ≤ reads p
      → (length ms + reads (after G p ms) ≡ reads p) × (2 ≤ reads (after G p ms))
  both-countdown side p [] d l a b h = (omega arith, h)
  both-countdown side p (m ∷ ms) d l a b h =
      let e : 1 + reads (G.play p m) ≡ reads p =
      suits-less (reads p) (reads (G.play p m)) h (go (sides (G.turn p) side)) in
      let r = both-countdown side (G.play p m) ms (onward p d m l.0) l.1 a.1 b.1
      (live (rule-live G D closed reads ok pick choice p d m l.0)) in
      (omega (arith, r.0), r.1)
    where
      go : (G.turn p ≡ side) ⊎ (G.turn p ≡ not side) → T (suits (reads p) (reads (G.play p m)))
      go (inl e) = (choice.sound p d m (a.0 e)).1
      go (inr e) = (choice.sound p d m (b.0 e)).1

      -- what is decided and has moves is deeper than mate
      live : Rule (map reads (next G p)) (reads p) false → 2 ≤ reads (G.play p m)
      live (Rule.wins c n k f e) =
          let z = suits-less (reads p) (reads (G.play p m)) h (go (sides (G.turn p) side)) in omega arith
      live (Rule.loses c n f e) = let z = suits-less (reads p) (reads (G.play p m)) h (go (sides (G.turn p) side)) in
          omega (arith, (f c n).0.0)
      live (Rule.draws c n k f e) = absurd (omega arith)
      live (Rule.stalemate z e) = absurd (omega arith)

  -- winning, one's own bytes are wins and the other's losses
  winning-two : (side : Bool) (p : G.Pos) → Winning G reads side p → 2 ≤ reads p
  unfolding Winning
  winning-two side p w = go (sides (G.turn p) side)
    where
      go : (G.turn p ≡ side) ⊎ (G.turn p ≡ not side) → 2 ≤ reads p
      go (inl e) = omega (arith, (w.0 e).0)
      go (inr e) = omega (arith, (w.1 e).0)

  mated-other : (side : Bool) (p : G.Pos) → D p → Winning G reads side p → T (G.mated p) → IsMated G (not side) p
  unfolding Winning
  mated-other side p d w t = go (sides (G.turn p) side)
    where
      go : (G.turn p ≡ side) ⊎ (G.turn p ≡ not side) → IsMated G (not side) p
      go (inl e) = absurd (omega (arith, mate-two G D closed reads ok pick choice p d t, (w.0 e).0))
      go (inr e) = (t, e)

  -- a byte above 1 is a depth
  depth-of : (p : G.Pos) → D p → 2 ≤ reads p → DepthIs G (reads p - 2) p
  depth-of p d h = (consistent-depth G D closed reads ok p d (reads p - 2)).0 (omega arith)

  module _ (side : Bool) (p : G.Pos) (ms : List G.Move) (d : D p) (l : LegalGame G p ms)
      (c : Follows G pick side p ms) where
    abbrev last : G.Pos
    last = after G p ms

    here : (i : ℕ) → D (at_ply G p ms i)
    here i = stays p (take i ms) d (legal-take G i p ms l)

    depth-byte : (n : ℕ) → DepthIs G n p → reads p ≡ 2 + n
    depth-byte n k = (consistent-depth G D closed reads ok p d n).1 k

    drawn-byte : Drawn G p → reads p ≡ 1
    drawn-byte w = byte_one G p (reads p) 1 (consistent-true G D closed reads ok p d) (TrueByte.draw w refl)

    -- the winner, whichever side is to move
    mates : (n : ℕ) → reads p ≡ 2 + n → Winning G reads side p → Mates G side p ms n
    unfolding Winning
    mates n e w =
        let r = countdown side p ms d l c w in
        let h = winning-two side last r.0 in
        let at : D last = stays p ms d l in
        record {
          short = omega (arith, r.1);
          full-over = λ f. G.mate-ends last (two-mated G D closed reads ok pick choice last at (omega (arith, r.1)));
          over-mated = λ o. mated-other side last at r.0 (over-decided G D closed reads ok pick choice last at o h);
          falls = λ i k.
              let s = countdown side p (take i ms) d (legal-take G i p ms l) (follows-take G pick side i p ms c) w in
              let t = winning-two side (at_ply G p ms i) s.0 in (
                reads (at_ply G p ms i) - 2,
                omega (arith, s.1, length-take-le i ms k),
                depth-of (at_ply G p ms i) (here i) t,
              );
          loses = λ i k f.
              let s = countdown side p (take i ms) d (legal-take G i p ms l) (follows-take G pick side i p ms c) w in
              let v = s.0.1 f in
              let deep = depth-of (at_ply G p ms i) (here i) v.0 in (
                reads (at_ply G p ms i) - 2,
                omega (arith, s.1, v.0, length-take-le i ms k),
                depth-even G (reads (at_ply G p ms i) - 2) (at_ply G p ms i) deep (omega (arith, v.0, v.1)),
              );
        }

    won-winning : (n : ℕ) → WonIn G n p → G.turn p ≡ side → Winning G reads side p
    unfolding Winning
    won-winning n w e =
        (λ f. omega (arith, depth-byte n (DepthIs.win w), won-odd G n p w), λ f. absurd (one_side (G.turn p) side e f))

    lost-winning : (n : ℕ) → LostIn G n p → G.turn p ≡ not side → Winning G reads side p
    unfolding Winning
    lost-winning n w e = (
      λ f. absurd (one_side (G.turn p) side f e),
      λ f. omega (arith, depth-byte n (DepthIs.loss w), lost-even G n p w),
    )

    unmated : (n : ℕ) → Safe G reads n side p → Unmated G side p ms n
    unmated n s i h k x =
        safe-game side p (take i ms) n d (legal-take G i p ms l) (follows-take G pick side i p ms c) s
        (omega (arith, length-take-le i ms h)) x

    -- a byte 2 + n is safe for n plies, and a draw for any number
    safe-depth : (n : ℕ) → DepthIs G n p → Safe G reads n side p
    unfolding Safe
    safe-depth n k = let e = depth-byte n k in (λ f w. omega arith, λ f w. omega arith)

    safe-draw : (n : ℕ) → Drawn G p → Safe G reads n side p
    unfolding Safe
    safe-draw n w = let e = drawn-byte w in (λ f k. absurd (omega arith), λ f k. absurd (omega arith))

    exact : Follows G pick (not side) p ms → (n : ℕ) → DepthIs G n p → Exact G p ms n
    exact b n k =
        let e = depth-byte n k in
        let r = both-countdown side p ms d l c b (omega arith) in
        let at : D last = stays p ms d l in
        record {
          falls = λ i h.
              let s = both-countdown side p (take i ms) d (legal-take G i p ms l) (follows-take G pick side i p ms c)
              (follows-take G pick (not side) i p ms b) (omega arith) in
              let z : reads (at_ply G p ms i) - 2 ≡ n - i = omega (arith, s.0, s.1, length-take-le i ms h) in
              (omega (arith, s.0, s.1, length-take-le i ms h), rw z at (depth-of (at_ply G p ms i) (here i) s.1));
          over-at = (
            λ o. omega (
              arith,
              r.0,
              mate-two G D closed reads ok pick choice last at
                  (over-decided G D closed reads ok pick choice last at o r.1),
            ),
            λ f. G.mate-ends last (two-mated G D closed reads ok pick choice last at (omega (arith, r.0))),
          );
        }

    -- The table is consistent on positions D closed under moves, p is one of them, ms is a game from p, and the side follows in it.
    pub promised : Promised G reads pick side p ms
    promised = record {
      answered = λ i h. answered-at G D closed reads ok pick choice (at_ply G p ms i) (here i);
      won = λ n w e. mates n (depth-byte n (DepthIs.win w)) (won-winning n w e);
      lost = λ n w. unmated n (safe-depth n (DepthIs.loss w));
      drawn = λ w n. unmated n (safe-draw n w);
      lost-other = λ n w e. mates n (depth-byte n (DepthIs.loss w)) (lost-winning n w e);
      won-other = λ n w. unmated n (safe-depth n (DepthIs.win w));
      both = exact;
    }

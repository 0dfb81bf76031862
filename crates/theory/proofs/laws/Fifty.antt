-- The fifty-move rule and a game in which a side follows a table: from a position whose depth and count make at most 100 the loser may never
-- claim before he is mated, through captures too. Over any game, with any moves that set the count to 0.
use Rattle.std.specs.Prelude.{◌≡◌, Bool, not, take}
use Rattle.std.proofs.Math.Path.{ap}
use Rattle.std.proofs.Common.{◌∙◌, length-take-le}
use Rattle.std.proofs.Math.Bool.{true, false, cond}
use mathlib.Core.List.{List, [], ◌∷◌, ◌++◌}
use Rattle.std.proofs.Math.Option.{Option}
use Prim.Native.Nat.{ℕ, zero, suc, ◌+◌, ◌≤◌}
use Rattle.std.proofs.Math.Nat.{zero-add}
use native.Mathlib.Omega.{arith}
use Rattle.std.proofs.Math.ListN.{length}
use Rattle.finite.specs.Members.{none_in}
use Rattle.theory.specs.Game.{Game}
use Rattle.theory.specs.Value.{WonIn, LostIn}
use Rattle.theory.specs.Play.{after, at_ply, Over, Mates, Promised}
use Rattle.theory.specs.Fifty.{count_after, count_of, Quiet, MayClaim, Clear}
use Rattle.theory.proofs.laws.Depth.{mate-is, lost-even}

module _ (G : Game) (zeroing : G.Pos → G.Move → Bool) where
  -- with no capture or pawn move the count grows by the plies played
  pub count-quiet : (c : ℕ) (p : G.Pos) (ms : List G.Move) → Quiet G zeroing p ms
      → count_of G zeroing c p ms ≡ c + length ms
  unfolding count_of
  count-quiet c p [] q = omega arith
  count-quiet c p (m ∷ ms) q =
      let e : count_after G zeroing c p m ≡ 1 + c = rw q.0 in
      rw e (omega (arith, count-quiet (1 + c) (G.play p m) ms q.1))

  -- after one it is the plies played since, whatever came before
  pub count-since : (c : ℕ) (p : G.Pos) (ms : List G.Move) (m : G.Move) (since : List G.Move)
      → zeroing (after G p ms) m ≡ true → Quiet G zeroing (G.play (after G p ms) m) since
      → count_of G zeroing c p (ms ++ m ∷ since) ≡ length since
  unfolding count_of
  count-since c p [] m since z q =
      let e : count_after G zeroing c p m ≡ 0 = rw z in
      ap (λ (k : ℕ). count_of G zeroing k (G.play p m) since) e ∙ count-quiet 0 (G.play p m) since q
      ∙ zero-add (length since)
  count-since c p (k ∷ ms) m since z q = count-since (count_after G zeroing c p k) (G.play p k) ms m since z q

  -- the count grows by at most one with each ply
  pub count_most : (c : ℕ) (p : G.Pos) (ms : List G.Move) → count_of G zeroing c p ms ≤ c + length ms
  unfolding count_of
  count_most c p [] = omega arith
  count_most c p (m ∷ ms) = go (zeroing p m) (count_most (count_after G zeroing c p m) (G.play p m) ms)
    where
      go : (z : Bool) → count_of G zeroing (cond z 0 (1 + c)) (G.play p m) ms ≤ cond z 0 (1 + c) + length ms
          → count_of G zeroing (cond z 0 (1 + c)) (G.play p m) ms ≤ c + suc (length ms)
      go true h = omega arith
      go false h = omega arith

  -- a claim wants 99 plies on the board
  pub claim-late : (c : ℕ) (p : G.Pos) → MayClaim G zeroing c p → 99 ≤ c
  claim-late c p (MayClaim.completed o h) = omega arith
  claim-late c p (MayClaim.intended m i h) = go (zeroing p m) h
    where
      go : (z : Bool) → 100 ≤ cond z 0 (1 + c) → 99 ≤ c
      go true k = absurd (omega arith)
      go false k = omega arith

  -- and a game that is not over
  pub claim-live : (c : ℕ) (p : G.Pos) → MayClaim G zeroing c p → Over G p → ⊥
  claim-live c p (MayClaim.completed o h) e = o e
  claim-live c p (MayClaim.intended m i h) e = none_in e i

  -- lost and not over: depth at least 2
  deep : (d : ℕ) (p : G.Pos) → LostIn G d p → (Over G p → ⊥) → 2 ≤ d
  deep zero p l o = absurd (o (G.mate-ends p ((mate-is G p).0 l)))
  deep (suc d) p l o = omega (arith, lost-even G (suc d) p l)

  -- a game that the side wins within n plies is clear where count and n make at most 100
  pub mates-clear : (side : Bool) (p : G.Pos) (ms : List G.Move) (n c : ℕ) → Mates G side p ms n → c + n ≤ 100
      → Clear G zeroing side p ms n c
  mates-clear side p ms n c w h = record {
    mates = w;
    unclaimed = λ i k t x.
        let f = w.loses i k t in
        let count = count_of G zeroing c p (take i ms) in
        omega (
          arith,
          f.1,
          deep f.0 (at_ply G p ms i) f.2 (claim-live count (at_ply G p ms i) x),
          count_most c p (take i ms),
          claim-late count (at_ply G p ms i) x,
          length-take-le i ms k,
        );
  }

  module _ (reads : G.Pos → ℕ) (pick : G.Pos → Option G.Move) (side : Bool) (p : G.Pos) (ms : List G.Move)
      (w : Promised G reads pick side p ms) (n c : ℕ) (h : c + n ≤ 100) where
    -- won in n, and the side to move follows
    pub won-clear : WonIn G n p → G.turn p ≡ side → Clear G zeroing side p ms n c
    won-clear v t = mates-clear side p ms n c (w.won n v t) h

    -- lost in n, and the side not to move follows
    pub lost-clear : LostIn G n p → G.turn p ≡ not side → Clear G zeroing side p ms n c
    lost-clear v t = mates-clear side p ms n c (w.lost-other n v t) h

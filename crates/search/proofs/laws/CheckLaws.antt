-- Which moves may give check, on any board without a pawn: those after which another piece attacks the king once the mover's square is clear, and those
-- that bring the mover to a square from which it attacks him.
use Rattle.std.specs.Prelude.{◌≡◌, Bool, ◌&&◌, ◌⊎◌, ℕ, ◌-◌, ◌<◌}
use Rattle.std.proofs.Common.{sym, ◌∙◌, inl, inr, arith, ne_eqb}
use Rattle.std.proofs.Math.Path.{ap, subst}
use Rattle.std.proofs.Math.Bool.{false, not}
use Rattle.std.proofs.Math.Dec.{T, eqb, eqb_refl}
use Rattle.finite.specs.Truth.{and_left, and_right, and_both, by-test, true_of, refuted}
use Rattle.finite.specs.Members.{◌∈◌, any, any-in, any_out, any_same}
use Rattle.board.specs.Reach.{reaches}
use Rattle.board.proofs.laws.ReachLaws.{reaches_same}
use Rattle.board.proofs.laws.Blocking.{reaches-fewer}
use Rattle.board.specs.Sets.{has, set_of}
use Rattle.board.proofs.laws.SetLaws.{has-none, has-not, set-has}
use Rattle.symmetry.proofs.laws.Opposite.{reaches-sym}
use Rattle.rules.specs.declared.Piece.{Piece}
use Rattle.rules.specs.Rules.{Board, pieces, occupied, attacks, attacked, king, in_check, stands, goes, carried, carried_piece, moved, can_move}
use Rattle.rules.specs.Pawn.{pawn}
use Rattle.rules.proofs.laws.CanMove.{can-on, attacks-piece, no-pawn}
use Rattle.position.specs.declared.Position.{Position}
use Rattle.position.specs.Keyed.{board_of}
use Rattle.position.specs.Over.{strikes, attacked_over, lifted}
use Rattle.position.proofs.laws.Over.{attacked-same}
use Rattle.movegen.proofs.laws.Carried.{carried-still, piece-before, Goer, goer, still-occupied}
use Rattle.movegen.proofs.laws.Lifted.{check-after}
use Rattle.search.specs.Tried.{Pawnless, aims, HoldsChecks}

-- ---- a board

module _ (b : Board) (none : Pawnless b) (from to : ℕ) (g : Goer b from to) (colour at : ℕ) where
  -- an attack after the move was there with the mover lifted, or it is the mover's
  attack-or-aim : T (attacked (moved b from to) colour at)
      → T (attacked_over (lifted (occupied b) from) b colour at)
      ⊎ T (any (aims (lifted (occupied b) from) from at to) (pieces b))
  unfolding attacked attacked_over
  attack-or-aim h =
      let w = any_out (λ m. eqb m.colour colour && attacks (occupied (moved b from to)) m at)
      (pieces (moved b from to)) h in
      let n = w.0 in
      let v = piece-before b from to n w.1 in
      let own = eqb n.colour colour in
      let hit = attacks (occupied (moved b from to)) n at in
      let piece : pawn n ≡ false = ap pawn v.2 ∙ no-pawn b none v.0 v.1 in
      go n v.0 v.1 v.2 (and_left own hit w.2)
      (reaches-fewer (occupied (moved b from to)) (lifted (occupied b) from) at (λ u d. still-occupied b from to g u)
      n.kind n.square (subst T (attacks-piece (occupied (moved b from to)) n at piece) (and_right own hit w.2)))
    where
      go : (n m : Piece) → m ∈ pieces b → n ≡ carried_piece from to m → T (eqb n.colour colour)
          → T (reaches (lifted (occupied b) from) n.kind n.square at)
          → T (any (strikes (lifted (occupied b) from) colour at) (pieces b))
          ⊎ T (any (aims (lifted (occupied b) from) from at to) (pieces b))
      go n m i e k r = by-test (eqb m.square from) mover other
        where
          carried-hit : T (reaches (lifted (occupied b) from) m.kind (carried from to m.square) at)
          carried-hit = subst (λ (p : Piece). T (reaches (lifted (occupied b) from) p.kind p.square at)) e r

          mover : T (eqb m.square from)
              → T (any (strikes (lifted (occupied b) from) colour at) (pieces b))
              ⊎ T (any (aims (lifted (occupied b) from) from at to) (pieces b))
          mover t =
              let q : carried from to m.square ≡ to = rw (true_of {b = eqb m.square from} t) in
              let hit = subst (λ (z : ℕ). T (reaches (lifted (occupied b) from) m.kind z at)) q carried-hit in
              inr (any-in (aims (lifted (occupied b) from) from at to) i
              (and_both (eqb m.square from) (reaches (lifted (occupied b) from) m.kind at to) t
              (subst T (reaches-sym (lifted (occupied b) from) m.kind to at) hit)))

          other : (T (eqb m.square from) → ⊥)
              → T (any (strikes (lifted (occupied b) from) colour at) (pieces b))
              ⊎ T (any (aims (lifted (occupied b) from) from at to) (pieces b))
          other f =
              let q : n ≡ m = e ∙ carried-still from to m (λ (z : m.square ≡ from). f (rw z (eqb_refl from))) in
              inl (any-in (strikes (lifted (occupied b) from) colour at) i
              (and_both (eqb m.colour colour) (attacks (lifted (occupied b) from) m at)
              (subst (λ (p : Piece). T (eqb p.colour colour)) q k)
              (subst T (sym (attacks-piece (lifted (occupied b) from) m at (no-pawn b none m i)))
              (subst (λ (p : Piece). T (reaches (lifted (occupied b) from) p.kind p.square at)) q r))))

module _ (b : Board) (none : Pawnless b) (from to : ℕ) (c : T (can_move b from to)) where
  mover-goes : Goer b from to
  unfolding can_move
  mover-goes =
      let free = not (stands b b.side to) in
      goer b from to
      (and_left (goes b from to) free
      (and_left (goes b from to && free) (not (in_check (moved b from to) b.side)) c))

  -- the king of `foe` does not stand where the mover did
  check-or-aim : (foe : ℕ) → (king b foe ≡ from → ⊥) → T (in_check (moved b from to) foe)
      → T (attacked_over (lifted (occupied b) from) b (1 - foe) (king b foe))
      ⊎ T (any (aims (lifted (occupied b) from) from (king b foe) to) (pieces b))
  check-or-aim foe n h =
      let e : carried from to (king b foe) ≡ king b foe = rw (ne_eqb (king b foe) from n) in
      attack-or-aim b none from to mover-goes (1 - foe) (king b foe)
      (subst T (check-after b from to foe ∙ ap (attacked (moved b from to) (1 - foe)) e) h)

-- ---- sets that hold the checks

pub all-checks : (s : Position) (from : ℕ) → HoldsChecks s from 18446744073709551615
all-checks s from t c h = rw (has-not 0 t (can-on (board_of s) from t c).1 (omega arith), has-none t) tt

module _ (s : Position) (from foe at back occ rest : ℕ) (ef : foe ≡ 1 - s.side) (ek : at ≡ king (board_of s) foe)
    (eb : back ≡ 1 - foe) (eo : occ ≡ set_of (occupied (board_of s)))
    (er : rest ≡ set_of (λ (u : ℕ). has occ u && not (eqb u from))) where
  rest-lifted : (u : ℕ) → u < 64 → has rest u ≡ lifted (occupied (board_of s)) from u
  rest-lifted u h = set-has _ er u h ∙ ap (λ (x : Bool). x && not (eqb u from)) (set-has _ eo u h)

  aims-lifted : (t : ℕ)
      → any (aims (lifted (occupied (board_of s)) from) from at t) (pieces (board_of s))
      ≡ any (aims (has rest) from at t) (pieces (board_of s))
  aims-lifted t =
      any_same (aims (lifted (occupied (board_of s)) from) from at t) (aims (has rest) from at t) (pieces (board_of s))
      (λ m i. ap (λ (x : Bool). eqb m.square from && x)
      (reaches_same (lifted (occupied (board_of s)) from) (has rest) (λ u h. sym (rest-lifted u h)) m.kind at t))

  pub aimed-checks : Pawnless (board_of s) → (at ≡ from → ⊥) → (struck : Bool) → struck ≡ attacked_over (has rest) (board_of s) back at
      → struck ≡ false
      → (r : ℕ) → ((t : ℕ) → t < 64 → has r t ≡ any (aims (has rest) from at t) (pieces (board_of s)))
      → HoldsChecks s from r
  aimed-checks none n struck es f r ea t c h =
      go (check-or-aim (board_of s) none from t c foe (λ q. n (ek ∙ q))
      (subst (λ (x : ℕ). T (in_check (moved (board_of s) from t) x)) (sym ef) h))
    where
      go : T (attacked_over (lifted (occupied (board_of s)) from) (board_of s) (1 - foe) (king (board_of s) foe)) ⊎ T (any
          (aims (lifted (occupied (board_of s)) from) from (king (board_of s) foe) t) (pieces (board_of s))) → T (has r t)
      go (inl a) =
          let e : attacked_over (has rest) (board_of s) back at
          ≡ attacked_over (lifted (occupied (board_of s)) from) (board_of s) (1 - foe) (king (board_of s) foe) =
          attacked-same (has rest) (lifted (occupied (board_of s)) from) rest-lifted (board_of s) back at
          ∙ rw (eb, ek) in
          absurd (refuted (sym es ∙ f) (subst T (sym e) a))
      go (inr a) =
          let e : any (aims (lifted (occupied (board_of s)) from) from (king (board_of s) foe) t) (pieces (board_of s))
          ≡ any (aims (has rest) from at t) (pieces (board_of s)) = rw (← ek) (aims-lifted t) in
          subst T (e ∙ sym (ea t (can-on (board_of s) from t c).1)) a

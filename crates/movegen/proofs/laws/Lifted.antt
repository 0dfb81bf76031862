-- Legal moves without making them, on any board: what the other side attacks once the mover's square is cleared tells
-- which of its moves leave its own king attacked.
use Rattle.std.specs.Prelude.{◌≡◌, refl, Bool, true, cond, ◌&&◌, ℕ, ◌-◌, ◌<◌}
use Rattle.std.proofs.Common.{sym, ap, ◌∙◌, subst, eq-eqb, ne_eqb}
use Rattle.std.proofs.Math.Bool.{false, not, and-true}
use Rattle.std.proofs.Math.Dec.{T, eqb, eqb_refl}
use Rattle.finite.specs.Truth.{and_left, and_right, and_both, fails, refuted, same_test}
use Rattle.finite.specs.Members.{◌∈◌, any-in, any_out}
use Rattle.rules.specs.declared.Piece.{Piece}
use Rattle.rules.specs.Rules.{Board, pieces, occupied, attacks, attacked, king, in_check, stands, goes, carried, carried_piece, moved, can_move}
use Rattle.rules.proofs.laws.OnBoard.{attacks-fewer, attacks-own}
use Rattle.position.specs.Over.{strikes, attacked_over, lifted}
use Rattle.movegen.proofs.laws.Carried.{carried-still, piece-before, piece-after, Goer, goer, still-occupied, was-occupied}

-- ---- attack after the move, by a colour of which no piece stands where the mover did

stands-in : (b : Board) (colour s : ℕ) (m : Piece) → m ∈ pieces b → T (eqb m.colour colour) → m.square ≡ s
    → T (stands b colour s)
unfolding stands
stands-in b colour s m i k e =
    any-in (λ n. eqb n.colour colour && eqb n.square s) i
    (and_both (eqb m.colour colour) (eqb m.square s) k (rw e (eqb_refl s)))

module _ (b : Board) (from to : ℕ) (g : Goer b from to) (colour : ℕ) (alone : stands b colour from ≡ false) where
  still : (m : Piece) → m ∈ pieces b → T (eqb m.colour colour) → carried_piece from to m ≡ m
  still m i k = carried-still from to m (λ e. refuted alone (stands-in b colour from m i k e))

  -- an attack after the move was there with the mover lifted
  attack-before : (t : ℕ) → T (attacked (moved b from to) colour t)
      → T (attacked_over (lifted (occupied b) from) b colour t)
  unfolding attacked attacked_over
  attack-before t h =
      let w = any_out (λ m. eqb m.colour colour && attacks (occupied (moved b from to)) m t)
      (pieces (moved b from to)) h in
      let n = w.0 in
      let v = piece-before b from to n w.1 in
      let own = eqb n.colour colour in
      let hit = attacks (occupied (moved b from to)) n t in
      let k = and_left own hit w.2 in
      let e : n ≡ v.0 = v.2 ∙ still v.0 v.1 (subst (λ (p : Piece). T (eqb p.colour colour)) v.2 k) in
      any-in (strikes (lifted (occupied b) from) colour t) (subst (λ (p : Piece). p ∈ pieces b) (sym e) v.1)
      (and_both own (attacks (lifted (occupied b) from) n t) k
      (attacks-fewer (occupied (moved b from to)) (lifted (occupied b) from) t (λ u d. still-occupied b from to g u) n
      (and_right own hit w.2)))

  -- an attack on the target with the mover lifted is there after the move: a piece taken on the target did not attack
  -- it
  attack-after : T (attacked_over (lifted (occupied b) from) b colour to) → T (attacked (moved b from to) colour to)
  unfolding attacked attacked_over
  attack-after h =
      let w = any_out (strikes (lifted (occupied b) from) colour to) (pieces b) h in
      let m = w.0 in
      let own = eqb m.colour colour in
      let hit = attacks (lifted (occupied b) from) m to in
      let k = and_left own hit w.2 in
      let r = and_right own hit w.2 in
      let off : m.square ≡ to
      → ⊥ = λ e. refuted (attacks-own (lifted (occupied b) from) m)
      (subst (λ (z : ℕ). T (attacks (lifted (occupied b) from) m z)) (sym e) r) in
      any-in (λ m. eqb m.colour colour && attacks (occupied (moved b from to)) m to)
      (subst (λ (p : Piece). p ∈ pieces (moved b from to)) (still m w.1 k) (piece-after b from to m w.1 off))
      (and_both own (attacks (occupied (moved b from to)) m to) k
      (attacks-fewer (lifted (occupied b) from) (occupied (moved b from to)) to (was-occupied b from to g) m r))

-- ---- the legal moves of the piece on a square that no piece of the other side shares

-- the rest of `can_move`, once the piece may go there
and-rest : (a b c d : Bool) → (T a → c ≡ d) → (a && b && not c) ≡ (a && b && not d)
and-rest true b c d h = ap (λ (x : Bool). b && not x) (h tt)
and-rest false b c d h = refl

king-carried : (b : Board) (from to side : ℕ) → king (moved b from to) side ≡ carried from to (king b side)
unfolding moved
king-carried b from to side = go (eqb side 0)
  where
    go : (x : Bool)
        → cond x (carried from to b.white) (carried from to b.black)
        ≡ carried from to (cond x b.white b.black)
    go true = refl
    go false = refl

pub check-after : (b : Board) (from to side : ℕ)
    → in_check (moved b from to) side ≡ attacked (moved b from to) (1 - side) (carried from to (king b side))
unfolding in_check
check-after b from to side = ap (attacked (moved b from to) (1 - side)) (king-carried b from to side)

module _ (b : Board) (from : ℕ) (alone : from < 64 → stands b (1 - b.side) from ≡ false) where
  -- the king: where nobody attacks with him lifted off the board
  pub king-moves : king b b.side ≡ from → (t : ℕ)
      → can_move b from t
      ≡ (goes b from t && not (stands b b.side t) && not
      (attacked_over (lifted (occupied b) from) b (1 - b.side) t))
  unfolding can_move
  king-moves e t =
      and-rest (goes b from t) (not (stands b b.side t)) (in_check (moved b from t) b.side)
      (attacked_over (lifted (occupied b) from) b (1 - b.side) t) same
    where
      same : T (goes b from t)
          → in_check (moved b from t) b.side ≡ attacked_over (lifted (occupied b) from) b (1 - b.side) t
      same h =
          let g = goer b from t h in
          check-after b from t b.side
          ∙ rw (eq-eqb (king b b.side) from e)
          (same_test (attacked (moved b from t) (1 - b.side) t)
          (attacked_over (lifted (occupied b) from) b (1 - b.side) t)
          (attack-before b from t g (1 - b.side) (alone g.on) t)
          (attack-after b from t g (1 - b.side) (alone g.on)))

  -- another piece whose king nobody attacks with it lifted off the board: anywhere
  pub free-moves : (king b b.side ≡ from → ⊥)
      → attacked_over (lifted (occupied b) from) b (1 - b.side) (king b b.side) ≡ false → (t : ℕ)
      → can_move b from t ≡ (goes b from t && not (stands b b.side t))
  unfolding can_move
  free-moves n e t =
      and-rest (goes b from t) (not (stands b b.side t)) (in_check (moved b from t) b.side) false safe
      ∙ and-true (goes b from t && not (stands b b.side t))
    where
      safe : T (goes b from t) → in_check (moved b from t) b.side ≡ false
      safe h =
          let g = goer b from t h in
          check-after b from t b.side
          ∙ rw (ne_eqb (king b b.side) from n)
          (fails (attacked (moved b from t) (1 - b.side) (king b b.side))
          (λ a. refuted e (attack-before b from t g (1 - b.side) (alone g.on) (king b b.side) a)))

-- The pieces and the occupied squares before a move and after it, on any board.
use Rattle.std.specs.Prelude.{◌≡◌, refl, not, ◌&&◌, ◌∷◌, ℕ, ◌<◌, T, eqb}
use Rattle.std.proofs.Common.{sym, ap, ◌∙◌, subst, ⊎_elim, eqb→eq, T_not, eq-eqb, ne_eqb}
use mathlib.Core.List.Memᴰ
use Rattle.std.proofs.Math.Dec.{eqb_refl, not_T}
use Rattle.finite.specs.Truth.{and_left, and_right, and_both, by-test, fails, refuted}
use Rattle.finite.specs.Members.{◌∈◌, any-in, any_out, map-in, map-out}
use Rattle.finite.specs.Filter.{filter-in, filter-out}
use Rattle.rules.specs.declared.Piece.{Piece}
use Rattle.rules.specs.Rules.{Board, piece_of, pieces, occupied, goes_to, goes, carried, carried_piece, left, moved}
use Rattle.rules.proofs.laws.CanMove.{goes-squares, goes-attacks}
use Rattle.rules.proofs.laws.OnBoard.{attacks-own}
use Rattle.position.specs.Over.{lifted}

pub carried-still : (from to : ℕ) (m : Piece) → (m.square ≡ from → ⊥) → carried_piece from to m ≡ m
carried-still from to m h = rw (ne_eqb m.square from h)

-- a piece after the move is one from before, carried
pub piece-before : (b : Board) (from to : ℕ) (n : Piece) → n ∈ pieces (moved b from to)
    → (m : Piece) × (m ∈ pieces b) × (n ≡ carried_piece from to m)
unfolding moved
piece-before b from to n i =
    ⊎_elim (λ e. (piece_of 5 0 b.white, Memᴰ.head refl, e))
    (λ j. ⊎_elim (λ e. (piece_of 5 1 b.black, Memᴰ.tail (Memᴰ.head refl), e)) man (Memᴰ.cases_cons j))
    (Memᴰ.cases_cons i)
  where
    man : n ∈ (moved b from to).men → (m : Piece) × (m ∈ pieces b) × (n ≡ carried_piece from to m)
    man k =
        let w = map-out (carried_piece from to) n (left to b.men) k in (
          w.0,
          Memᴰ.tail (Memᴰ.tail (filter-out (λ m. not (eqb m.square to)) w.0 b.men w.1).0),
          w.2,
        )

-- a piece that does not stand on the target is there after the move, carried
pub piece-after : (b : Board) (from to : ℕ) (m : Piece) → m ∈ pieces b → (m.square ≡ to → ⊥)
    → carried_piece from to m ∈ pieces (moved b from to)
unfolding moved
piece-after b from to m i h =
    ⊎_elim (λ e. Memᴰ.head (ap (carried_piece from to) e))
    (λ j. Memᴰ.tail (⊎_elim (λ e. Memᴰ.head (ap (carried_piece from to) e)) man (Memᴰ.cases_cons j)))
    (Memᴰ.cases_cons i)
  where
    man : m ∈ b.men → carried_piece from to m ∈ carried_piece from to (piece_of 5 1 b.black) ∷ (moved b from to).men
    man k = Memᴰ.tail
        (map-in (carried_piece from to)
        (filter-in (λ m. not (eqb m.square to)) k (not_T (eqb m.square to) (λ t. h (eqb→eq m.square to t)))))

occupied-in : (b : Board) (u : ℕ) (m : Piece) → m ∈ pieces b → u ≡ m.square → T (occupied b u)
unfolding occupied
occupied-in b u m i e = any-in (λ n. eqb u n.square) i (subst (λ (z : ℕ). T (eqb u z)) e (eqb_refl u))

-- ---- the piece that moves leaves one square for another

pub record Goer (b : Board) (from to : ℕ) : Type 0 where
  pub piece : Piece
  pub there : piece ∈ pieces b
  pub at : piece.square ≡ from
  pub away : from ≡ to → ⊥
  pub on : from < 64

pub goer : (b : Board) (from to : ℕ) → T (goes b from to) → Goer b from to
unfolding goes
goer b from to g =
    let w = any_out (λ m. eqb m.colour b.side && eqb m.square from && goes_to (occupied b) m to) (pieces b) g in
    let m = w.0 in
    let own = eqb m.colour b.side in
    let at = eqb m.square from in
    let hit = goes_to (occupied b) m to in
    let e = eqb→eq m.square from (and_right own at (and_left (own && at) hit w.2)) in
    record {
      piece = m;
      there = w.1;
      at = e;
      away = λ q. refuted (attacks-own (occupied b) m)
          (goes-attacks (occupied b) m m.square (occupied-in b m.square m w.1 refl)
          (subst (λ (z : ℕ). T (goes_to (occupied b) m z)) (sym (e ∙ q)) (and_right (own && at) hit w.2)));
      on = subst (λ (z : ℕ). z < 64) e (goes-squares (occupied b) m to (and_right (own && at) hit w.2)).0;
    }

occupied-out : (b : Board) (u : ℕ) → T (occupied b u) → (m : Piece) × (m ∈ pieces b) × (u ≡ m.square)
unfolding occupied
occupied-out b u t =
    let w = any_out (λ n. eqb u n.square) (pieces b) t in (w.0, w.1, eqb→eq u w.0.square w.2)

module _ (b : Board) (from to : ℕ) (g : Goer b from to) where
  -- what stood elsewhere still stands, or the goer stands there
  pub still-occupied : (u : ℕ) → T (lifted (occupied b) from u) → T (occupied (moved b from to) u)
  still-occupied u t = by-test (eqb u to) target other
    where
      target : T (eqb u to) → T (occupied (moved b from to) u)
      target e =
          occupied-in (moved b from to) u (carried_piece from to g.piece)
          (piece-after b from to g.piece g.there (λ q. g.away (sym g.at ∙ q)))
          (rw (eq-eqb g.piece.square from g.at) (eqb→eq u to e))

      other : (T (eqb u to) → ⊥) → T (occupied (moved b from to) u)
      other h =
          let w = occupied-out b u (and_left (occupied b u) (not (eqb u from)) t) in
          let m = w.0 in
          let still = carried-still from to m
          (λ q. T_not (eqb u from) (and_right (occupied b u) (not (eqb u from)) t) (rw (w.2, q) (eqb_refl from)))
          in
          occupied-in (moved b from to) u (carried_piece from to m)
          (piece-after b from to m w.1 (λ q. h (rw (w.2, q) (eqb_refl to))))
          (w.2 ∙ ap (λ (n : Piece). n.square) (sym still))

  -- what stands after the move, its target apart, stood before it
  pub was-occupied : (u : ℕ) → (u ≡ to → ⊥) → T (occupied (moved b from to) u) → T (lifted (occupied b) from u)
  was-occupied u h t = let w = occupied-out (moved b from to) u t in let v = piece-before b from to w.0 w.1 in
      go v.0 v.1 (w.2 ∙ ap (λ (n : Piece). n.square) v.2)
    where
      go : (m : Piece) → m ∈ pieces b → u ≡ carried from to m.square → T (lifted (occupied b) from u)
      go m i e = by-test (eqb m.square from)
          (λ q. absurd (h (rw (eq-eqb m.square from (eqb→eq m.square from q)) at e))) stays
        where
          stays : (T (eqb m.square from) → ⊥) → T (lifted (occupied b) from u)
          stays f =
              let e' : u ≡ m.square = rw (fails (eqb m.square from) f) at e in
              and_both (occupied b u) (not (eqb u from)) (occupied-in b u m i e')
              (not_T (eqb u from) (λ q. f (subst (λ (z : ℕ). T (eqb z from)) e' q)))

-- A legal move from a legal board leaves a legal board, and no king is ever taken.
use Rattle.std.specs.Prelude.{◌≡◌, Bool, cond, not, ◌&&◌, ◌||◌, ◌⊎◌, ℕ, zero, suc, ◌-◌, ◌<◌, ltb}
use Rattle.std.proofs.Math.Path.{refl}
use Rattle.std.proofs.Common.{sym, ap, ◌∙◌, subst, inl, inr, eqb→eq, ltb→lt, lt→ltb}
use Rattle.std.proofs.Math.Bool.{true, false}
use Rattle.std.proofs.Math.Logic.{⊎_elim}
use mathlib.Core.List.{List, [], ◌∷◌, map}
use native.Mathlib.Omega.{arith}
use Rattle.std.proofs.Math.Dec.{T, eqb, eqb_refl, not_T, T_not}
use borrow.Author.Tests.{eqb-true, eqb-false, eq-eqb, ne_eqb}
use Rattle.finite.specs.Truth.{and_left, and_right, and_both, or_left, or_right, or_cases, fails, refuted}
use Rattle.finite.specs.Members.{any, all, any-in}
use Rattle.finite.specs.Filter.{filter, keep}
use Rattle.board.specs.Reach.{reaches}
use Rattle.board.proofs.laws.ReachLaws.{king-reaches}
use Rattle.symmetry.proofs.laws.Opposite.{reaches-sym}
use Rattle.rules.specs.declared.Piece.{Piece}
use Rattle.rules.specs.Rules.{Board, pieces, occupied, attacks, attacked, king, in_check, known, apart, touching, legal_of, legal, stands, carried, carried_piece, left, moved, can_move}
use Rattle.rules.proofs.laws.Legal.{LegalOf, legal_of-facts, legal-facts, facts-legal}
use Rattle.rules.proofs.laws.CanMove.{Can, can-facts, goes-attacks, can-on}
use Rattle.rules.specs.Sides.{moved-side}

king-stands : (b : Board) (s : ℕ) → s < 2 → T (stands b s (king b s))
unfolding stands any
king-stands b zero h =
    or_left (eqb b.white b.white) (any (λ m. eqb m.colour 0 && eqb m.square b.white) b.men)
    (eqb_refl b.white)
king-stands b (suc zero) h =
    or_left (eqb b.black b.black) (any (λ m. eqb m.colour 1 && eqb m.square b.black) b.men)
    (eqb_refl b.black)
king-stands b (suc (suc n)) h = absurd (omega arith)

king-occupies : (b : Board) (s : ℕ) → s < 2 → T (occupied b (king b s))
unfolding occupied any
king-occupies b zero h =
    or_left (eqb b.white b.white) (eqb b.white b.black || any (λ m. eqb b.white m.square) b.men)
    (eqb_refl b.white)
king-occupies b (suc zero) h =
    or_right (eqb b.black b.white) (eqb b.black b.black || any (λ m. eqb b.black m.square) b.men)
    (or_left (eqb b.black b.black) (any (λ m. eqb b.black m.square) b.men) (eqb_refl b.black))
king-occupies b (suc (suc n)) h = absurd (omega arith)

-- the piece that moves to an occupied square attacks it
goer-attacks : (b : Board) (from to : ℕ) → Can b from to → T (occupied b to) → T (attacked b b.side to)
unfolding attacked
goer-attacks b from to c o =
    any-in (λ m. eqb m.colour b.side && attacks (occupied b) m to) c.there
    (rw (eq-eqb c.piece.colour b.side c.own) (goes-attacks (occupied b) c.piece to o c.reach))

module _ (admits : Piece → Bool) (b : Board) (from to : ℕ) (l : LegalOf admits b) (c : Can b from to) where
  no-own-king : king b b.side ≡ to → ⊥
  no-own-king e = refuted c.free (subst (λ (s : ℕ). T (stands b b.side s)) e (king-stands b b.side l.side))

  no-other-king : king b (1 - b.side) ≡ to → ⊥
  unfolding in_check
  no-other-king e =
      let back : b.side ≡ 1 - (1 - b.side) = let h = l.side in omega arith in
      let there = king-occupies b (1 - b.side) (let h = l.side in omega arith) in
      refuted l.safe
      (subst (λ (s : ℕ). T (attacked b s (king b (1 - b.side)))) back
      (subst (λ (s : ℕ). T (attacked b b.side s)) (sym e)
      (goer-attacks b from to c (subst (λ (s : ℕ). T (occupied b s)) e there))))

  no-king : (s : ℕ) → s < 2 → king b s ≡ to → ⊥
  no-king s h e =
      ⊎_elim (λ (q : s ≡ b.side). no-own-king (sym (ap (king b) q) ∙ e))
      (λ (q : s ≡ 1 - b.side). no-other-king (sym (ap (king b) q) ∙ e)) (which s b.side h l.side)
    where
      which : (s t : ℕ) → s < 2 → t < 2 → (s ≡ t) ⊎ (s ≡ 1 - t)
      which zero zero h k = inl refl
      which zero (suc zero) h k = inr refl
      which (suc zero) zero h k = inr refl
      which (suc zero) (suc zero) h k = inl refl
      which (suc (suc n)) t h k = absurd (omega arith)
      which zero (suc (suc n)) h k = absurd (omega arith)
      which (suc zero) (suc (suc n)) h k = absurd (omega arith)

-- a legal move on a legal board never takes a king, whatever men the rules admit
pub takes-no-king-of : (admits : Piece → Bool) (b : Board) (from to : ℕ) → T (legal_of admits b) → T (can_move b from to)
    → (b.white ≡ to → ⊥) × (b.black ≡ to → ⊥)
takes-no-king-of admits b from to t u =
    let n = no-king admits b from to (legal_of-facts admits b t) (can-facts b from to u) in
    (n 0 (omega arith), n 1 (omega arith))

pub takes-no-king : (b : Board) (from to : ℕ) → T (legal b) → T (can_move b from to)
    → (b.white ≡ to → ⊥) × (b.black ≡ to → ⊥)
takes-no-king = takes-no-king-of known

-- ---- the men after a move

carried-inj : (from to s t : ℕ) → (s ≡ to → ⊥) → (t ≡ to → ⊥) → carried from to s ≡ carried from to t → s ≡ t
carried-inj from to s t p q e = go (eqb s from) refl (eqb t from) refl e
  where
    go : (x : Bool) → eqb s from ≡ x → (y : Bool) → eqb t from ≡ y → cond x to s ≡ cond y to t → s ≡ t
    go true h true k r = eqb-true s from h ∙ sym (eqb-true t from k)
    go true h false k r = absurd (q (sym r))
    go false h true k r = absurd (p r)
    go false h false k r = r

carried-lt : (from to s : ℕ) → to < 64 → s < 64 → carried from to s < 64
carried-lt from to s h k = go (eqb s from)
  where
    go : (x : Bool) → cond x to s < 64
    go true = h
    go false = k

module _ (from to : ℕ) where
  -- the men after the move
  after : List Piece → List Piece
  after l = map (carried_piece from to) (left to l)

  all_after : (f : Piece → Bool) → ((a : Piece) → T (f a) → T (f (carried_piece from to a))) → (l : List Piece)
      → T (all f l) → T (all f (after l))
  unfolding all filter after
  all_after f h [] t = tt
  all_after f h (a ∷ l) t = go (eqb a.square to) (all_after f h l (and_right (f a) (all f l) t))
    where
      go : (x : Bool) → T (all f (after l)) → T (all f (map (carried_piece from to) (keep (not x) a (left to l))))
      go true r = r
      go false r = and_both (f (carried_piece from to a)) (all f (after l)) (h a (and_left (f a) (all f l) t)) r

  -- a square that another man comes to stand on was his, or the target
  same_after : (s : ℕ) → (s ≡ to → ⊥) → (l : List Piece) → T (any (λ y. eqb (carried from to s) y.square) (after l))
      → T (any (λ y. eqb s y.square) l)
  unfolding any filter after
  same_after s p [] t = t
  same_after s p (a ∷ l) t = go (eqb a.square to) refl (same_after s p l) t
    where
      go : (x : Bool) → eqb a.square to ≡ x
          → (T (any (λ y. eqb (carried from to s) y.square) (after l)) → T (any (λ y. eqb s y.square) l))
          → T (any (λ y. eqb (carried from to s) y.square)
          (map (carried_piece from to) (keep (not x) a (left to l))))
          → T (eqb s a.square || any (λ y. eqb s y.square) l)
      go true e r t = or_right (eqb s a.square) (any (λ y. eqb s y.square) l) (r t)
      go false e r t =
          ⊎_elim
          (λ q. or_left (eqb s a.square) (any (λ y. eqb s y.square) l)
          (subst (λ (z : ℕ). T (eqb s z))
          (carried-inj from to s a.square p (eqb-false a.square to e)
          (eqb→eq (carried from to s) (carried from to a.square) q)) (eqb_refl s)))
          (λ q. or_right (eqb s a.square) (any (λ y. eqb s y.square) l) (r q))
          (or_cases (eqb (carried from to s) (carried from to a.square))
          (any (λ y. eqb (carried from to s) y.square) (after l)) t)

  apart-after : (l : List Piece) → T (apart l) → T (apart (after l))
  unfolding apart filter after
  apart-after [] t = tt
  apart-after (a ∷ l) t =
      go (eqb a.square to) refl
      (apart-after l (and_right (not (any (λ y. eqb a.square y.square) l)) (apart l) t))
    where
      go : (x : Bool) → eqb a.square to ≡ x → T (apart (after l))
          → T (apart (map (carried_piece from to) (keep (not x) a (left to l))))
      go true e r = r
      go false e r =
          and_both (not (any (λ y. eqb (carried from to a.square) y.square) (after l))) (apart (after l))
          (not_T (any (λ y. eqb (carried from to a.square) y.square) (after l))
          (λ q. T_not (any (λ y. eqb a.square y.square) l)
          (and_left (not (any (λ y. eqb a.square y.square) l)) (apart l) t)
          (same_after a.square (eqb-false a.square to e) l q)))
          r

  pieces-after : (b : Board) → (b.white ≡ to → ⊥) → (b.black ≡ to → ⊥) → pieces (moved b from to) ≡ after (pieces b)
  unfolding moved filter after
  pieces-after b p q = rw (ne_eqb b.white to p, ne_eqb b.black to q)

  men-after : (b : Board) → (moved b from to).men ≡ after b.men
  unfolding moved after
  men-after b = refl

-- kings that touch are in check
touch-check : (b : Board) (s : ℕ) → s < 2 → T (touching b) → T (in_check b s)
unfolding touching in_check attacked attacks any
touch-check b zero h t =
    or_left (reaches (occupied b) 5 b.black b.white)
    (any (λ m. eqb m.colour 1 && attacks (occupied b) m b.white) b.men)
    (rw (
      reaches-sym (occupied b) 5 b.black b.white,
      king-reaches (occupied b) (λ s. false) b.white b.black,
    ) t)
touch-check b (suc zero) h t =
    or_left (reaches (occupied b) 5 b.white b.black)
    (any (λ m. eqb m.colour 0 && attacks (occupied b) m b.black) b.men)
    (rw (king-reaches (occupied b) (λ s. false) b.white b.black) t)
touch-check b (suc (suc n)) h t = absurd (omega arith)

-- ---- a legal move leaves a legal board

-- where the rules admit the men that are left
pub closed_of : (admits : Piece → Bool) (b : Board) (from to : ℕ) → T (legal_of admits b) → T (can_move b from to)
    → (admits' : Piece → Bool) → T (all admits' (moved b from to).men) → LegalOf admits' (moved b from to)
closed_of admits b from to t u admits' men =
    let n = takes-no-king-of admits b from to t u in
    facts (legal_of-facts admits b t) (can-facts b from to u) (can-on b from to u).1
    (pieces-after from to b n.0 n.1)
  where
    facts : LegalOf admits b → Can b from to → to < 64 → pieces (moved b from to) ≡ after from to (pieces b)
        → LegalOf admits' (moved b from to)
    facts l c hto e = record {
      side = omega (arith, moved-side b from to);
      men = men;
      squares = rw e
          (all_after from to (λ a. ltb a.square 64)
          (λ a h. lt→ltb (carried from to a.square) 64
          (carried-lt from to a.square hto (ltb→lt a.square 64 h))) (pieces b) l.squares);
      apart = rw e (apart-after from to (pieces b) l.apart);
      kings = fails (touching (moved b from to))
          (λ q. refuted c.safe (touch-check (moved b from to) b.side l.side q));
      safe = ap (in_check (moved b from to)) (let h = l.side in omega (arith, moved-side b from to)) ∙ c.safe;
    }

pub closed : (b : Board) (from to : ℕ) → T (legal b) → T (can_move b from to) → T (legal (moved b from to))
closed b from to t u =
    facts-legal (moved b from to)
    (closed_of known b from to t u known
    (rw (men-after from to b) (all_after from to known (λ a h. h) b.men (legal-facts b t).men)))

-- A move keeps the pieces less one taken; a lone man stays or is taken; bare kings are never in check.
use Rattle.std.specs.Prelude.{◌≡◌, refl, Bool, true, false, not, ◌&&◌, ◌||◌, ◌⊎◌, List, [], ◌∷◌, map, ℕ, zero, suc, ◌+◌, ◌<◌, T, eqb, length}
use Rattle.std.proofs.Common.{sym, subst, inl, inr, arith, eqb-true, eq-eqb, ne_eqb}
use mathlib.Core.List.Memᴰ
use Rattle.std.proofs.lemmas.Bool.{eqb-false}
use Rattle.finite.specs.Truth.{and_left, and_right, false_of, fails, refuted}
use Rattle.finite.specs.Members.{◌∈◌, any, any-in, map-twice}
use Rattle.finite.specs.Filter.{filter, keep}
use Rattle.board.specs.Reach.{reaches}
use Rattle.board.specs.Sets.{digit}
use Rattle.board.proofs.laws.ReachLaws.{king-reaches}
use Rattle.symmetry.proofs.laws.Opposite.{reaches-sym}
use Rattle.rules.specs.declared.Piece.{Piece}
use Rattle.rules.specs.Rules.{Board, piece_of, occupied, attacks, attacked, in_check, known, apart, touching, legal_of, legal, stands, carried_piece, left, moved, can_move}
use Rattle.rules.proofs.laws.Legal.{legal_of-facts}
use Rattle.rules.proofs.laws.CanMove.{can-facts}

-- a piece but for its square
abbrev pub sort : Piece → Piece
sort m = piece_of m.kind m.colour 0

pub same-men : (b : Board) (from to : ℕ) → map sort (moved b from to).men ≡ map sort (left to b.men)
unfolding moved
same-men b from to = map-twice sort (carried_piece from to) (left to b.men)

left-all : (s : ℕ) (l : List Piece) → any (λ y. eqb s y.square) l ≡ false → left s l ≡ l
unfolding any filter
left-all s [] e = refl
left-all s (a ∷ l) e = go (eqb s a.square) refl e (left-all s l)
  where
    go : (x : Bool) → eqb s a.square ≡ x → (x || any (λ y. eqb s y.square) l) ≡ false
        → (any (λ y. eqb s y.square) l ≡ false → left s l ≡ l) → keep (not (eqb a.square s)) a (left s l) ≡ a ∷ l
    go true h e r = absurd (refuted e tt)
    go false h e r = rw (ne_eqb a.square s (λ q. eqb-false s a.square h (sym q)), r e)

-- one is taken where one stands on the target, and none where none does
pub one-taken : (to : ℕ) (l : List Piece) → T (apart l)
    → length l ≡ digit (any (λ y. eqb y.square to) l) + length (left to l)
unfolding any apart filter
one-taken to [] t = refl
one-taken to (a ∷ l) t =
    go (eqb a.square to) refl
    (one-taken to l (and_right (not (any (λ y. eqb a.square y.square) l)) (apart l) t))
  where
    go : (x : Bool) → eqb a.square to ≡ x → length l ≡ digit (any (λ y. eqb y.square to) l) + length (left to l)
        → suc (length l) ≡ digit (x || any (λ y. eqb y.square to) l) + length (keep (not x) a (left to l))
    go true e r =
        rw (
          ← eqb-true a.square to e,
          left-all a.square l (false_of (and_left (not (any (λ y. eqb a.square y.square) l)) (apart l) t)),
        )
        (omega arith)
    go false e r = omega arith

-- a piece of the side to move is never taken
pub own-kept : (b : Board) (from to : ℕ) → T (can_move b from to) → (m : Piece) → m ∈ b.men → m.colour ≡ b.side
    → m.square ≡ to → ⊥
unfolding stands
own-kept b from to t m h e q =
    refuted (can-facts b from to t).free
    (any-in (λ x. eqb x.colour b.side && eqb x.square to) (Memᴰ.tail (Memᴰ.tail h))
    (rw (eq-eqb m.colour b.side e, eq-eqb m.square to q) tt))

-- a lone man stays, or is taken and leaves bare kings
pub lone-man : (b : Board) (a : Piece) (from to : ℕ) → b.men ≡ a ∷ []
    → ((moved b from to).men ≡ []) ⊎ ((moved b from to).men ≡ carried_piece from to a ∷ [])
unfolding moved filter
lone-man b a from to e = rw e (go (eqb a.square to))
  where
    go : (x : Bool)
        → (map (carried_piece from to) (keep (not x) a []) ≡ [])
        ⊎ (map (carried_piece from to) (keep (not x) a []) ≡ carried_piece from to a ∷ [])
    go true = inl refl
    go false = inr refl

-- ---- bare kings are never in check

or_no : (b : Bool) → T (b || false) → T b
or_no true t = tt
or_no false t = t

bare-touch : (b : Board) (s : ℕ) → s < 2 → b.men ≡ [] → T (in_check b s) → T (touching b)
unfolding touching in_check attacked attacks any
bare-touch b zero h e t =
    rw (king-reaches (λ s. false) (occupied b) b.white b.black, reaches-sym (occupied b) 5 b.white b.black)
    (or_no (reaches (occupied b) 5 b.black b.white)
    (subst (λ (l : List Piece). T
    (reaches (occupied b) 5 b.black b.white || any
    (λ m. eqb m.colour 1 && attacks (occupied b) m b.white) l)) e t))
bare-touch b (suc zero) h e t =
    rw (king-reaches (λ s. false) (occupied b) b.white b.black)
    (or_no (reaches (occupied b) 5 b.white b.black)
    (subst (λ (l : List Piece). T
    (reaches (occupied b) 5 b.white b.black || any
    (λ m. eqb m.colour 0 && attacks (occupied b) m b.black) l)) e t))
bare-touch b (suc (suc n)) h e t = absurd (omega arith)

pub bare-safe-of : (admits : Piece → Bool) (b : Board) (s : ℕ) → s < 2 → T (legal_of admits b) → b.men ≡ []
    → in_check b s ≡ false
bare-safe-of admits b s h t e =
    fails (in_check b s) (λ c. refuted (legal_of-facts admits b t).kings (bare-touch b s h e c))

pub bare-safe : (b : Board) (s : ℕ) → s < 2 → T (legal b) → b.men ≡ [] → in_check b s ≡ false
bare-safe = bare-safe-of known

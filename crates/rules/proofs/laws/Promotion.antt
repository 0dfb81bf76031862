-- A move that promotes: squares, and what the other side attacks, stay as they are; with a pawn too a listed move leaves a legal board.
use Rattle.std.specs.Prelude.{◌≡◌, true, false, cond, ◌&&◌, ◌||◌, leb}
use Rattle.std.proofs.Math.Path.{refl, ap, subst}
use Rattle.std.proofs.Common.{sym, ◌∙◌, ⊎_elim, arith, le→leb, lt→ltb, T_not, eqb-true, eq-eqb, ne_eqb, lt-ltb}
use Rattle.std.proofs.Math.Bool.{Bool, not}
use mathlib.Core.List.Memᴰ
use mathlib.Core.List.{List, [], ◌∷◌, map}
use Prim.Native.Nat.{ℕ, zero, suc, ◌-◌, ◌<◌, ◌≤◌}
use Rattle.std.proofs.Math.Dec.{T, eqb, ltb, eqb_refl}
use Rattle.finite.specs.Truth.{and_left, and_right, and_both, or_left, or_right, or_cases, by-test, false_of, fails, refuted, le-or-lt}
use Rattle.finite.specs.Members.{◌∈◌, any, all, any-in, all_in, all-out, map-out}
use Rattle.finite.specs.Filter.{filter-out}
use Rattle.rules.specs.declared.Piece.{Piece}
use Rattle.rules.specs.declared.Move.{Move}
use Rattle.rules.specs.Pawn.{pawn, inner, outer}
use Rattle.rules.specs.Rules.{Board, pieces, piece_of, occupied, attacks, attacked, king, in_check, known, known_or_pawn, apart, touching, legal_with_pawn, carried_piece, left, moved, can_move, promotes, becoming, promoted, played_as}
use Rattle.rules.proofs.laws.Legal.{LegalOf, legal_of-facts, facts-legal_of, admitted-colour}
use Rattle.rules.proofs.laws.CanMove.{can-facts}
use Rattle.rules.proofs.laws.MoveLists.{ListedMove}
use Rattle.rules.proofs.laws.Closed.{closed_of}
use Rattle.rules.specs.Sides.{moved-side}

module _ (side to kind : ℕ) where
  abbrev turned : Piece → Piece
  turned = becoming side to kind

  all-turned : (f : Piece → Bool) → ((a : Piece) → f (turned a) ≡ f a) → (l : List Piece)
      → all f (map turned l) ≡ all f l
  unfolding all
  all-turned f h [] = refl
  all-turned f h (a ∷ l) = rw (h a, all-turned f h l)

  any-turned : (f : Piece → Bool) → ((a : Piece) → f (turned a) ≡ f a) → (l : List Piece)
      → any f (map turned l) ≡ any f l
  unfolding any
  any-turned f h [] = refl
  any-turned f h (a ∷ l) = rw (h a, any-turned f h l)

  apart-turned : (l : List Piece) → apart (map turned l) ≡ apart l
  unfolding apart
  apart-turned [] = refl
  apart-turned (a ∷ l) = rw (any-turned (λ y. eqb a.square y.square) (λ y. refl) l, apart-turned l)

  module _ (b : Board) where
    pub occupied-promoted : occupied (promoted side to kind b) ≡ occupied b
    unfolding occupied any
    occupied-promoted =
        λ i s. eqb s b.white || (eqb s b.black || any-turned (λ y. eqb s y.square) (λ y. refl) b.men i)

    apart-promoted : apart (pieces (promoted side to kind b)) ≡ apart (pieces b)
    unfolding apart any
    apart-promoted =
        rw (
          any-turned (λ y. eqb b.white y.square) (λ y. refl) b.men,
          any-turned (λ y. eqb b.black y.square) (λ y. refl) b.men,
          apart-turned b.men,
        )

    squares-promoted :
        all (λ m. ltb m.square 64) (pieces (promoted side to kind b)) ≡ all (λ m. ltb m.square 64) (pieces b)
    unfolding all
    squares-promoted = rw (all-turned (λ m. ltb m.square 64) (λ a. refl) b.men)

    -- the side itself is in check, or not, as before
    pub check-promoted : side < 2 → in_check (promoted side to kind b) side ≡ in_check b side
    unfolding in_check attacked any
    check-promoted h =
        ap (λ (o : ℕ → Bool). foe o (piece_of 5 0 b.white) || (foe o (piece_of 5 1 b.black)
        || any (foe o) (map turned b.men))) occupied-promoted
        ∙ rw (any-turned (foe (occupied b)) foreign b.men)
      where
        foe : (ℕ → Bool) → Piece → Bool
        foe o m = eqb m.colour (1 - side) && attacks o m (king b side)

        foreign : (a : Piece) → foe (occupied b) (turned a) ≡ foe (occupied b) a
        foreign a = go (eqb a.colour (1 - side)) refl
          where
            go : (x : Bool) → eqb a.colour (1 - side) ≡ x
                → (x && attacks (occupied b) (turned a) (king b side)) ≡ (x && attacks (occupied b) a (king b side))
            go true e = let z = eqb-true a.colour (1 - side) e in rw (ne_eqb a.colour side (λ q. omega arith))
            go false e = refl

-- ---- one square has one piece

apart-clash : (z y : Piece) (l : List Piece) → T (apart (z ∷ l)) → y ∈ l → z.square ≡ y.square → ⊥
unfolding apart
apart-clash z y l t j e =
    T_not (any (λ w. eqb z.square w.square) l)
    (and_left (not (any (λ w. eqb z.square w.square) l)) (apart l) t)
    (any-in (λ w. eqb z.square w.square) j (subst (λ (s : ℕ). T (eqb z.square s)) e (eqb_refl z.square)))

apart-rest : (z : Piece) (l : List Piece) → T (apart (z ∷ l)) → T (apart l)
unfolding apart
apart-rest z l t = and_right (not (any (λ w. eqb z.square w.square) l)) (apart l) t

pub apart-one : {x y : Piece} {l : List Piece} → T (apart l) → x ∈ l → y ∈ l → x.square ≡ y.square → x ≡ y
apart-one t (Memᴰ.head p) (Memᴰ.head q) e = p ∙ sym q
apart-one {y = y} t (Memᴰ.head {x = z} {xs = l} p) (Memᴰ.tail j) e =
    absurd (apart-clash z y l t j (ap (λ (a : Piece). a.square) (sym p) ∙ e))
apart-one {x = x} t (Memᴰ.tail {x = z} {xs = l} i) (Memᴰ.head q) e =
    absurd (apart-clash z x l t i (ap (λ (a : Piece). a.square) (sym q) ∙ sym e))
apart-one t (Memᴰ.tail {x = z} {xs = l} i) (Memᴰ.tail j) e = apart-one (apart-rest z l t) i j e

-- ---- the men after a move are such as the rules admit

not-outer : (s : ℕ) → outer s ≡ false → T (inner s)
not-outer s e =
    ⊎_elim
    (λ (h : 8 ≤ s). ⊎_elim
    (λ (k : 56 ≤ s). absurd (refuted e (or_right (ltb s 8) (leb 56 s) (le→leb 56 s k))))
    (λ (k : s < 56). and_both (ltb 7 s) (ltb s 56) (lt→ltb 7 s (omega arith)) (lt→ltb s 56 k)) (le-or-lt 56 s))
    (λ (h : s < 8). absurd (refuted e (or_left (ltb s 8) (leb 56 s) (lt→ltb s 8 h)))) (le-or-lt 8 s)

module _ (b : Board) (from to : ℕ) (t : T (legal_with_pawn b)) (u : T (can_move b from to)) where
  admitted : (a : Piece) → a ∈ b.men → T (known_or_pawn a)
  admitted a i = all-out known_or_pawn i (legal_of-facts known_or_pawn b t).men

  -- the man who moves
  mover : (a : Piece) → a ∈ b.men → a.square ≡ from → a.colour ≡ b.side
  mover a i e =
      let c = can-facts b from to u in
      ap (λ (m : Piece). m.colour)
      (apart-one (legal_of-facts known_or_pawn b t).apart (Memᴰ.tail (Memᴰ.tail i)) c.there
      (e ∙ sym c.at))
      ∙ c.own

  -- a pawn that does not promote stays on ranks 2 to 7
  stays-inner : promotes b from to ≡ false → (a : Piece) → a ∈ b.men → a.square ≡ from → T (pawn a) → T (inner to)
  unfolding promotes
  stays-inner e a i q p =
      not-outer to
      (fails (outer to)
      (λ o. refuted e
      (and_both (any (λ m. pawn m && eqb m.square from) b.men) (outer to)
      (any-in (λ m. pawn m && eqb m.square from) i
      (and_both (pawn a) (eqb a.square from) p (rw (eq-eqb a.square from q) tt))) o)))

  plain-man : promotes b from to ≡ false → (a : Piece) → a ∈ b.men → T (known_or_pawn (carried_piece from to a))
  plain-man e a i = go (eqb a.square from) refl
    where
      go : (x : Bool) → eqb a.square from ≡ x
          → T (known_or_pawn (piece_of a.kind a.colour (cond x to a.square)))
      go true q =
          ⊎_elim (λ k. or_left (known a) (pawn a && ltb a.colour 2 && inner to) k)
          (λ k. let p = and_left (pawn a && ltb a.colour 2) (inner a.square) k in
          or_right (known a) (pawn a && ltb a.colour 2 && inner to)
          (and_both (pawn a && ltb a.colour 2) (inner to) p
          (stays-inner e a i (eqb-true a.square from q) (and_left (pawn a) (ltb a.colour 2) p))))
          (or_cases (known a) (pawn a && ltb a.colour 2 && inner a.square) (admitted a i))
      go false q = admitted a i

  plain-men : promotes b from to ≡ false → T (all known_or_pawn (moved b from to).men)
  unfolding moved
  plain-men e =
      all_in known_or_pawn (map (carried_piece from to) (left to b.men))
      (λ y i. let w = map-out (carried_piece from to) y (left to b.men) i in
      let v = filter-out (λ m. not (eqb m.square to)) w.0 b.men w.1 in
      subst (λ (z : Piece). T (known_or_pawn z)) (sym w.2) (plain-man e w.0 v.0))

  named-man : (k : ℕ) → k < 4 → (a : Piece) → a ∈ b.men → eqb a.square to ≡ false
      → T (known_or_pawn (becoming b.side to k (carried_piece from to a)))
  named-man k h a i e = go (eqb a.square from) refl
    where
      still : (x : Bool) → T (known_or_pawn (piece_of (cond (x && false) k a.kind) a.colour a.square))
      still true = admitted a i
      still false = admitted a i

      go : (x : Bool) → eqb a.square from ≡ x
          → T (known_or_pawn (becoming b.side to k (piece_of a.kind a.colour (cond x to a.square))))
      go true q =
          rw (
            eq-eqb a.colour b.side (mover a i (eqb-true a.square from q)),
            eq-eqb to to refl,
            lt-ltb k 4 h,
            lt-ltb a.colour 2 (admitted-colour a (admitted a i)),
          ) tt
      go false q = rw e (still (eqb a.colour b.side))

  named-men : (k : ℕ) → k < 4 → T (all known_or_pawn (promoted b.side to k (moved b from to)).men)
  unfolding moved
  named-men k h =
      all_in known_or_pawn (map (becoming b.side to k) (map (carried_piece from to) (left to b.men)))
      (λ y i. let p = map-out (becoming b.side to k) y (map (carried_piece from to) (left to b.men)) i in
      let w = map-out (carried_piece from to) p.0 (left to b.men) p.1 in
      let v = filter-out (λ m. not (eqb m.square to)) w.0 b.men w.1 in
      subst (λ (z : Piece). T (known_or_pawn z)) (sym (p.2 ∙ ap (becoming b.side to k) w.2))
      (named-man k h w.0 v.0 (false_of v.1)))

  closed-plain : promotes b from to ≡ false → T (legal_with_pawn (moved b from to))
  closed-plain e =
      facts-legal_of known_or_pawn (moved b from to) (closed_of known_or_pawn b from to t u known_or_pawn (plain-men e))

  closed-named : (k : ℕ) → k < 4 → T (legal_with_pawn (promoted b.side to k (moved b from to)))
  unfolding touching
  closed-named k h =
      facts-legal_of known_or_pawn (promoted b.side to k (moved b from to))
      (facts (closed_of known_or_pawn b from to t u (λ a. true) (all_in (λ a. true) (moved b from to).men (λ a i. tt))))
    where
      facts : LegalOf (λ a. true) (moved b from to) → LegalOf known_or_pawn (promoted b.side to k (moved b from to))
      facts l = record {
        side = l.side;
        men = named-men k h;
        squares = rw (squares-promoted b.side to k (moved b from to)) l.squares;
        apart = rw (apart-promoted b.side to k (moved b from to)) l.apart;
        kings = l.kings;
        safe =
            let s = (legal_of-facts known_or_pawn b t).side in
            ap (in_check (promoted b.side to k (moved b from to))) (omega (arith, moved-side b from to))
            ∙ check-promoted b.side to k (moved b from to) s
            ∙ (can-facts b from to u).safe;
      }

-- ---- a listed move leaves a legal board

pub closed-pawn : (b : Board) (v : Move) → T (legal_with_pawn b) → ListedMove b v
    → T (legal_with_pawn (played_as b v.from v.to v.becomes))
closed-pawn b v t m = go v.becomes refl
  where
    go : (k : ℕ) → v.becomes ≡ k → T (legal_with_pawn (played_as b v.from v.to k))
    go zero e =
        closed-plain b v.from v.to t m.can
        (fails (promotes b v.from v.to) (λ p. let n = (m.named p).0 in omega arith))
    go (suc k) e =
        by-test (promotes b v.from v.to)
        (λ p. closed-named b v.from v.to t m.can k (let n = (m.named p).1 in omega arith))
        (λ p. let z = m.plain (fails (promotes b v.from v.to) p) in absurd (omega arith))

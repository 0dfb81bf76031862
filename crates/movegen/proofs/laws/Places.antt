-- The rules on an ending's men and a place, piece by piece, as code goes through them.
use Rattle.std.specs.Prelude.{◌≡◌, Bool, cond, ◌&&◌, ℕ, zero, suc, ◌-◌, ◌^◌, ◌<◌, ◌≤◌, None, Option, Some}
use Rattle.std.proofs.Math.Path.{refl, sym, ap₂}
use Rattle.std.proofs.Common.{ap, ◌∙◌, inl, arith}
use Rattle.std.proofs.Math.Bool.{true, false, ◌||◌, or-false, and-false}
use Rattle.std.proofs.Math.Dec.{leb, eqb}
use Rattle.std.specs.Int.Bits.{bit_or}
use Rattle.std.proofs.lemmas.Nat.{or_lt}
use borrow.Author.Tests.{leb-true, leb-false, lt-leb, ne_eqb, eqb-true}
use Rattle.finite.specs.Truth.{eqb-sym}
use Rattle.finite.specs.Members.{any}
use Rattle.finite.specs.Tests.{any_append}
use Rattle.board.specs.Reach.{reaches}
use Rattle.board.specs.Sets.{set_of}
use Rattle.board.proofs.laws.ReachLaws.{reaches-off}
use Rattle.board.proofs.laws.SetLaws.{set_is, set-has, has-or}
use Rattle.rules.specs.declared.Piece.{Piece}
use Rattle.rules.specs.Pawn.{pawn}
use Rattle.rules.specs.Rules.{piece_of, pieces, occupied, attacks, stands, goes_to, carried, moved}
use Rattle.rules.proofs.laws.CanMove.{goes-piece, attacks-piece}
use Rattle.rules.proofs.laws.OnBoard.{attacks-off, goes_to-off}
use Rattle.position.specs.declared.Position.{Position}
use Rattle.position.specs.declared.Men.{Men}
use Rattle.position.specs.declared.Place.{Place}
use Rattle.position.specs.Keyed.{slot_men, board_of}
use Rattle.position.specs.Over.{strikes, attacked_over, goes_from, goes_over}
use Rattle.position.specs.Pieces.{own_on, stands_on}
use Rattle.position.specs.Posed.{slot_at, posed, board_in}
use Rattle.position.specs.Spread.{Pawnless}
use Rattle.position.proofs.laws.Pieces.{union-lt}
use Rattle.movegen.specs.After.{slot_after, after}
use Rattle.movegen.specs.Places.{first_of, second_of, piece_strikes, men_strike, square_after, place_after}
use Rattle.movegen.proofs.laws.Making.{after-moved}

-- ---- a test that nobody off the board passes

module _ (f : Piece → Bool) (none : (kind colour square : ℕ) → 64 ≤ square → f (piece_of kind colour square) ≡ false) where
  slot-any : (kind colour square : ℕ)
      → any f (slot_men (slot_at kind colour square)) ≡ f (piece_of kind colour square)
  unfolding any
  slot-any kind colour square = go (leb 64 square) refl
    where
      go : (x : Bool) → leb 64 square ≡ x
          → any f (slot_men (cond x None (Some (piece_of kind colour square)))) ≡ f (piece_of kind colour square)
      go true e = sym (none kind colour square (leb-true 64 square e))
      go false e = or-false (f (piece_of kind colour square))

  any-men : (m : Men) (q : Place)
      → any f (pieces (board_in m q))
      ≡ (f (piece_of 5 0 q.white) || (f (piece_of 5 1 q.black) || (f (first_of m q) || f (second_of m q))))
  unfolding any board_of posed
  any-men m q =
      rw (
        any_append f (slot_men (slot_at m.first 0 q.first))
            (slot_men (slot_at m.second m.colour q.second)),
        slot-any m.first 0 q.first,
        slot-any m.second m.colour q.second,
      )

-- ---- a piece that is no pawn on the board

module _ (occ : ℕ → Bool) (t : ℕ) (a : Piece) (out : a.kind ≡ 4 → 64 ≤ a.square) where
  piece-attacks : attacks occ a t ≡ reaches occ a.kind a.square t
  piece-attacks = go (pawn a) refl
    where
      go : (x : Bool) → pawn a ≡ x → attacks occ a t ≡ reaches occ a.kind a.square t
      go true e =
          let off = out (eqb-true a.kind 4 e) in
          attacks-off occ a t (inl off) ∙ sym (reaches-off occ a.kind a.square t (inl off))
      go false e = attacks-piece occ a t e

  pub piece-goes : goes_to occ a t ≡ reaches occ a.kind a.square t
  piece-goes = go (pawn a) refl
    where
      go : (x : Bool) → pawn a ≡ x → goes_to occ a t ≡ reaches occ a.kind a.square t
      go true e =
          let off = out (eqb-true a.kind 4 e) in
          goes_to-off occ a t (inl off) ∙ sym (reaches-off occ a.kind a.square t (inl off))
      go false e = goes-piece occ a t e

piece-strikes : (occ : ℕ → Bool) (colour t : ℕ) (a : Piece) → (a.kind ≡ 4 → 64 ≤ a.square)
    → strikes occ colour t a ≡ piece_strikes occ colour t a
piece-strikes occ colour t a out = ap (λ (x : Bool). eqb a.colour colour && x) (piece-attacks occ t a out)

module _ (m : Men) (q : Place) where
  pub occupied-men : (t : ℕ) → t < 64
      → occupied (board_in m q) t
      ≡ (eqb t q.white || (eqb t q.black || (eqb t q.first || eqb t q.second)))
  unfolding occupied
  occupied-men t h = any-men (stands_on t) (λ k c s l. ne_eqb t s (λ e. omega arith)) m q

  pub stands-men : (colour t : ℕ) → t < 64
      → stands (board_in m q) colour t
      ≡ (own_on colour t (piece_of 5 0 q.white) || (own_on colour t (piece_of 5 1 q.black)
      || (own_on colour t (first_of m q) || own_on colour t (second_of m q))))
  unfolding stands
  stands-men colour t h =
      any-men (own_on colour t) (λ k c s l. rw (ne_eqb s t (λ e. omega arith)) (and-false (eqb c colour))) m q

  pub attacked-men : Pawnless m q → (occ : ℕ → Bool) (colour t : ℕ)
      → attacked_over occ (board_in m q) colour t
      ≡ (piece_strikes occ colour t (piece_of 5 0 q.white) || (piece_strikes occ colour t (piece_of 5 1 q.black)
      || men_strike m q occ colour t))
  unfolding attacked_over
  attacked-men p occ colour t =
      any-men (strikes occ colour t)
      (λ k c s l. rw (attacks-off occ (piece_of k c s) t (inl l)) (and-false (eqb c colour))) m q
      ∙ ap₂ ◌||◌ (piece-strikes occ colour t (piece_of 5 0 q.white) (λ e. absurd (omega arith)))
      (ap₂ ◌||◌ (piece-strikes occ colour t (piece_of 5 1 q.black) (λ e. absurd (omega arith)))
      (ap₂ ◌||◌ (piece-strikes occ colour t (first_of m q) p.first)
      (piece-strikes occ colour t (second_of m q) p.second)))

  pub goes-men : (occ : ℕ → Bool) (from t : ℕ)
      → goes_over occ (board_in m q) from t
      ≡ (goes_from occ q.side from t (piece_of 5 0 q.white)
      || (goes_from occ q.side from t (piece_of 5 1 q.black)
      || (goes_from occ q.side from t (first_of m q) || goes_from occ q.side from t (second_of m q))))
  unfolding goes_over board_of posed
  goes-men occ from t =
      any-men (goes_from occ q.side from t)
      (λ k c s l. rw (goes_to-off occ (piece_of k c s) t (inl l)) (and-false (eqb c q.side && eqb s from))) m q

-- ---- a man by his square: off the board if he is not of the side asked for

own-if : (colour t kind owner square : ℕ) → t < 64
    → own_on colour t (piece_of kind owner square) ≡ eqb t (cond (eqb owner colour) square 64)
own-if colour t kind owner square h = go (eqb owner colour)
  where
    go : (x : Bool) → (x && eqb square t) ≡ eqb t (cond x square 64)
    go true = eqb-sym square t
    go false = sym (ne_eqb t 64 (λ e. omega arith))

module _ (m : Men) (q : Place) where
  own-three : (side t : ℕ) → side < 2 → t < 64
      → stands (board_in m q) side t
      ≡ (eqb t (cond (eqb side 0) q.white q.black)
      || (eqb t (cond (eqb 0 side) q.first 64) || eqb t (cond (eqb m.colour side) q.second 64)))
  own-three zero t l h =
      stands-men m q 0 t h
      ∙ rw (
        eqb-sym q.white t,
        ← own-if 0 t m.first 0 q.first h,
        ← own-if 0 t m.second m.colour q.second h,
      )
  own-three (suc zero) t l h =
      stands-men m q 1 t h
      ∙ rw (
        eqb-sym q.black t,
        ← own-if 1 t m.first 0 q.first h,
        ← own-if 1 t m.second m.colour q.second h,
      )
  own-three (suc (suc n)) t l h = absurd (omega arith)

  -- the squares of a side, gathered
  pub own-set : (side a b c : ℕ) → side < 2
      → a ≡ set_of (λ (u : ℕ). eqb u (cond (eqb side 0) q.white q.black))
      → b ≡ set_of (λ (u : ℕ). eqb u (cond (eqb 0 side) q.first 64))
      → c ≡ set_of (λ (u : ℕ). eqb u (cond (eqb m.colour side) q.second 64))
      → a < 2 ^ 64 → b < 2 ^ 64 → c < 2 ^ 64
      → bit_or a (bit_or b c) ≡ set_of (stands (board_in m q) side)
  own-set side a b c l ea eb ec la lb lc =
      set_is (stands (board_in m q) side) (bit_or a (bit_or b c)) (or_lt 64 a (bit_or b c) la (or_lt 64 b c lb lc))
      (λ t h. has-or a (bit_or b c) t
      ∙ ap₂ ◌||◌ (set-has _ ea t h) (has-or b c t ∙ ap₂ ◌||◌ (set-has _ eb t h) (set-has _ ec t h))
      ∙ sym (own-three side t l h))

  -- the occupied squares, gathered
  pub occupied-set : (a b c d : ℕ) → a ≡ set_of (λ (u : ℕ). eqb u q.white) → b ≡ set_of (λ (u : ℕ). eqb u q.black)
      → c ≡ set_of (λ (u : ℕ). eqb u q.first) → d ≡ set_of (λ (u : ℕ). eqb u q.second)
      → a < 2 ^ 64 → b < 2 ^ 64 → c < 2 ^ 64 → d < 2 ^ 64
      → bit_or a (bit_or b (bit_or c d)) ≡ set_of (occupied (board_in m q))
  occupied-set a b c d ea eb ec ed la lb lc ld =
      set_is (occupied (board_in m q)) (bit_or a (bit_or b (bit_or c d))) (union-lt a b c d la lb lc ld)
      (λ t h. has-or a (bit_or b (bit_or c d)) t
      ∙ ap₂ ◌||◌ (set-has _ ea t h)
      (has-or b (bit_or c d) t ∙ ap₂ ◌||◌ (set-has _ eb t h)
      (has-or c d t ∙ ap₂ ◌||◌ (set-has _ ec t h) (set-has _ ed t h)))
      ∙ sym (occupied-men m q t h))

-- one of two tests, the second asked where the first fails
pub or-first : (a b x : Bool) → x ≡ a → x ≡ true → true ≡ (a || b)
or-first a b x e t = sym (rw (sym e ∙ t))

pub or-next : (a b x y : Bool) → x ≡ a → x ≡ false → y ≡ b → y ≡ (a || b)
or-next a b x y e f h = h ∙ sym (rw (sym e ∙ f))

-- ---- the place after a move

module _ (from to : ℕ) (lf : from < 64) (lt : to < 64) where
  slot-moved : (kind colour s : ℕ)
      → slot_at kind colour (square_after from to s) ≡ slot_after from to (slot_at kind colour s)
  slot-moved kind colour s = go (leb 64 s) refl
    where
      here : (x : Bool) → eqb s from ≡ x → s < 64 → leb 64 (cond x to s) ≡ false
      here true e h = lt-leb 64 to lt
      here false e h = lt-leb 64 s h

      taken : (x : Bool) → s < 64
          → slot_at kind colour (cond x 64 (carried from to s))
          ≡ cond x None (Some (piece_of kind colour (carried from to s)))
      taken true h = refl
      taken false h = rw (here (eqb s from) refl h)

      go : (x : Bool) → leb 64 s ≡ x
          → slot_at kind colour (square_after from to s)
          ≡ slot_after from to (cond x None (Some (piece_of kind colour s)))
      go true e =
          let l = leb-true 64 s e in
          rw (ne_eqb s to (λ p. omega arith), ne_eqb s from (λ p. omega arith), e)
      go false e = taken (eqb s to) (leb-false 64 s e)

  place-posed : (m : Men) (q : Place) → posed m (place_after q from to) ≡ after (posed m q) from to
  unfolding posed place_after after
  place-posed m q =
      ap₂ (λ (f s : Option Piece). record {
        side = 1 - q.side;
        white_king = carried from to q.white;
        black_king = carried from to q.black;
        first = f;
        second = s;
      }) (slot-moved m.first 0 q.first) (slot-moved m.second m.colour q.second)

  -- no man becomes a pawn
  pub pawnless-after : (m : Men) (q : Place) → Pawnless m q → Pawnless m (place_after q from to)
  unfolding place_after
  pawnless-after m q p =
      record { first = λ e. off q.first (p.first e); second = λ e. off q.second (p.second e) }
    where
      off : (s : ℕ) → 64 ≤ s → 64 ≤ square_after from to s
      off s l = rw (ne_eqb s to (λ e. omega arith), ne_eqb s from (λ e. omega arith)) l

  pub place-moved : (m : Men) (q : Place) → board_in m (place_after q from to) ≡ moved (board_in m q) from to
  place-moved m q = ap (λ (p : Position). board_of p) (place-posed m q) ∙ after-moved from to (posed m q)

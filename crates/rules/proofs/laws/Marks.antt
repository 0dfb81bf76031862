-- A listed move says whether it takes; on a legal board it then leaves one man fewer, or as many, and both kings.
use Rattle.std.specs.Prelude.{◌≡◌, refl, true, false, not, ◌&&◌, ◌⊎◌, List, ◌∷◌, ℕ, zero, suc, ◌+◌, ◌-◌, ◌<◌, length}
use Rattle.std.proofs.Common.{sym, ap, ap₂, ◌∙◌, inl, inr, arith}
use Rattle.std.proofs.Math.Bool.{Bool}
use mathlib.Core.List.Memᴰ
use Rattle.std.proofs.Math.Dec.{T, eqb, eqb→eq}
use Rattle.std.proofs.lemmas.List.{length-map}
use borrow.Author.Tests.{eq-eqb}
use Rattle.finite.specs.Truth.{and_right, same_test}
use Rattle.finite.specs.Members.{◌∈◌, any, any-in, any_out, all-out}
use Rattle.board.specs.Sets.{digit}
use Rattle.rules.specs.declared.Piece.{Piece}
use Rattle.rules.specs.declared.Move.{Move}
use Rattle.rules.specs.Rules.{Board, pieces, piece_of, known_or_pawn, apart, legal, legal_with_pawn, stands, moved, can_move, taking, played_as, moves}
use Rattle.rules.specs.Chess.{played}
use Rattle.rules.proofs.laws.ChessLaws.{of-moves}
use Rattle.rules.specs.Taking.{SaysWhatItTakes}
use Rattle.rules.proofs.laws.Legal.{legal_of-facts, admitted-colour, legal-with-pawn}
use Rattle.rules.proofs.laws.Closed.{takes-no-king-of}
use Rattle.rules.proofs.laws.Taken.{one-taken, own-kept}

-- a listed move is marked exactly when a piece of the other side stands on its target, on any board
pub marked : (b : Board) (m : Move) → m ∈ moves b → m.takes ≡ stands b (1 - b.side) m.to
unfolding taking
marked b m h = (of-moves b m h).1.mark

-- one colour or the other
two : (c s : ℕ) → c < 2 → s < 2 → (c ≡ s) ⊎ (c ≡ 1 - s)
two zero zero h k = inl refl
two zero (suc zero) h k = inr refl
two (suc zero) zero h k = inr refl
two (suc zero) (suc zero) h k = inl refl
two (suc (suc n)) s h k = absurd (omega arith)
two zero (suc (suc n)) h k = absurd (omega arith)
two (suc zero) (suc (suc n)) h k = absurd (omega arith)

two-off : (a c : Piece) (l : List Piece) → T (apart (a ∷ c ∷ l)) → T (apart l)
unfolding apart
two-off a c l t =
    and_right (not (any (λ x. eqb c.square x.square) l)) (apart l)
    (and_right (not (any (λ x. eqb a.square x.square) (c ∷ l)))
    (not (any (λ x. eqb c.square x.square) l) && apart l) t)

module _ (b : Board) (from to : ℕ) (l : T (legal_with_pawn b)) (c : T (can_move b from to)) where
  -- a piece on the target is no king
  no-king : (n : Piece) → n ∈ pieces b → n.square ≡ to → n ∈ b.men
  no-king n (Memᴰ.head e) q =
      absurd ((takes-no-king-of known_or_pawn b from to l c).0 (ap (λ (p : Piece). p.square) (sym e) ∙ q))
  no-king n (Memᴰ.tail (Memᴰ.head e)) q =
      absurd ((takes-no-king-of known_or_pawn b from to l c).1 (ap (λ (p : Piece). p.square) (sym e) ∙ q))
  no-king n (Memᴰ.tail (Memᴰ.tail i)) q = i

  -- and a man on it is one of the other side
  other-side : (n : Piece) → n ∈ b.men → n.square ≡ to → n.colour ≡ 1 - b.side
  other-side n i q =
      let f = legal_of-facts known_or_pawn b l in
      go (two n.colour b.side (admitted-colour n (all-out known_or_pawn i f.men)) f.side)
    where
      go : (n.colour ≡ b.side) ⊎ (n.colour ≡ 1 - b.side) → n.colour ≡ 1 - b.side
      go (inl e) = absurd (own-kept b from to c n i e q)
      go (inr e) = e

  takes-man : taking b to ≡ any (λ n. eqb n.square to) b.men
  unfolding taking stands
  takes-man =
      same_test (any foe (pieces b)) (any (λ n. eqb n.square to) b.men)
      (λ t. let w = any_out foe (pieces b) t in
      let s = and_right (eqb w.0.colour (1 - b.side)) (eqb w.0.square to) w.2 in
      any-in (λ n. eqb n.square to) (no-king w.0 w.1 (eqb→eq w.0.square to s)) s)
      (λ t. let w = any_out (λ n. eqb n.square to) b.men t in
      let q = eqb→eq w.0.square to w.2 in
      any-in foe (Memᴰ.tail (Memᴰ.tail w.1))
      (rw (eq-eqb w.0.colour (1 - b.side) (other-side w.0 w.1 q), eq-eqb w.0.square to q) tt))
    where
      foe : Piece → Bool
      foe n = eqb n.colour (1 - b.side) && eqb n.square to

  men-left : length b.men ≡ digit (taking b to) + length (moved b from to).men
  unfolding moved
  men-left = one-taken to b.men men-apart ∙ rw (takes-man, length-map)
    where
      men-apart : T (apart b.men)
      men-apart = two-off (piece_of 5 0 b.white) (piece_of 5 1 b.black) b.men
          (legal_of-facts known_or_pawn b l).apart

-- a promotion leaves as many men
as-played : (b : Board) (from to k : ℕ) → length (played_as b from to k).men ≡ length (moved b from to).men
as-played b from to zero = refl
as-played b from to (suc k) = rw length-map

-- On a legal board, with a pawn or without, a listed move says what it takes.
pub says-with-pawn : (b : Board) (m : Move) → T (legal_with_pawn b) → m ∈ moves b → SaysWhatItTakes b m
says-with-pawn b m l h =
    let c = (of-moves b m h).1 in
    let k = takes-no-king-of known_or_pawn b m.from m.to l c.can in
    let same = as-played b m.from m.to m.becomes in
    let men : (x : Bool) → taking b m.to ≡ x → length b.men ≡ digit x + length (played b m).men =
    λ x e. men-left b m.from m.to l c.can ∙ ap₂ (λ (y : Bool) (n : ℕ). digit y + n) e (sym same) in
    record {
      mark = marked b m h;
      fewer = λ t. let k = men true (sym c.mark ∙ t) in omega arith;
      as_many = λ t. let k = men false (sym c.mark ∙ t) in omega arith;
      white-stays = k.0;
      black-stays = k.1;
    }

pub says-what-it-takes : (b : Board) (m : Move) → T (legal b) → m ∈ moves b → SaysWhatItTakes b m
says-what-it-takes b m l = says-with-pawn b m (legal-with-pawn b l)

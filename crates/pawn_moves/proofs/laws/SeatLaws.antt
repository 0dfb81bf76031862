-- A place of king and pawn, and its legality.
use Rattle.std.specs.Prelude.{◌≡◌, Bool, cond, ◌&&◌, ◌||◌, List, [], ◌∷◌, ℕ, ◌-◌, ◌<◌, eqb, ltb, length}
use Rattle.std.proofs.Math.Path.{refl, sym, ap, subst⁻¹}
use Rattle.std.proofs.Common.{subst, ◌∙◌, arith, ltb→lt, lt→ltb, eq-eqb, ne_eqb}
use Rattle.std.proofs.Math.Bool.{true, false, not}
use Rattle.std.proofs.Math.Dec.{T}
use Rattle.finite.specs.Truth.{and_left, and_right, and_both, of-true, false_of, refuted, same_test}
use Rattle.finite.specs.Members.{all}
use Rattle.board.specs.Reach.{reaches}
use Rattle.rules.specs.declared.Piece.{Piece}
use Rattle.rules.specs.Pawn.{inner}
use Rattle.rules.specs.Rules.{Board, pieces, apart, touching, in_check, known_or_pawn, legal_with_pawn, empty, all_moves, moves, mated}
use Rattle.rules.proofs.laws.Legal.{legal_of-facts, facts-legal_of}
use Rattle.pawn_numbers.specs.PawnNumber.{lone, pawn_board, used_pawn, separated, HasPawn}
use Rattle.pawn_numbers.proofs.laws.PlaceLaws.{separated-is}
use Rattle.pawn_numbers.proofs.laws.BackLaws.{board-has}
use Rattle.rules.specs.declared.Move.{Move}
use Rattle.position.specs.declared.Place.{Place}
use Rattle.position.specs.declared.Position.{Position}
use Rattle.position.specs.Keyed as keyed
use Rattle.pawn_moves.specs.PawnMoves.{pawn_at, PawnOn, SeatAt, seat_legal}

-- ---- positions as code makes them

pub posed-board : (q : Place) → keyed.board_of (keyed.lone 4 q.side q.white q.first q.black) ≡ pawn_at q
unfolding keyed.board_of
posed-board q = refl

-- with a pawn there is a game
pub all-moves : (q : Place) → moves (pawn_at q) ≡ all_moves (pawn_at q)
unfolding moves
all-moves q = refl

-- ---- squares

pub inner-lt : (s : ℕ) → T (inner s) → s < 64
inner-lt s t = let h = ltb→lt s 56 (and_right (ltb 7 s) (ltb s 56) t) in omega arith

module _ (q : Place) (o : PawnOn q) where
  pub pawn-lt : q.first < 64
  pawn-lt = inner-lt q.first o.inner

  sharing : (eqb q.white q.black || (eqb q.white q.first || eqb q.black q.first)) ≡ false
  sharing =
      go (eqb q.white q.black || (eqb q.white q.first || eqb q.black q.first))
      (not (reaches (λ (u : ℕ). false) 5 q.white q.black))
      (subst T (separated-is q.white q.black q.first q.side) o.separated)
    where
      go : (x y : Bool) → T (cond x false y) → x ≡ false
      go true y t = absurd t
      go false y t = refl

  pub white-off : q.white ≡ q.first → ⊥
  white-off e =
      two (eqb q.white q.black) (eqb q.white q.first) (eqb q.black q.first) sharing
      (eq-eqb q.white q.first e)
    where
      two : (a b c : Bool) → (a || (b || c)) ≡ false → b ≡ true → ⊥
      two true b c h k = refuted h tt
      two false true c h k = refuted h tt
      two false false c h k = refuted (sym k) tt

  pub black-off : q.black ≡ q.first → ⊥
  black-off e =
      two (eqb q.white q.black) (eqb q.white q.first) (eqb q.black q.first) sharing
      (eq-eqb q.black q.first e)
    where
      two : (a b c : Bool) → (a || (b || c)) ≡ false → c ≡ true → ⊥
      two true b c h k = refuted h tt
      two false true c h k = refuted h tt
      two false false true h k = refuted h tt
      two false false false h k = refuted (sym k) tt

  -- it is legal exactly where the side not to move is not in check
  pub on-legal : legal_with_pawn (pawn_at q) ≡ not (in_check (pawn_at q) (1 - q.side))
  unfolding all separated
  on-legal =
      same_test (legal_with_pawn (pawn_at q)) (not (in_check (pawn_at q) (1 - q.side)))
      (λ t. open-not (legal_of-facts known_or_pawn (pawn_at q) t).safe)
      (λ t. facts-legal_of known_or_pawn (pawn_at q) (record {
        side = o.side;
        men = and_both (inner q.first) true o.inner tt;
        squares = three (ltb q.white 64) (ltb q.black 64) (ltb q.first 64) (lt→ltb q.white 64 o.white)
            (lt→ltb q.black 64 o.black) (lt→ltb q.first 64 pawn-lt);
        apart = and_left (apart (pieces (pawn_at q))) (not (touching (pawn_at q))) o.separated;
        kings = false_of (and_right (apart (pieces (pawn_at q))) (not (touching (pawn_at q))) o.separated);
        safe = false_of t;
      }))
    where
      three : (a b c : Bool) → T a → T b → T c → T (a && (b && (c && true)))
      three true true true x y z = tt
      three false b c x y z = absurd x
      three true false c x y z = absurd y
      three true true false x y z = absurd z

      open-not : {x : Bool} → x ≡ false → T (not x)
      open-not e = rw e tt

-- ---- the place of a number

module _ (n : ℕ) (q : Place) (s : SeatAt n q) where
  seat-has : HasPawn (pawn_at q)
  seat-has = subst⁻¹ HasPawn s.board (board-has n)

  seat-square : seat-has.square ≡ q.first
  seat-square = sym (ap (λ (l : List Piece). (lone l).square) seat-has.men)

  seat-inner : T (inner q.first)
  seat-inner = subst (λ (k : ℕ). T (inner k)) seat-square seat-has.inner

  pub seat-used : used_pawn n ≡ separated (pawn_at q)
  unfolding used_pawn
  seat-used = ap separated (sym s.board)

  pub seat-on : T (separated (pawn_at q)) → PawnOn q
  seat-on t = record {
    side = seat-has.side;
    white = seat-has.white;
    black = seat-has.black;
    inner = seat-inner;
    separated = t;
  }

  -- the board at the number is used and legal exactly where its place is legal
  pub seat-legal : seat_legal q ≡ (used_pawn n && legal_with_pawn (pawn_board n))
  unfolding seat_legal
  seat-legal = go (separated (pawn_at q)) refl
    where
      go : (x : Bool) → separated (pawn_at q) ≡ x
          → (x && not (in_check (pawn_at q) (1 - q.side))) ≡ (used_pawn n && legal_with_pawn (pawn_board n))
      go true e = sym (rw (seat-used, e, ← s.board) (on-legal q (seat-on (of-true e))))
      go false e = sym (rw (seat-used, e))

-- ---- as code asks

pub end-check : (x : Bool) → x ≡ true → ◌≡◌ {A = ℕ} 2 (cond x 2 1)
end-check x e = sym (rw e)

pub end_quiet : (x : Bool) → x ≡ false → ◌≡◌ {A = ℕ} 1 (cond x 2 1)
end_quiet x e = sym (rw e)

none_left : (l : List Move) (n : ℕ) → n ≡ length l → eqb n 0 ≡ empty l
none_left [] n e = eq-eqb n 0 e
none_left (v ∷ l) n e = ne_eqb n 0 (λ z. omega arith)

pub stuck-by : (q : Place) (p : Position) (n : ℕ) → p ≡ keyed.lone 4 q.side q.white q.first q.black
    → n ≡ length (all_moves (keyed.board_of p)) → eqb n 0 ≡ empty (moves (pawn_at q))
unfolding moves
stuck-by q p n e d =
    none_left (all_moves (pawn_at q)) n
    (d ∙ ap (λ (b : Board). length (all_moves b)) (ap keyed.board_of e ∙ posed-board q))

pub quiet-mated : (q : Place) → in_check (pawn_at q) q.side ≡ false → false ≡ mated (pawn_at q)
unfolding mated
quiet-mated q e = sym (rw e)

pub stuck-mated : (q : Place) (x : Bool) → in_check (pawn_at q) q.side ≡ true → x ≡ empty (moves (pawn_at q))
    → x ≡ mated (pawn_at q)
unfolding mated
stuck-mated q x e d = d ∙ sym (rw e)

pub seat-shared : (q : Place) → separated (pawn_at q) ≡ false → false ≡ seat_legal q
unfolding seat_legal
seat-shared q e = sym (rw e)

pub seat-quiet : (q : Place) (side : ℕ) (x : Bool) → separated (pawn_at q) ≡ true → side ≡ 1 - q.side
    → x ≡ in_check (pawn_at q) side → not x ≡ seat_legal q
unfolding seat_legal
seat-quiet q side x e d f = ap not (f ∙ ap (in_check (pawn_at q)) d) ∙ sym (rw e)

pub legal-apart : (q : Place) → T (seat_legal q) → T (separated (pawn_at q))
unfolding seat_legal
legal-apart q t = and_left (separated (pawn_at q)) (not (in_check (pawn_at q) (1 - q.side))) t

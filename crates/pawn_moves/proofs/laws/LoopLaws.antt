-- One turn of the loop that weighs a byte against the moves of a list.
use Rattle.std.specs.Prelude.{◌≡◌, refl, true, false, List, [], ◌∷◌, ◌++◌, ℕ, zero, suc, ◌+◌, ◌-◌, ◌≤◌, ◌<◌, length, drop, get_or, replicate, take}
use Rattle.std.specs.Prelude.{Option as Found, Some, None}
use Rattle.std.specs.Option.{option_or}
use Rattle.std.specs.Bool.{then_some}
use Rattle.std.proofs.Common.{sym, ◌∙◌, le_of_suc-le-suc, arith, take_at}
use Rattle.std.proofs.lemmas.List.{drop_more}
use Rattle.std.proofs.Math.Path.{ap, subst}
use mathlib.Core.List.Memᴰ
use Rattle.finite.specs.Members.{◌∈◌}
use Rattle.theory.specs.Play.{suits}
use Rattle.theory.specs.Judge.{refutes}
use Rattle.rules.specs.declared.Move.{Move}
use Rattle.rules.specs.Rules.{zero_move, all_moves}
use Rattle.rules.specs.Chess.{played}
use Rattle.position.specs.declared.Place.{Place}
use Rattle.position.specs.declared.Position.{Position}
use Rattle.position.specs.Keyed as keyed
use Rattle.move_list.specs.declared.MoveList.{MoveList}
use Rattle.move_list.specs.Lists.{room, list_of}
use Rattle.move_list.proofs.laws.Served.{few-moves}
use Rattle.pawn_moves.specs.declared.Weighed.{Weighed}
use Rattle.pawn_moves.specs.PawnMoves.{pawn_at, PawnOn, pawn_bytes, met_by, weighed_on, weighed}
use Rattle.pawn_moves.proofs.laws.SeatLaws.{posed-board}
use Rattle.pawn_moves.proofs.laws.WeighLaws.{found, weigh-end, weigh-stop, weigh-next}

-- the moves from the i-th on, weighed with what has been found, give what all give
pub record Weighing (q : Place) (byte : ℕ) (table run : List ℕ) (moves : List Move) (best : Found Move) (i : ℕ) : Type 0 where
  pub all : moves ≡ all_moves (pawn_at q)
  pub left : PawnOn q
      → weighed_on (λ v. pawn_bytes run table (played (pawn_at q) v)) byte (drop i (all_moves (pawn_at q))) (found best)
      ≡ weighed (pawn_bytes run table) byte (pawn_at q)

-- a list has room for them
pub moves-fit : (p : Position) (list : MoveList) → list ≡ list_of (all_moves (keyed.board_of p)) → list.count ≤ room
unfolding list_of
moves-fit p list d = subst (λ (n : ℕ). n ≤ room) (sym (ap (λ (l : MoveList). l.count) d)) (few-moves p)

member : (l : List Move) (i : ℕ) → i < length l → get_or l i zero_move ∈ l
member [] i h = absurd (omega arith)
member (x ∷ l) zero h = Memᴰ.head refl
member (x ∷ l) (suc i) h = Memᴰ.tail (member l i (le_of_suc-le-suc h))

drop-end : (l : List Move) (i : ℕ) → length l ≤ i → drop i l ≡ []
drop-end [] zero h = refl
drop-end [] (suc i) h = refl
drop-end (x ∷ l) zero h = absurd (omega arith)
drop-end (x ∷ l) (suc i) h = drop-end l i (le_of_suc-le-suc h)

module _ (q : Place) (byte : ℕ) (table run : List ℕ) where
  pub weighing-start : (p : Position) (list : MoveList)
      → p ≡ keyed.lone 4 q.side q.white q.first q.black → list ≡ list_of (all_moves (keyed.board_of p))
      → Weighing q byte table run (take list.count list.moves) None 0
  unfolding list_of
  weighing-start p list e d =
      let b = ap keyed.board_of e ∙ posed-board q in
      let f = d ∙ ap (λ b. list_of (all_moves b)) b in
      record {
        all = ap (λ (l : MoveList). take l.count l.moves) f ∙ take_at (all_moves (pawn_at q)) _ _ refl;
        left = λ o. refl;
      }

  -- the list that the loop goes over: all the moves, then zero moves; how many they are; and they fit
  pub weighing-list : (p : Position) (list : MoveList)
      → p ≡ keyed.lone 4 q.side q.white q.first q.black → list ≡ list_of (all_moves (keyed.board_of p))
      → (list.moves ≡ all_moves (pawn_at q) ++ replicate (room - length (all_moves (pawn_at q))) zero_move)
      × (list.count ≡ length (all_moves (pawn_at q)))
      × (list.count ≤ room)
  unfolding list_of
  weighing-list p list e d =
      let b = ap keyed.board_of e ∙ posed-board q in
      let f = d ∙ ap (λ b. list_of (all_moves b)) b in
      (ap (λ (l : MoveList). l.moves) f, ap (λ (l : MoveList). l.count) f, moves-fit p list d)

  module _ (moves : List Move) (best : Found Move) (i : ℕ) (w : Weighing q byte table run moves best i) where
    module _ (h : i < length moves) where
      pub listed : get_or moves i zero_move ∈ all_moves (pawn_at q)
      listed = subst (λ (l : List Move). get_or moves i zero_move ∈ l) w.all (member moves i h)

      cut : drop i (all_moves (pawn_at q)) ≡ get_or moves i zero_move ∷ drop (i + 1) (all_moves (pawn_at q))
      cut =
          subst (λ (l : List Move). drop i l ≡ get_or moves i zero_move ∷ drop (i + 1) l) w.all
          (drop_more moves i zero_move h)

      module _ (c : ℕ) (e : PawnOn q → c ≡ pawn_bytes run table (played (pawn_at q) (get_or moves i zero_move))) where
        pub weighing-refuted : refutes byte c ≡ true → PawnOn q
            → Weighed.Refuted ≡ weighed (pawn_bytes run table) byte (pawn_at q)
        weighing-refuted r o =
            sym (weigh-stop (λ v. pawn_bytes run table (played (pawn_at q) v)) byte (get_or moves i zero_move)
            (drop (i + 1) (all_moves (pawn_at q))) (found best) (ap (refutes byte) (sym (e o)) ∙ r))
            ∙ ap (λ (l : List Move). weighed_on (λ v. pawn_bytes run table (played (pawn_at q) v)) byte l (found best))
            (sym cut)
            ∙ w.left o

        pub weighing-next : (best' : Found Move) → refutes byte c ≡ false
            → best' ≡ option_or best (then_some (suits byte c) (get_or moves i zero_move))
            → Weighing q byte table run moves best' (i + 1)
        weighing-next best' r b = record {
          all = w.all;
          left = λ o.
              ap (λ (x : Found Move). weighed_on (λ v. pawn_bytes run table (played (pawn_at q) v)) byte
              (drop (i + 1) (all_moves (pawn_at q))) (found x))
              (b ∙ ap (λ (k : ℕ). option_or best (then_some (suits byte k) (get_or moves i zero_move))) (e o))
              ∙ sym (weigh-next (λ v. pawn_bytes run table (played (pawn_at q) v)) byte (get_or moves i zero_move)
              (drop (i + 1) (all_moves (pawn_at q))) best (ap (refutes byte) (sym (e o)) ∙ r))
              ∙ ap (λ (l : List Move). weighed_on (λ v. pawn_bytes run table (played (pawn_at q) v)) byte l (found best))
              (sym cut)
              ∙ w.left o;
        }

    module _ (h : length moves ≤ i) (o : PawnOn q) where
      pub weighing-end : met_by (found best) ≡ weighed (pawn_bytes run table) byte (pawn_at q)
      weighing-end =
          sym (weigh-end (λ v. pawn_bytes run table (played (pawn_at q) v)) byte (found best))
          ∙ ap (λ (l : List Move). weighed_on (λ v. pawn_bytes run table (played (pawn_at q) v)) byte l (found best))
          (sym (drop-end (all_moves (pawn_at q)) i (subst (λ (l : List Move). length l ≤ i) w.all h)))
          ∙ w.left o

      pub weighing-met : (v : Move) → best ≡ Some v → Weighed.Met v ≡ weighed (pawn_bytes run table) byte (pawn_at q)
      weighing-met v e = sym (ap (λ (x : Found Move). met_by (found x)) e) ∙ weighing-end

      pub weighing-unmet : best ≡ None → Weighed.Unmet ≡ weighed (pawn_bytes run table) byte (pawn_at q)
      weighing-unmet e = sym (ap (λ (x : Found Move). met_by (found x)) e) ∙ weighing-end

-- DEMAND 3, in one theorem: every list of legal moves from any legal position of an ending, in which one side, either one, plays the moves
-- that look-up gives with a table that checking accepted.
use Rattle.answers.specs.Advice.{BestMove}
use Rattle.std.specs.Prelude.{◌≡◌, refl, Bool, true, false, ◌⊎◌, ℕ, ◌-◌, ◌%◌, T, leb, eqb, take, Ok, Result}
use Rattle.std.proofs.Common.{sym, ap, subst, ◌∙◌, inl, inr, eqb-true}
use Rattle.std.proofs.Math.Bool.{cond}
use mathlib.Core.List.{List, [], ◌∷◌, ◌++◌}
use Rattle.std.proofs.Math.Option.{Option, none}
use Rattle.finite.specs.Truth.{true_of, refuted}
use Rattle.finite.specs.Members.{map-in}
use Rattle.theory.specs.Play.{LegalGame, Follows, after, at_ply, Chooses, Promised}
use Rattle.theory.proofs.laws.Choice.{legal-take}
use Rattle.theory.proofs.laws.Games.{promised}
use Rattle.symmetry.specs.Symmetry.{Symmetry}
use Rattle.rules.specs.declared.Piece.{Piece}
use Rattle.rules.specs.declared.Move.{Move}
use Rattle.rules.specs.Rules.{Board, piece_of, empty, legal}
use Rattle.rules.specs.Chess.{chess, played}
use Rattle.position.specs.declared.Position.{Position}
use Rattle.position.specs.Keyed.{slot_men, board_of, one_man, man_kind}
use Rattle.position.specs.Refusals.{standing_refusal}
use Rattle.position.proofs.laws.Legality.{one-standing}
use Rattle.answers.specs.declared.Answer.{Answer}
use Rattle.answers.specs.declared.Checked.{Checked}
use Rattle.endings.specs.Ending.{Lone, Ending, byte_of}
use Rattle.endings.proofs.laws.EndingDrawn.{ending-closed, bare-over, bare-drawn}
use Rattle.endings.specs.Truth.{TrueAnswerBy, TrueAnswer}
use Rattle.endings.specs.Answers.{check_of, answer_of, chosen, look_up_of}
use Rattle.endings.proofs.laws.Turning.{ending-carries, chosen-chooses}
use Rattle.endings.proofs.laws.LookingUp.{accepted-bytes, look-up-answers, look-up-true, over_none}
use Rattle.position.specs.Keyed.{slot_of, others, keyed}
use Rattle.endings.specs.GamePromise.{given, move_of_answer, desk_move, Told, GamePromise}

-- keying a board gives it back
keyed-board : (kind : ℕ) (b : Board) → Lone kind b → board_of (keyed b) ≡ b
unfolding board_of
keyed-board kind b l = go b.men l.1.1
  where
    go : (ms : List Piece) → ms ≡ piece_of kind l.0 l.1.0 ∷ []
        → ◌≡◌ {A = Board}
        (record {
          side = b.side;
          white = b.white;
          black = b.black;
          men = slot_men (slot_of ms) ++ slot_men (slot_of (others ms));
        })
        (record { side = b.side; white = b.white; black = b.black; men = ms })
    go ms e = rw e

keyed-one : (kind : ℕ) (b : Board) (l : Lone kind b)
    → keyed b ≡ one_man kind l.0 b.side b.white l.1.0 b.black
keyed-one kind b l = go b.men l.1.1
  where
    go : (ms : List Piece) → ms ≡ piece_of kind l.0 l.1.0 ∷ []
        → ◌≡◌ {A = Position}
        (record {
          side = b.side;
          white_king = b.white;
          black_king = b.black;
          first = slot_of ms;
          second = slot_of (others ms);
        }) (one_man kind l.0 b.side b.white l.1.0 b.black)
    go ms e = rw e

-- the move of an answer is the one advised
pub answer-move : (n : ℕ) (a : BestMove) → move_of_answer (answer_of n a) ≡ given a
unfolding answer_of
answer-move n a = go (leb n 1) (eqb (n % 2) 1)
  where
    go : (x y : Bool) → move_of_answer (cond x (Ok (Answer.Draw a))
        (cond y (Ok (Answer.Win (n - 2) a)) (Ok (Answer.Loss (n - 2) a)))) ≡ given a
    go true y = refl
    go false true = refl
    go false false = refl

-- from what is promised of a value to what is promised of its name
pub told-by : {by : Board → Symmetry} {normal : Board → Board} (bytes : Board → ℕ) (pick : Board → Option Move) (side : Bool) (b : Board) (ms : List Move) (a : Result Answer ℕ)
    → TrueAnswerBy by normal b a → Promised chess bytes pick side b ms → Told a side b ms
told-by bytes pick side b ms a (TrueAnswerBy.won n m w f e) p =
    subst (λ (c : Result Answer ℕ). Told c side b ms) (sym e) (p.won n w, p.won-other n w)
told-by bytes pick side b ms a (TrueAnswerBy.lost n m w f e) p =
    subst (λ (c : Result Answer ℕ). Told c side b ms) (sym e) (p.lost-other n w, p.lost n w)
told-by bytes pick side b ms a (TrueAnswerBy.mate w o e) p =
    subst (λ (c : Result Answer ℕ). Told c side b ms) (sym e) (p.lost-other 0 w, p.lost 0 w)
told-by bytes pick side b ms a (TrueAnswerBy.drawn m w f e) p =
    subst (λ (c : Result Answer ℕ). Told c side b ms) (sym e) (p.drawn w)
told-by bytes pick side b ms a (TrueAnswerBy.stalemate w o e) p =
    subst (λ (c : Result Answer ℕ). Told c side b ms) (sym e) (p.drawn w)

module _ (kind : ℕ) (t : List ℕ) (ok : check_of kind t ≡ Ok Checked.Accepted) where
  keyed-standing : (b : Board) → Ending kind b → Lone kind b → standing_refusal (keyed b) ≡ 0
  keyed-standing b d l =
      let p = one_man kind l.0 b.side b.white l.1.0 b.black in
      ap standing_refusal (keyed-one kind b l)
      ∙ eqb-true (standing_refusal p) 0
      (sym (one-standing kind l.0 b.side b.white l.1.0 b.black)
      ∙ ap (λ (q : Position). legal (board_of q)) (sym (keyed-one kind b l)) ∙ ap legal (keyed-board kind b l)
      ∙ true_of d.legality)

  keyed-kind : (b : Board) → Lone kind b → man_kind (keyed b) ≡ kind
  keyed-kind b l = ap man_kind (keyed-one kind b l)

  -- the desk's move is the chosen one
  pub desk-chosen : (b : Board) → Ending kind b → desk_move t b ≡ given (chosen (byte_of t) b)
  unfolding desk_move
  desk-chosen b d = go d.men
    where
      Desk : List Piece → Type 0
      Desk ms = cond (empty ms) none (move_of_answer (look_up_of t (keyed b))) ≡ given (chosen (byte_of t) b)

      go : (b.men ≡ []) ⊎ Lone kind b → Desk b.men
      go (inl e) = subst Desk (sym e)
          (sym (ap given (over_none (byte_of t) b (ending-carries kind t b d) (bare-over b d.legality e))))
      go (inr l) =
          subst Desk (sym l.1.1)
          (ap move_of_answer (look-up-answers kind t ok (keyed b) (keyed-kind b l) (keyed-standing b d l))
          ∙ answer-move (byte_of t (board_of (keyed b))) (chosen (byte_of t) (board_of (keyed b)))
          ∙ ap (λ (c : Board). given (chosen (byte_of t) c)) (keyed-board kind b l))

  pub desk-chooses : Chooses chess (Ending kind) (byte_of t) (desk_move t)
  desk-chooses =
      let rule = chosen-chooses (Ending kind) (byte_of t) (ending-carries kind t) in
      record {
        sound = λ b d m e. rule.sound b d m (sym (desk-chosen b d) ∙ e);
        total = λ b d m i s. let r = rule.total b d m i s in (r.0, desk-chosen b d ∙ r.1);
      }

  stays : (b : Board) (ms : List Move) → Ending kind b → LegalGame chess b ms → Ending kind (after chess b ms)
  stays b [] d l = d
  stays b (m ∷ ms) d l = stays (played b m) ms (ending-closed kind b (played b m) d (map-in (played b) l.0)) l.1

  pub board-answer : (b : Board) → Ending kind b → empty b.men ≡ false → TrueAnswer b (look_up_of t (keyed b))
  board-answer b d e = go d.men
    where
      go : (b.men ≡ []) ⊎ Lone kind b → TrueAnswer b (look_up_of t (keyed b))
      go (inl h) = absurd (refuted e (subst (λ (ms : List Piece). T (empty ms)) (sym h) tt))
      go (inr l) =
          subst (λ (c : Board). TrueAnswer c (look_up_of t (keyed b))) (keyed-board kind b l)
          (look-up-true kind t ok (keyed b) (keyed-kind b l) (keyed-standing b d l))

  -- The table is accepted for the ending; b is a legal board of it; ms is a game from b; the side plays the desk's moves in it.
  pub games : (b : Board) → T (legal b) → Lone kind b → (side : Bool) (ms : List Move) → LegalGame chess b ms
      → Follows chess (desk_move t) side b ms → GamePromise t side b ms
  games b l m side ms game follows = record {
    called = first-answer;
    told = told-by (byte_of t) (desk_move t) side b ms (look_up_of t (keyed b)) first-answer kept;
    answers = λ i h n. board-answer (at_ply chess b ms i) (here i) n;
    bare = λ i h
        n. (bare-over (at_ply chess b ms i) (here i).legality n, bare-drawn (at_ply chess b ms i) (here i).legality n);
    promised = kept;
  }
    where
      first : Ending kind b
      first = record { legality = l; men = inr m }

      first-answer : TrueAnswer b (look_up_of t (keyed b))
      first-answer = board-answer b first (ap empty m.1.1)

      kept : Promised chess (byte_of t) (desk_move t) side b ms
      kept = promised chess (Ending kind) (ending-closed kind) (byte_of t) (accepted-bytes kind t ok) (desk_move t)
          desk-chooses side b ms first game follows

      here : (i : ℕ) → Ending kind (at_ply chess b ms i)
      here i = stays b (take i ms) first (legal-take chess i b ms game)

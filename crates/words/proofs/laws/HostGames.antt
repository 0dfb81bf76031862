-- The theorem about games at the C boundary, for every ending: `sledgewren_check` answered 0 for these bytes, and a
-- side plays the moves that it reads from the answers of `sledgewren_look_up` for them, at any counts from 0 to 99,
-- through captures and promotions until bare kings.
use Rattle.std.specs.Prelude.{◌≡◌, Bool, true, false, ◌↔◌, List, [], ◌∷◌, ℕ, ◌≤◌, T, eqb, Ok, Result}
use Rattle.std.proofs.Common.{sym, subst, ◌∙◌}
use Rattle.std.proofs.Math.Path.{ap, fun_ext}
use Rattle.std.proofs.Math.Bool.{cond}
use Rattle.std.proofs.Math.Option.{Option, none}
use Rattle.theory.specs.Play.{LegalGame, at_ply, Promised}
use Rattle.table_theory.specs.Tables.{reads}
use Rattle.rules.specs.declared.Piece.{Piece}
use Rattle.rules.specs.declared.Move.{Move}
use Rattle.rules.specs.Pawn.{pawn}
use Rattle.rules.specs.Rules.{Board, empty}
use Rattle.rules.specs.Chess.{chess}
use Rattle.numbering.specs.declared.Material.{Material}
use Rattle.numbering.specs.Material.{OfMaterial, legal_in}
use Rattle.position.specs.Keyed.{keyed}
use Rattle.answers.specs.declared.Answer.{Answer}
use Rattle.answers.specs.declared.Checked.{Checked}
use Rattle.four_men.specs.Lending.{Lent, part_of}
use Rattle.four_men.specs.Reading.{numbered}
use Rattle.four_men.specs.Answers.{check_with}
use Rattle.four_men.specs.Truth.{TrueAnswerIn}
use Rattle.four_men.specs.GamePromise.{table_then, desk_move_with}
use Rattle.four_men.proofs.laws.Parts.{part-byte}
use Rattle.fifty.specs.Marks.{Marked}
use Rattle.fifty.specs.FiftyPromise.{answer_at_with, counted_move_with, PlaysCountedWith, ClearBy, Within}
use Rattle.fifty.proofs.laws.FiftyGames.{counted-desk-with, fifty-games-with}
use Rattle.words.specs.Words.{checked_word}
use Rattle.words.specs.Reading.{answer_read, mark_read, TableBytes, SmallBytes}
use Rattle.words.proofs.laws.ReadingLaws.{checks-apart, advice-read}
use Rattle.words.proofs.laws.AnswersFit.{checked-fits, counted-fits, look-up-told}
use Rattle.words.specs.HostGame.{look_up_word, host_move, PlaysRead, HostPromise}

-- an answer of 0 says that the table is accepted, and nothing else says so
pub zero-accepted : (m : Material) (l : Lent) (t : List ℕ) → checked_word (check_with m l t) ≡ 0
    → check_with m l t ≡ Ok Checked.Accepted
zero-accepted m l t e = checks-apart (check_with m l t) (Ok Checked.Accepted) (checked-fits m l t) tt e

module _ (m : Material) (l : Lent) (t : List ℕ) (small : SmallBytes l) (bytes : TableBytes t) where
  -- the table then on the board is bytes
  then-bytes : (men : List Piece) → TableBytes (table_then m l t men)
  then-bytes men = go m men
    where
      by : (e : Bool) → TableBytes (cond e l.first l.second)
      by true = small.0
      by false = small.1

      go : (m : Material) (men : List Piece) → TableBytes (table_then m l t men)
      go (Material.One kind) men = bytes
      go (Material.Two j k r) [] = bytes
      go (Material.Two j k r) (a ∷ []) = by (eqb a.kind j)
      go (Material.Two j k r) (a ∷ c ∷ men) = bytes
      go Material.Pawn [] = bytes
      go Material.Pawn (a ∷ men) = own (pawn a)
        where
          own : (x : Bool) → TableBytes (cond x t (part_of a.kind l.first))
          own true = bytes
          own false = part-byte a.kind l.first small.0

  -- the answer, the mark and the move read are those of the answer
  answer-told : (b : Board) (c : ℕ) → answer_read (look_up_word m l t b c) ≡ (answer_at_with m l t b c).answer
  unfolding look_up_word
  answer-told b c =
      ap (λ (a : Marked). a.answer)
      (look-up-told l (table_then m l t b.men) c (keyed b) small (then-bytes b.men))

  mark-told : (b : Board) (c : ℕ) → mark_read (look_up_word m l t b c) ≡ (answer_at_with m l t b c).within_fifty
  unfolding look_up_word
  mark-told b c =
      ap (λ (a : Marked). a.within_fifty)
      (look-up-told l (table_then m l t b.men) c (keyed b) small (then-bytes b.men))

  move-told : (b : Board) (c : ℕ) → host_move m l t c b ≡ counted_move_with m l t c b
  unfolding host_move counted_move_with look_up_word
  move-told b c =
      ap (λ (o : Option Move). cond (empty b.men) none o)
      (advice-read (answer_at_with m l t b c).within_fifty (answer_at_with m l t b c).answer
      (counted-fits l (table_then m l t b.men) c (keyed b) small (then-bytes b.men)))

  host-desk : (c : ℕ) → c ≤ 99 → host_move m l t c ≡ desk_move_with m l t
  host-desk c h = fun_ext (λ b. move-told b c ∙ counted-desk-with m l t b c h)

  plays-counted : (side : Bool) (b : Board) (ms : List Move) → PlaysRead m l t side b ms
      → PlaysCountedWith m l t side b ms
  plays-counted side b [] f = tt
  plays-counted side b (v ∷ ms) f = (
    λ e. let g = f.0 e in (g.0, g.1, sym (move-told b g.0) ∙ g.2),
    plays-counted side (chess.play b v) ms f.1,
  )

-- The bytes are a table and lent ones for which `sledgewren_check` answered 0; b is a legal board of the ending; ms
-- is a game from b; the side plays in it the moves that it reads from the answers of `sledgewren_look_up`, at any
-- counts.
pub host-games : (m : Material) (l : Lent) (t : List ℕ) → SmallBytes l → TableBytes t → checked_word (check_with m l t) ≡ 0
    → (b : Board) → T (legal_in m b) → OfMaterial m b → (side : Bool) (ms : List Move) → LegalGame chess b ms
    → PlaysRead m l t side b ms → HostPromise m l t side b ms
host-games m l t small bytes e b g o side ms game plays =
    let f = fifty-games-with m l t (zero-accepted m l t e) b g o side ms game
    (plays-counted m l t small bytes side b ms plays) in
    let told = answer-told m l t small bytes in
    let counts = f.counts in
    record {
      game = f;
      called = λ c k. subst (TrueAnswerIn b) (sym (told b c)) (counts.called c k);
      answers = λ i h n c k. let q = at_ply chess b ms i in subst (TrueAnswerIn q) (sym (told q c)) (counts.answers i h n c k);
      marked = λ i h n c k. let q = at_ply chess b ms i in
          subst (λ (x : Bool). T x ↔ Within q c) (sym (mark-told m l t small bytes q c)) (counts.marked i h n c k);
      clear = λ c k x. subst (λ (a : Result Answer ℕ). ClearBy a side b ms c) (sym (told b c))
          (counts.clear c k (subst T (mark-told m l t small bytes b c) x));
      promised = λ c k. subst (λ (pick : Board → Option Move). Promised chess (reads chess (numbered m l) t) pick side b ms)
          (sym (host-desk m l t small bytes c k)) f.game.promised;
    }

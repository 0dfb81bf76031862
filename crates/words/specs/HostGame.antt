-- A host's moves in a game, read from the words of `sledgewren_look_up` by the bit ranges of include/sledgewren.h,
-- and what is promised of the game; of every ending, through captures and promotions until bare kings. Definitions
-- only.
use Rattle.std.specs.Prelude.{◌≡◌, Bool, false, cond, ◌↔◌, List, ℕ, ◌≤◌, T, length}
use Rattle.std.proofs.Math.Option.{Option, none}
use Rattle.theory.specs.Play.{at_ply, Promised}
use Rattle.table_theory.specs.Tables.{reads}
use Rattle.rules.specs.declared.Move.{Move}
use Rattle.rules.specs.Rules.{Board, empty}
use Rattle.rules.specs.Chess.{chess}
use Rattle.numbering.specs.declared.Material.{Material}
use Rattle.endings.specs.GamePromise.{given}
use Rattle.four_men.specs.Lending.{Lent}
use Rattle.four_men.specs.Reading.{numbered}
use Rattle.four_men.specs.Truth.{TrueAnswerIn}
use Rattle.fifty.specs.FiftyPromise.{answer_at_with, PlaysBy, ClearBy, Within, FiftyPromiseWith}
use Rattle.words.specs.Words.{marked_word}
use Rattle.words.specs.Reading.{advice_read, answer_read, mark_read}

-- what `sledgewren_look_up` answers when it is given the board's side, kings and men, and the count, and is lent the
-- table of the ending then on the board: t, or, for a piece left alone or made of a pawn, the small table of its kind
unfoldable pub look_up_word : Material → Lent → List ℕ → Board → ℕ → ℕ
look_up_word m l t b c = marked_word (answer_at_with m l t b c)

-- the move read from that word, if bit 24 says that there is one; bare kings are not looked up
unfoldable pub host_move : Material → Lent → List ℕ → ℕ → Board → Option Move
host_move m l t c b = cond (empty b.men) none (given (advice_read (look_up_word m l t b c)))

-- The side plays the moves that it reads, whatever count from 0 to 99 each look-up is given.
abbrev pub PlaysRead : Material → Lent → List ℕ → Bool → Board → List Move → Type 0
PlaysRead m l t side b ms = PlaysBy (host_move m l t) side b ms

-- What is promised of the game ms from the board b, in which `side` plays the host's moves by the ending's table t
-- and the lent ones, at any counts.
pub record HostPromise (m : Material) (l : Lent) (t : List ℕ) (side : Bool) (b : Board) (ms : List Move) : Type 0 where
  -- all that the theorem about games at any counts promises
  pub game : FiftyPromiseWith m l t side b ms
  -- what the first position is called, read from its word, is its true value and depth
  pub called : (c : ℕ) → c ≤ 99 → TrueAnswerIn b (answer_read (look_up_word m l t b c))
  -- so it is for every position of the game, bare kings apart
  pub answers : (i : ℕ) → i ≤ length ms → empty (at_ply chess b ms i).men ≡ false → (c : ℕ) → c ≤ 99
      → TrueAnswerIn (at_ply chess b ms i) (answer_read (look_up_word m l t (at_ply chess b ms i) c))
  -- bit 25 is set exactly where there is no pawn, it is decided, and the count plus the depth is at most 100
  pub marked : (i : ℕ) → i ≤ length ms → empty (at_ply chess b ms i).men ≡ false → (c : ℕ) → c ≤ 99
      → T (mark_read (look_up_word m l t (at_ply chess b ms i) c)) ↔ Within (at_ply chess b ms i) c
  -- set at the first position, it says that the game is won clear of the fifty-move rule
  pub clear : (c : ℕ) → c ≤ 99 → T (mark_read (look_up_word m l t b c))
      → ClearBy (answer_read (look_up_word m l t b c)) side b ms c
  -- won, lost, drawn, and both sides following, in terms of the moves read at any one count
  pub promised : (c : ℕ) → c ≤ 99 → Promised chess (reads chess (numbered m l) t) (host_move m l t c) side b ms

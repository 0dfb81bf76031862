-- The theorems of Claims with one man besides the kings, where nothing is lent, in 01's own words. The man's kind names
-- the ending.
use Rattle.std.specs.Prelude.{◌≡◌, Bool, ◌↔◌, List, ℕ, ◌<◌, T, length, Ok}
use Rattle.theory.specs.Play.{LegalGame, Follows}
use Rattle.rules.specs.declared.Move.{Move}
use Rattle.rules.specs.Rules.{Board, legal}
use Rattle.rules.specs.Chess.{chess}
use Rattle.position.specs.declared.Position.{Position}
use Rattle.position.specs.Keyed.{board_of, man_kind}
use Rattle.position.specs.Refusals.{placing_refusal, standing_refusal}
use Rattle.index.specs.Answers.{number_answer, placed_at}
use Rattle.index.specs.NumberLaws.{SameClass}
use Rattle.index.proofs.laws.NumberLaws as numbers
use Rattle.index.specs.BackLaws.{Bears}
use Rattle.index.proofs.laws.BackLaws as backs
use Rattle.answers.specs.declared.Checked.{Checked}
use Rattle.endings.specs.Ending.{Lone, table_size}
use Rattle.endings.specs.Truth.{TrueTable, TrueAnswer}
use Rattle.endings.specs.Answers.{check_of, fill_of, look_up_of}
use Rattle.endings.proofs.laws.Checking as checking
use Rattle.endings.specs.FilledTrue.{FillTrue}
use Rattle.endings.proofs.laws.FilledTrue as filling
use Rattle.endings.proofs.laws.LookingUp as looking_up
use Rattle.endings.specs.GamePromise.{desk_move, GamePromise}
use Rattle.four_men.proofs.laws.AloneGames as playing
use Rattle.fifty.specs.FiftyPromise.{PlaysCounted, FiftyPromise}
use Rattle.fifty.proofs.laws.FiftyGames as fifty

-- 1. The same number exactly when one of the board's eight maps, with the colours exchanged or not, makes one position
-- into the other.
pub same_number : (p q : Position) → placing_refusal p ≡ 0 → placing_refusal q ≡ 0 → man_kind p ≡ man_kind q
    → (number_answer p ≡ number_answer q) ↔ SameClass p q
same_number = numbers.same_number

-- 2. Each used number leads back to a position that bears it.
pub number-back : (kind n : ℕ) (p : Position) → placed_at kind n ≡ Ok p → Bears kind n p
number-back = backs.number-back

-- 3. Checking accepts a table exactly when it is as long as a table and the true one.
pub accepted-true : (kind : ℕ) (t : List ℕ)
    → (check_of kind t ≡ Ok Checked.Accepted) ↔ ((kind < 4) × (length t ≡ table_size) × TrueTable kind t)
accepted-true = checking.accepts-true-only

-- 4. Filling leaves the true table and gives the greatest depth, or none decided; or it gives 10, a depth exceeds 253
-- and the table is all zero.
pub filled-true : (kind : ℕ) (t : List ℕ) → kind < 4 → length t ≡ table_size → FillTrue kind (fill_of kind t)
filled-true = filling.filled-true

-- 5. With an accepted table look-up gives each legal position of the ending its true answer.
pub looked-up-true : (kind : ℕ) (t : List ℕ) → check_of kind t ≡ Ok Checked.Accepted
    → (p : Position) → man_kind p ≡ kind → standing_refusal p ≡ 0 → TrueAnswer (board_of p) (look_up_of t p)
looked-up-true = looking_up.look-up-true

-- 7. The theorem about games, as the instance of the one for both sizes in which nothing is lent.
pub games : (kind : ℕ) (t : List ℕ) → check_of kind t ≡ Ok Checked.Accepted → (b : Board) → T (legal b) → Lone kind b
    → (side : Bool) (ms : List Move) → LegalGame chess b ms → Follows chess (desk_move t) side b ms
    → GamePromise t side b ms
games = playing.games-alone

-- 8. The same at any counts from 0 to 99, with the fifty-move rule in it.
pub fifty-games : (kind : ℕ) (t : List ℕ) → check_of kind t ≡ Ok Checked.Accepted → (b : Board) → T (legal b) → Lone kind b
    → (side : Bool) (ms : List Move) → LegalGame chess b ms → PlaysCounted t side b ms → FiftyPromise t side b ms
fifty-games = fifty.fifty-games

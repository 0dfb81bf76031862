-- The theorems that answer the demands, for one man besides the kings, for two, and for a pawn, each closed: every
-- premise stands in its own statement. What each says is written above it; the proofs are elsewhere and are cited. `m`
-- is an ending, `t` its table, and `l` what is lent with it: the table of each of two men alone, or the four into which
-- a pawn promotes. One man borrows none, whatever `l` is. For pieces `legal_in m` is `legal`, and `TrueAnswerIn` is
-- `TrueAnswer`.
use Rattle.std.specs.Prelude.{◌≡◌, Bool, false, ◌↔◌, List, ℕ, ◌<◌, T, Ok, Err, Result}
use Rattle.std.proofs.Common.{sym, ap, ◌∙◌}
use Rattle.theory.specs.Play.{LegalGame, Follows}
use Rattle.table_theory.specs.Tables.{Result as FillEnd}
use Rattle.table_theory.specs.Steps.{settled, ends, Stepped}
use Rattle.rules.specs.declared.Move.{Move}
use Rattle.rules.specs.Rules.{Board}
use Rattle.rules.specs.Chess.{chess}
use Rattle.numbering.specs.declared.Material.{Material}
use Rattle.numbering.specs.Material.{given, material_in, legal_in, OfMaterial}
use Rattle.numbering.specs.Change.{Change}
use Rattle.position.specs.declared.Position.{Position}
use Rattle.position.specs.Keyed.{board_of}
use Rattle.position.specs.Maps.{changed_position}
use Rattle.pawn_numbers.specs.PawnNumber.{Flip}
use Rattle.position.specs.Refusals.{placing_with, standing_with}
use Rattle.index.specs.Answers.{number_with, placed_with}
use Rattle.answers.specs.declared.Answer.{Answer}
use Rattle.answers.specs.declared.Checked.{Checked}
use Rattle.endings.specs.Answers.{result_of, mapped_answer}
use Rattle.endings.proofs.laws.OneAnswer as answers
use Rattle.four_men.specs.Lending.{Lent}
use Rattle.four_men.specs.Answers.{lengths_fit, lent_accepted, check_with, fill_with, look_up_with}
use Rattle.four_men.specs.Numbers.{BearsOf, SameClassIn}
use Rattle.four_men.specs.Truth.{TrueAnswerIn, TrueTableOf, FillTrueOf, LentBytes}
use Rattle.four_men.specs.GamePromise.{desk_move_with, GamePromiseWith}
use Rattle.four_men.specs.MoveTurned.{MoveTurnedWith}
use Rattle.four_men.specs.Steps.{Call, start_with, steps_with}
use Rattle.four_men.proofs.laws.Numbers as numbers
use Rattle.four_men.proofs.laws.Checking as checking
use Rattle.four_men.proofs.laws.Filling as filling
use Rattle.four_men.proofs.laws.LookingUp as looking_up
use Rattle.four_men.proofs.laws.Games as playing
use Rattle.four_men.proofs.laws.MoveTurned as turning
use Rattle.four_men.proofs.laws.PawnTurned as pawns
use Rattle.four_men.proofs.laws.PawnLawful.{map_by}
use Rattle.four_men.proofs.laws.Steps as runs
use Rattle.fifty.specs.FiftyPromise.{PlaysCountedWith, FiftyPromiseWith}
use Rattle.fifty.proofs.laws.FiftyGames as fifty

-- 1. Two positions of one ending that numbering does not refuse have the same number exactly when one of the board's
-- eight maps, two men in the other order, the colours exchanged (but for like kinds one each), or several of these make
-- one into the other; with a pawn, when the reversal of the files, the exchange of colours and ranks, or both do.
pub same_number : (p q : Position) → placing_with p ≡ 0 → placing_with q ≡ 0
    → material_in (board_of p).men ≡ material_in (board_of q).men
    → (number_with p ≡ number_with q) ↔ SameClassIn (material_in (board_of p).men) p q
same_number = numbers.same-number-with

-- 2. Each used number leads back to a position that bears it.
pub number-back : (m : Material) (n : ℕ) (p : Position) → placed_with m n ≡ Ok p → BearsOf m n p
number-back = numbers.number-back-with

-- 3. Checking accepts a table exactly when there is such an ending, all lengths fit, each lent table is accepted and
-- this one is true: that table and no other, whoever made it. It gives 17 exactly where a lent table is not accepted, 1
-- and 7 not refusing.
pub accepted-true : (m : Material) (l : Lent) (t : List ℕ)
    → ((check_with m l t ≡ Ok Checked.Accepted)
    ↔ (T (given m) × T (lengths_fit m l t) × T (lent_accepted m l) × TrueTableOf m t))
    × ((check_with m l t ≡ Err 17) ↔ (T (given m) × T (lengths_fit m l t) × (lent_accepted m l ≡ false)))
accepted-true m l t = (checking.accepts-true-with m l t, checking.checked-17 m l t)

-- 4. Where 1, 7 and 17 do not refuse, filling leaves the true table and gives the greatest depth, or says that no
-- position is decided; or it gives 10, a depth exceeds 253 and the table is all zero.
pub filled-true : (m : Material) (l : Lent) (t : List ℕ) → T (given m) → T (lengths_fit m l t) → T (lent_accepted m l)
    → LentBytes m l → FillTrueOf m (fill_with m l t)
filled-true = filling.filled-true-with

-- 5. With accepted tables look-up answers each legal position of the ending with its true value and depth and the truly
-- best move that is first on the normal board.
pub looked-up-true : (m : Material) (l : Lent) (t : List ℕ) → check_with m l t ≡ Ok Checked.Accepted → (p : Position)
    → material_in (board_of p).men ≡ m → standing_with p ≡ 0 → TrueAnswerIn (board_of p) (look_up_with l t p)
looked-up-true = looking_up.look-up-true-with

-- 6. A board has one true answer: value, depth and move are pinned by the rules of chess alone.
pub one_answer : (b : Board) (a c : Result Answer ℕ) → TrueAnswerIn b a → TrueAnswerIn b c → a ≡ c
one_answer b a c = answers.one_answer b a c

-- 7. The theorem about games: every list of legal moves from any legal board of the ending, the men White's or Black's,
-- through captures and promotions until bare kings, in which a side plays the moves that look-up gives with tables that
-- are accepted and stay as they are.
pub games : (m : Material) (l : Lent) (t : List ℕ) → check_with m l t ≡ Ok Checked.Accepted → (b : Board) → T (legal_in m b)
    → OfMaterial m b → (side : Bool) (ms : List Move) → LegalGame chess b ms
    → Follows chess (desk_move_with m l t) side b ms → GamePromiseWith m l t side b ms
games = playing.games-with

-- 8. The same at whatever count from 0 to 99 each look-up is given, with the fifty-move rule in it: from a marked
-- position the winner who plays the desk's moves mates within the depth, and before that the loser may not claim (FIDE
-- 9.3), whatever the replies and captures. With a pawn on the board no position is marked.
pub fifty-games : (m : Material) (l : Lent) (t : List ℕ) → check_with m l t ≡ Ok Checked.Accepted → (b : Board)
    → T (legal_in m b) → OfMaterial m b → (side : Bool) (ms : List Move) → LegalGame chess b ms
    → PlaysCountedWith m l t side b ms → FiftyPromiseWith m l t side b ms
fifty-games = fifty.fifty-games-with

-- 9. A position turned by one of the eight maps, its men in either slot, the colours exchanged where that is allowed,
-- each or not, gets the same answer, its move turned; where two maps fit and the turn exchanges file and rank, its
-- move's mirror image turned. With a pawn: turned by the reversal of the files, the exchange of colours and ranks, or
-- both, it gets the same answer, its move turned. So it is on any tables.
pub move-turned : (l : Lent) (t : List ℕ) (p : Position)
    → ((s : Change) → (material_in (board_of p).men ≡ Material.Pawn → ⊥) → MoveTurnedWith l t s p)
    × ((s : Flip) → material_in (board_of p).men ≡ Material.Pawn
    → look_up_with l t (changed_position (map_by s) s.colours p) ≡ mapped_answer (map_by s) (look_up_with l t p))
move-turned l t p = (λ s n. turning.move-turned-with l t s p n, λ s e. pawns.move-turned-pawn l t s p e)

-- 10. Where 1, 7 and 17 do not refuse the single fill, a run of steps from a start that says done, or gives 10, leaves
-- what that fill leaves: answer and every byte. After 255 steps every run has ended.
pub steps-fill : (m : Material) (l : Lent) (t : List ℕ) → T (given m) → T (lengths_fit m l t) → T (lent_accepted m l)
    → LentBytes m l → (n : ℕ) (s : Stepped) → steps_with m l n (start_with m t) ≡ Call.made s
    → ((r : FillEnd) → s.said ≡ ends r → (result_of r ≡ (fill_with m l t).answer) × (s.bytes ≡ (fill_with m l t).bytes))
    × ((k : ℕ) → 254 < n → s.said ≡ settled k → ⊥)
steps-fill m l t w long ok small n s run =
    let same : runs.ran m l t w long n ≡ s = cc (sym (runs.run-with-is m l t w long n) ∙ run) in
    let said = ap (λ (x : Stepped). x.said) same in (
      λ r e. let v = runs.steps-fill-with m l t w long ok small n r (said ∙ e) in
          (v.0, sym (ap (λ (x : Stepped). x.bytes) same) ∙ v.1),
      λ k h e. runs.steps-end-with m l t w long ok small n k h (said ∙ e),
    )

-- Boards that have a number: of one ending, all pieces on the board, the kings apart.
use Rattle.std.specs.Prelude.{◌≡◌, false, not, ◌&&◌, List, ℕ, ◌<◌, T, ltb, eqb}
use Rattle.std.proofs.Math.Bool.{xor}
use Rattle.std.proofs.Common.{ltb→lt}
use Rattle.finite.specs.Truth.{and_left, and_right, implies, false_of}
use Rattle.finite.specs.Members.{all}
use Rattle.board.specs.Reach.{reaches}
use Rattle.symmetry.specs.Symmetry.{Symmetry, composed}
use Rattle.rules.specs.declared.Piece.{Piece}
use Rattle.rules.specs.Rules.{Board}
use Rattle.rules.specs.Changed.{changed}
use Rattle.rules.proofs.laws.Changed.{changed-composed}
use Rattle.numbering.specs.Kings.{above, on_diagonal, in_triangle, cornered, separate, king_rule}
use Rattle.numbering.specs.Keys.{ending_of}
use Rattle.numbering.proofs.laws.MenLaws.{on_board}

pub record Numberable (ending : List Piece) (b : Board) : Type 0 where
  pub men : ending_of b ≡ ending
  pub side : b.side < 2
  pub squares : T (all on_board b.men)
  pub kings : T (separate b.white b.black)

pub separate-white : (white black : ℕ) → T (separate white black) → white < 64
unfolding separate
separate-white white black t =
    let a = ltb white 64 && ltb black 64 in
    let c = a && not (eqb white black) in
    ltb→lt white 64
    (and_left (ltb white 64) (ltb black 64)
    (and_left a (not (eqb white black)) (and_left c (not (reaches (λ s. false) 5 white black)) t)))

pub separate-black : (white black : ℕ) → T (separate white black) → black < 64
unfolding separate
separate-black white black t =
    let a = ltb white 64 && ltb black 64 in
    let c = a && not (eqb white black) in
    ltb→lt black 64
    (and_right (ltb white 64) (ltb black 64)
    (and_left a (not (eqb white black)) (and_left c (not (reaches (λ s. false) 5 white black)) t)))

pub separate-apart : (white black : ℕ) → T (separate white black) → eqb white black ≡ false
unfolding separate
separate-apart white black t =
    let a = ltb white 64 && ltb black 64 in
    let c = a && not (eqb white black) in
    false_of {b = eqb white black}
    (and_right a (not (eqb white black)) (and_left c (not (reaches (λ s. false) 5 white black)) t))

pub separate-touching : (white black : ℕ) → T (separate white black) → reaches (λ s. false) 5 white black ≡ false
unfolding separate
separate-touching white black t =
    let c = ltb white 64 && ltb black 64 && not (eqb white black) in
    false_of {b = reaches (λ s. false) 5 white black} (and_right c (not (reaches (λ s. false) 5 white black)) t)

-- ---- what the king rule says

pub ruled-cornered : (white black : ℕ) → T (king_rule white black) → T (cornered white black)
unfolding king_rule
ruled-cornered white black t = and_left (cornered white black) (separate white black) t

pub ruled-separate : (white black : ℕ) → T (king_rule white black) → T (separate white black)
unfolding king_rule
ruled-separate white black t = and_right (cornered white black) (separate white black) t

pub ruled-triangle : (white black : ℕ) → T (king_rule white black) → T (in_triangle white)
unfolding cornered
ruled-triangle white black t =
    and_left (in_triangle white) (implies (on_diagonal white) (not (above black))) (ruled-cornered white black t)

-- ---- maps compose

pub maps-compose : (m n : Symmetry) (b : Board) → changed n false (changed m false b) ≡ changed (composed m n) false b
unfolding xor
maps-compose m n b = changed-composed m n false false b

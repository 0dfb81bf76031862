-- `movegen::targets_from` meets its contract: who stands on the square is found by comparing.
use mathlib.Core.Path.{sym, ap, ◌∙◌}
use Prim.Native.Nat.{ℕ}
use Rattle.board.specs.Sets.{set_of}
use Rattle.rules.specs.declared.Piece.{Piece}
use Rattle.rules.specs.Rules.{can_move}
use Rattle.position.specs.Keyed.{board_of}
use Rattle.position_moves.proofs.laws.InPosition.{nobody-moves}
use Rattle.position_moves.proofs.in_position.targets_from.Goals as goal

pub returns-then-from-king_square : goal.returns-then-from-king_square
returns-then-from-king_square c =
    let x = c.args in
    λ v. v.king ∙ ap (λ (s : ℕ). set_of (can_move (board_of x.p) s)) (sym (c.if-from-king_square.true ∙ c.king_square.ensures))

pub returns-then-from-man_in : goal.returns-then-from-man_in
returns-then-from-man_in c =
    let x = c.args in
    λ v. v.first
    ∙ ap (λ (s : ℕ). set_of (can_move (board_of x.p) s))
    (sym (c.if-from-man_in.true ∙ ap (λ (a : Piece). a.square) c.man_in.ensures))

pub returns-then-from-man_in-2 : goal.returns-then-from-man_in-2
returns-then-from-man_in-2 c =
    let x = c.args in
    λ v. v.second
    ∙ ap (λ (s : ℕ). set_of (can_move (board_of x.p) s))
    (sym (c.if-from-man_in-2.true ∙ ap (λ (a : Piece). a.square) c.man_in-2.ensures))

pub returns : goal.returns
returns c =
    let x = c.args in
    λ v. nobody-moves x.p x.from (λ e. c.if-from-king_square.false (e ∙ sym c.king_square.ensures))
    (λ e. c.if-from-man_in.false (e ∙ sym (ap (λ (a : Piece). a.square) c.man_in.ensures)))
    (λ e. c.if-from-man_in-2.false (e ∙ sym (ap (λ (a : Piece). a.square) c.man_in-2.ensures)))

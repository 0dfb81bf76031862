-- Boards with a man and no pawn: every move that can be made is listed, and leaves what its two squares say.
use Rattle.std.specs.Prelude.{◌≡◌, false, not, ℕ, T}
use Rattle.std.proofs.Common.{ap}
use Rattle.finite.specs.Members.{◌∈◌, all}
use Rattle.rules.specs.declared.Move.{Move}
use Rattle.rules.specs.Pawn.{pawn}
use Rattle.rules.specs.Rules.{Board, empty, moved, can_move, move_on, played_as, moves}
use Rattle.rules.proofs.laws.MoveLists.{none-promotes}
use Rattle.rules.specs.Chess.{played}
use Rattle.rules.proofs.laws.ChessLaws.{in-moves, of-moves}

pub record Plain (b : Board) : Type 0 where
  pub manned : empty b.men ≡ false
  pub pawnless : T (all (λ a. not (pawn a)) b.men)

module _ (b : Board) (p : Plain b) where
  pub listed : (from to : ℕ) → T (can_move b from to) → move_on b from to ∈ moves b
  listed from to t = in-moves b from to p.manned t (none-promotes b from to p.pawnless)

  pub leaves : (v : Move) → v ∈ moves b → played b v ≡ moved b v.from v.to
  leaves v i =
      ap (played_as b v.from v.to)
      ((of-moves b v i).1.plain (none-promotes b v.from v.to p.pawnless))

-- The moves of a legal board and of its flipped one go over into each other, promotions with them, and so a move told for
-- the normal board is carried back.
use Rattle.std.specs.Prelude.{◌≡◌, T}
use Rattle.std.proofs.Common.{ap, subst, sym, ◌∙◌}
use Rattle.std.proofs.Math.Path.{subst⁻¹}
use Rattle.finite.specs.Members.{◌∈◌}
use Rattle.symmetry.specs.Symmetry.{inverse}
use Rattle.rules.specs.declared.Move.{Move}
use Rattle.rules.specs.Rules.{Board, legal_with_pawn, moves}
use Rattle.rules.specs.Changed.{mapped_move}
use Rattle.rules.specs.Chess.{played}
use Rattle.rules.proofs.laws.ChessLaws.{moves-fitting, played-fitting}
use Rattle.rules.proofs.laws.Changed.{move-back}
use Rattle.rules.specs.Changed.{keeping}
use Rattle.pawn_numbers.specs.PawnNumber.{Flip, flipped}
use Rattle.pawn_numbers.proofs.laws.FlipLaws.{flip-undone, flip-fitting, legal-flipped}

-- the move on the flipped board; the same flip carries it back
abbrev pub flipped_move : Flip → Move → Move
flipped_move s = mapped_move (keeping s.files s.colours)

pub move-undone : (s : Flip) (v : Move) → flipped_move s (flipped_move s v) ≡ v
unfolding inverse
move-undone s v = move-back (keeping s.files s.colours) v

module _ (s : Flip) (b : Board) (l : T (legal_with_pawn b)) where
  pub moves-flipped : (v : Move) → v ∈ moves b → flipped_move s v ∈ moves (flipped s b)
  unfolding flipped
  moves-flipped = moves-fitting (keeping s.files s.colours) s.colours b (flip-fitting s b l)

  pub played-flipped : (v : Move) → played (flipped s b) (flipped_move s v) ≡ flipped s (played b v)
  unfolding flipped
  played-flipped = played-fitting (keeping s.files s.colours) s.colours b (flip-fitting s b l)

  -- what the board was before carrying back, played, is the flipped one
  pub played-back : (v : Move) → flipped s (played b (flipped_move s v)) ≡ played (flipped s b) v
  played-back v = sym (played-flipped (flipped_move s v)) ∙ ap (played (flipped s b)) (move-undone s v)

pub moves-back : (s : Flip) (b : Board) → T (legal_with_pawn b) → (v : Move) → v ∈ moves (flipped s b)
    → flipped_move s v ∈ moves b
moves-back s b l v h =
    subst (λ (c : Board). flipped_move s v ∈ moves c) (flip-undone s b)
    (moves-flipped s (flipped s b) (subst⁻¹ T (legal-flipped s b) l) v h)

-- A number's half of the table is its side to move where the man is White's, and a move leads into the other half.
use Rattle.std.specs.Prelude.{◌≡◌, refl, false, not, ◌⊎◌, List, [], ℕ, ◌-◌, ◌/◌, ◌<◌, T}
use Rattle.std.proofs.Common.{sym, ap, subst, ◌∙◌, inl, inr}
use Rattle.std.proofs.Math.Path.{subst⁻¹}
use Rattle.finite.specs.Members.{◌∈◌, map-out}
use Rattle.theory.specs.Game.{next}
use Rattle.symmetry.specs.Symmetry.{Symmetry}
use Rattle.rules.specs.declared.Piece.{Piece}
use Rattle.rules.specs.Rules.{Board, empty, legal, moved, moves}
use Rattle.rules.specs.Sides.{played-side}
use Rattle.rules.specs.Changed.{changed, swapped}
use Rattle.rules.specs.Chess.{chess, played}
use Rattle.rules.proofs.laws.ChessLaws.{plain-played}
use Rattle.position.specs.Keyed.{board_of}
use Rattle.numbering.specs.Normal.{normal_map}
use Rattle.numbering.specs.Number.{number_of}
use Rattle.index.specs.Answers.{position_at}
use Rattle.endings.specs.Ending.{LoneOf, table_size, lone_board_at}
use Rattle.endings.proofs.laws.EndingDrawn.{men-next}
use Rattle.endings.proofs.laws.IndexLaws.{normal-at, number-of-ending}

pub side-at : (kind n : ℕ) → (lone_board_at kind n).side ≡ n / 64 / 462
unfolding lone_board_at board_of position_at
side-at kind n = refl

side-changed : (m : Symmetry) (b : Board) → (changed m false b).side ≡ b.side
unfolding changed swapped
side-changed m b = refl

pub side-next : (b q : Board) → q ∈ next chess b → q.side ≡ 1 - b.side
side-next b q i = let w = map-out (played b) q (moves b) i in ap (λ (c : Board). c.side) w.2
    ∙ played-side b w.0

-- what a white man's move or his king's leaves has him, or bare kings
pub white-next : (kind : ℕ) (b q : Board) → T (legal b) → LoneOf kind 0 b → q ∈ next chess b
    → T (not (empty q.men)) → LoneOf kind 0 q
white-next kind b q h l i n =
    let w = map-out (played b) q (moves b) i in
    subst⁻¹ (λ (c : Board). T (not (empty c.men)) → LoneOf kind 0 c)
    (w.2 ∙ plain-played b w.0 h w.1)
    (go (moved b w.0.from w.0.to) (men-next kind 0 b w.0.from w.0.to l)) n
  where
    go : (c : Board) → (c.men ≡ []) ⊎ LoneOf kind 0 c → T (not (empty c.men)) → LoneOf kind 0 c
    go c (inl e) t = absurd (subst (λ (ms : List Piece). T (not (empty ms))) e t)
    go c (inr k) t = k

pub number-side : (kind : ℕ) (q : Board) → T (legal q) → LoneOf kind 0 q
    → (number_of q < table_size) × (number_of q / 64 / 462 ≡ q.side)
number-side kind q t l = (
  (number-of-ending kind q t (0, l)).0,
  sym (side-at kind (number_of q))
      ∙ ap (λ (c : Board). c.side) (normal-at kind q t l) ∙ side-changed (normal_map q) q,
)

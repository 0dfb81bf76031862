-- Chess as a game of `theory`, and a board's images.
use Rattle.std.specs.Prelude.{◌≡◌, refl, Bool, not, List, [], ◌∷◌, ℕ, zero, suc, ◌-◌, T, eqb}
use Rattle.std.proofs.Common.{ap, ◌∙◌, arith, ne_eqb}
use Rattle.finite.specs.Truth.{and_right}
use Rattle.theory.specs.Game.{Game}
use Rattle.symmetry.specs.Symmetry.{Symmetry}
use Rattle.rules.specs.declared.Move.{Move}
use Rattle.rules.specs.Rules.{Board, empty, in_check, legal, legal_with_pawn, played_as, moves, mated}
use Rattle.rules.specs.Sides.{played-side}
use Rattle.rules.specs.Changed.{changed, fits}
use Rattle.rules.specs.Sides.{played-side}

empty-nil : {A : Type 0} (l : List A) → T (empty l) → l ≡ []
empty-nil [] t = refl
empty-nil (x ∷ l) t = absurd t

pub one_less : (s : ℕ) → eqb (1 - s) 0 ≡ not (eqb s 0)
one_less zero = refl
one_less (suc s) = let e : 1 - suc s ≡ 0 = omega arith in rw (e, ne_eqb (suc s) 0 (λ q. omega arith))

abbrev pub played : Board → Move → Board
played b m = played_as b m.from m.to m.becomes

pub ends : (b : Board) → T (mated b) → moves b ≡ []
unfolding mated
ends b t = empty-nil (moves b) (and_right (in_check b b.side) (empty (moves b)) t)

-- must unfold wherever a position or a move of it is taken apart
abbrev pub chess : Game
chess = record {
  Pos = Board;
  Move = Move;
  moves = moves;
  play = played;
  mated = mated;
  turn = λ b. eqb b.side 0;
  mate-ends = ends;
  alternates = λ b m t. ap (λ (s : ℕ). eqb s 0) (played-side b m) ∙ one_less b.side;
}

-- legal, perhaps with a pawn, and the change keeps every man's way of moving
pub record Fitting (m : Symmetry) (x : Bool) (b : Board) : Type 0 where
  pub legality : T (legal_with_pawn b)
  pub fit : T (fits m x b)

abbrev pub FittingImage : Symmetry → Bool → Board → Board → Type 0
FittingImage m x b c = Fitting m x b × (c ≡ changed m x b)

abbrev pub LegalBoard : Board → Type 0
LegalBoard b = T (legal b)

-- a legal board and any of its images have the same value
abbrev pub Image : Symmetry → Bool → Board → Board → Type 0
Image m x b c = T (legal b) × (c ≡ changed m x b)

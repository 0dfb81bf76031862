-- A game of nine spots with a win, a loss, a draw, a stalemate and a cycle: it meets the theory's premises, its table is checked by one
-- computed test, and the theorem about games speaks of it.
use Rattle.std.specs.Prelude.{◌≡◌, refl, Bool, true, false, not, ◌&&◌, List, [], ◌∷◌, map, ℕ, ◌≤◌, ◌<◌, T, eqb, ltb, length, get_or}
use Rattle.std.proofs.Common.{sym, subst, ◌∙◌, eqb→eq, ltb→lt, lit<}
use mathlib.Core.List.Memᴰ
use Rattle.std.proofs.Math.Option.{some}
use Rattle.finite.specs.Members.{any, all, some?, first, all-out, map-out}
use Rattle.finite.specs.Below.{all_below, below}
use Rattle.theory.specs.Game.{Game}
use Rattle.theory.specs.Value.{won, lost, WonIn}
use Rattle.theory.specs.Required.{required, best, better, back, winning, Closed, Consistent}
use Rattle.theory.specs.Play.{suits, LegalGame, Follows, first_suited, Promised, IsMated, after}

pub record Spot : Type 0 where
  pub node : ℕ
  pub white : Bool

-- where each node's moves lead: 0 is mate, 4 stalemate, 5 and 6 a cycle
abbrev pub edges : List (List ℕ)
edges = [] ∷ (0 ∷ 2 ∷ []) ∷ (1 ∷ []) ∷ (4 ∷ 2 ∷ []) ∷ [] ∷ (3 ∷ 4 ∷ 6 ∷ []) ∷ (5 ∷ []) ∷ (2 ∷ 0 ∷ []) ∷ (1 ∷ 3 ∷ []) ∷ []

-- and the byte of each
abbrev pub bytes : List ℕ
bytes = 2 ∷ 3 ∷ 4 ∷ 5 ∷ 1 ∷ 1 ∷ 1 ∷ 3 ∷ 6 ∷ []

abbrev pub move_to : Spot → ℕ → Spot
move_to p m = record { node = m; white = not p.white }

pub mate-stops : (p : Spot) → T (eqb p.node 0) → get_or edges p.node [] ≡ []
mate-stops p t = subst (λ (n : ℕ). get_or edges n [] ≡ []) (sym (eqb→eq p.node 0 t)) refl

abbrev pub toy : Game
toy = record {
  Pos = Spot;
  Move = ℕ;
  moves = λ p. get_or edges p.node [];
  play = move_to;
  mated = λ p. eqb p.node 0;
  turn = λ p. p.white;
  mate-ends = mate-stops;
  alternates = λ p m i. refl;
}

abbrev pub reads : Spot → ℕ
reads p = get_or bytes p.node 0

abbrev pub Inside : Spot → Type 0
Inside p = p.node < 9

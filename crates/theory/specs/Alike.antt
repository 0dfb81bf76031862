-- Positions that go alike, and maps that keep moves and mate. Definitions only.
use Rattle.std.specs.Prelude.{◌≡◌}
use Rattle.finite.specs.Members.{◌∈◌}
use Rattle.theory.specs.Game.{Game, next}

-- R pairs positions of two games: each move of one has a paired move of the other, and mate is paired with mate.
pub record Alike (G H : Game) (R : G.Pos → H.Pos → Type 0) : Type 0 where
  pub forth : (p : G.Pos) (r : H.Pos) → R p r → (q : G.Pos) → q ∈ next G p → (s : H.Pos) × (s ∈ next H r) × R q s
  pub back : (p : G.Pos) (r : H.Pos) → R p r → (s : H.Pos) → s ∈ next H r → (q : G.Pos) × (q ∈ next G p) × R q s
  pub mate : (p : G.Pos) (r : H.Pos) → R p r → G.mated p ≡ H.mated r

-- A map of the positions D onto themselves that keeps moves and mate, and its inverse.
pub record Automorphism (G : Game) (D : G.Pos → Type 0) (f g : G.Pos → G.Pos) : Type 0 where
  pub there : (p : G.Pos) → D p → D (f p)
  pub onward : (p q : G.Pos) → D p → q ∈ next G p → D q
  pub undo : (p : G.Pos) → D p → g (f p) ≡ p
  pub redo : (p : G.Pos) → D p → f (g p) ≡ p
  pub moves-f : (p q : G.Pos) → D p → q ∈ next G p → f q ∈ next G (f p)
  pub moves-g : (p q : G.Pos) → D p → q ∈ next G p → g q ∈ next G (g p)
  pub mate : (p : G.Pos) → D p → G.mated (f p) ≡ G.mated p

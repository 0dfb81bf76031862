-- Won, lost, drawn, and the depth in plies (01, "Values and the table's bytes"; "within" as request P7 words it). What 01 says of them is
-- proved in `Depth`. Definitions only.
use Rattle.std.specs.Prelude.{◌≡◌, Bool, false, ◌&&◌, ◌||◌, ℕ, zero, suc, ◌+◌, ◌≤◌, T}
use Rattle.finite.specs.Members.{any, all, some?}
use Rattle.theory.specs.Game.{Game, next}

module _ (G : Game) where
  unfoldable mutual
    -- Won within k plies: some move leaves the other side lost within k - 1. Nothing is won within 0.
    pub won : ℕ → G.Pos → Bool
    won zero p = false
    won (suc k) p = any (λ q. lost k q) (next G p)

    -- Lost within k plies: it is mate, or there are moves and each leaves the other side won within k - 1. Only mate is lost within 0.
    pub lost : ℕ → G.Pos → Bool
    lost zero p = G.mated p
    lost (suc k) p = G.mated p || (some? (next G p) && all (λ q. won k q) (next G p))

  -- Won in n plies: within n, and not within fewer.
  pub record WonIn (n : ℕ) (p : G.Pos) : Type 0 where
    pub within : T (won n p)
    pub least : (m : ℕ) → T (won m p) → n ≤ m

  -- Lost in n plies.
  pub record LostIn (n : ℕ) (p : G.Pos) : Type 0 where
    pub within : T (lost n p)
    pub least : (m : ℕ) → T (lost m p) → n ≤ m

  -- A draw: never won and never lost.
  pub record Drawn (p : G.Pos) : Type 0 where
    pub not-won : (m : ℕ) → T (won m p) → ⊥
    pub not-lost : (m : ℕ) → T (lost m p) → ⊥

  -- Decided, in depth n.
  pub data DepthIs (n : ℕ) (p : G.Pos) : Type 0 where
    win : WonIn n p → DepthIs n p
    loss : LostIn n p → DepthIs n p

  -- The true byte: 1 for a draw, 2 + n for depth n.
  pub data TrueByte (p : G.Pos) (b : ℕ) : Type 0 where
    win : (n : ℕ) → WonIn n p → b ≡ 2 + n → TrueByte p b
    loss : (n : ℕ) → LostIn n p → b ≡ 2 + n → TrueByte p b
    draw : Drawn p → b ≡ 1 → TrueByte p b

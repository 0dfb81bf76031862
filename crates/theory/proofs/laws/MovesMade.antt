-- "Document 003 counts the winner's moves: that is (n + 1) / 2, rounded down" (01): in a game of n plies from a position decided in n, that many moves
-- are the winner's.
use Rattle.std.proofs.Math.Path.{◌≡◌, refl, ap}
use Rattle.std.proofs.Common.{◌∙◌, arith}
use Rattle.std.specs.Prelude.{Bool, not, ℕ, suc, ◌+◌, ◌/◌, length}
use Rattle.std.specs.Bool.{beq}
use Rattle.std.proofs.Math.Bool.{true, false, cond}
use mathlib.Core.List.{List, [], ◌∷◌}
use Rattle.theory.specs.Game.{Game}
use Rattle.theory.specs.Value.{WonIn, LostIn}
use Rattle.theory.proofs.laws.Depth.{lost-even}
use Rattle.theory.specs.Play.{LegalGame}

-- the moves of the winner from a position decided in n plies
abbrev pub winners_moves : ℕ → ℕ
winners_moves n = (n + 1) / 2

module _ (G : Game) where
  -- how many moves of the list are this side's
  unfoldable pub moves_by : Bool → G.Pos → List G.Move → ℕ
  moves_by side p [] = 0
  moves_by side p (m ∷ ms) = cond (beq side (G.turn p)) 1 0 + moves_by side (G.play p m) ms

  -- sides take turns, and the side to move has the first
  half : (side turn : Bool) (n : ℕ)
      → cond (beq side turn) 1 0 + cond (beq side (not turn)) ((n + 1) / 2) (n / 2)
      ≡ cond (beq side turn) ((suc n + 1) / 2) (suc n / 2)
  half true true n = omega arith
  half true false n = omega arith
  half false true n = omega arith
  half false false n = omega arith

  shared : (side : Bool) (p : G.Pos) (ms : List G.Move) → LegalGame G p ms
      → moves_by side p ms ≡ cond (beq side (G.turn p)) ((length ms + 1) / 2) (length ms / 2)
  unfolding moves_by
  shared side p [] l = zero-moves (beq side (G.turn p))
    where
      zero-moves : (b : Bool) → ◌≡◌ {A = ℕ} 0 (cond b ((0 + 1) / 2) (0 / 2))
      zero-moves true = refl
      zero-moves false = refl
  shared side p (m ∷ ms) l =
      ap (λ (k : ℕ). cond (beq side (G.turn p)) 1 0 + k)
      (shared side (G.play p m) ms l.1
      ∙ ap (λ (t : Bool). cond (beq side t) ((length ms + 1) / 2) (length ms / 2)) (G.alternates p m l.0))
      ∙ half side (G.turn p) (length ms)

  own : (side turn : Bool) (n k : ℕ) → turn ≡ side → cond (beq side turn) n k ≡ n
  own true true n k e = refl
  own false false n k e = refl
  own true false n k e = let z : ◌≡◌ {A = ℕ} 0 1 = cc in absurd (omega arith)
  own false true n k e = let z : ◌≡◌ {A = ℕ} 0 1 = cc in absurd (omega arith)

  other : (side turn : Bool) (n k : ℕ) → turn ≡ not side → cond (beq side turn) n k ≡ k
  other true false n k e = refl
  other false true n k e = refl
  other true true n k e = let z : ◌≡◌ {A = ℕ} 0 1 = cc in absurd (omega arith)
  other false false n k e = let z : ◌≡◌ {A = ℕ} 0 1 = cc in absurd (omega arith)

  module _ (side : Bool) (p : G.Pos) (ms : List G.Move) (l : LegalGame G p ms) where
    -- the side to move wins in n
    pub winner-to-move : WonIn G (length ms) p → G.turn p ≡ side → moves_by side p ms ≡ winners_moves (length ms)
    winner-to-move w e = shared side p ms l ∙ own side (G.turn p) ((length ms + 1) / 2) (length ms / 2) e

    -- the side to move loses in n
    pub winner-waits : LostIn G (length ms) p → G.turn p ≡ not side → moves_by side p ms ≡ winners_moves (length ms)
    winner-waits w e =
        let z : length ms / 2 ≡ (length ms + 1) / 2 = omega (arith, lost-even G (length ms) p w) in
        shared side p ms l ∙ other side (G.turn p) ((length ms + 1) / 2) (length ms / 2) e ∙ z

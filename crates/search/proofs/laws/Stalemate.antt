-- Stalemate is not lost, though "every move leaves the other won" holds of no moves; mate is.
use Rattle.std.specs.Prelude.{◌≡◌, refl, ℕ, ◌≤◌, Ok}
use mathlib.Core.List.Memᴰ
use Rattle.std.proofs.Common.{arith}
use Rattle.finite.specs.Members.{◌∈◌}
use Rattle.theory.specs.Value.{LostIn, Drawn}
use Rattle.rules.specs.Chess.{chess}
use Rattle.position.specs.declared.Position.{Position}
use Rattle.position.specs.Keyed.{board_of, lone}
use Rattle.position.specs.Refusals.{standing_refusal}
use Rattle.endings.proofs.laws.Bench.{Case, CaseHolds, starred, bench}
use Rattle.search.specs.declared.Opinion.{Opinion}
use Rattle.search.specs.Opinions.{most, opinion_of}
use Rattle.search.proofs.laws.Exactly.{not-of-draw, opinion-true, opinion-exact}

module _ (p : Position) (k : ℕ) (few : k ≤ most) (placed : standing_refusal p ≡ 0) where
  drawn-not-within : Drawn chess (board_of p) → opinion_of p k ≡ Ok Opinion.NotWithin
  drawn-not-within d = not-of-draw (board_of p) k (opinion_of p k) (opinion-true p k few placed) d

  mated-loss : LostIn chess 0 (board_of p) → opinion_of p k ≡ Ok (Opinion.Loss 0)
  mated-loss l = ((opinion-exact p k few placed).loss 0).1 (l, omega arith)

-- 01's stalemate and one of its mates: Ke5 Qb3 and Kb3 Qb2 against Ka1, Black to move
abbrev pub stalemate : Position
stalemate = lone 0 1 36 17 0

abbrev pub mate : Position
mate = lone 0 1 17 9 0

mate-kept : Case.lost-in-0 mate ∈ starred
mate-kept = Memᴰ.tail
    (Memᴰ.tail
    (Memᴰ.tail
    (Memᴰ.tail
    (Memᴰ.tail (Memᴰ.tail (Memᴰ.tail (Memᴰ.tail (Memᴰ.tail (Memᴰ.head refl)))))))))

stalemate-kept : Case.drawn-no-move stalemate ∈ starred
stalemate-kept =
    Memᴰ.tail
    (Memᴰ.tail
    (Memᴰ.tail
    (Memᴰ.tail
    (Memᴰ.tail
    (Memᴰ.tail (Memᴰ.tail (Memᴰ.tail (Memᴰ.tail (Memᴰ.tail (Memᴰ.head refl))))))))))

-- within 0 to 6 plies
pub stalemate-not-lost : (k : ℕ) → k ≤ most → opinion_of stalemate k ≡ Ok Opinion.NotWithin
stalemate-not-lost k few = let h : CaseHolds (Case.drawn-no-move stalemate) = bench _ stalemate-kept in
    drawn-not-within stalemate k few h.0 h.1

pub mate-lost : (k : ℕ) → k ≤ most → opinion_of mate k ≡ Ok (Opinion.Loss 0)
mate-lost k few = let h : CaseHolds (Case.lost-in-0 mate) = bench _ mate-kept in mated-loss mate k few h.0 h.1

-- Attack by men alone: where the kings do not touch, only men give check.
use Rattle.std.specs.Prelude.{◌≡◌, refl, Bool, true, false, ◌||◌, ℕ, zero, suc, ◌-◌, ◌<◌, None, Option, Some}
use Rattle.std.proofs.Math.Path.{sym}
use Rattle.std.proofs.Common.{ap, ap₂, ◌∙◌, arith, ne_eqb}
use Rattle.std.proofs.Math.Bool.{or-false}
use Rattle.finite.specs.Members.{any}
use Rattle.finite.specs.Tests.{any_append}
use Rattle.board.specs.Reach.{reaches}
use Rattle.board.proofs.laws.ReachLaws.{king-reaches}
use Rattle.symmetry.proofs.laws.Opposite.{reaches-sym}
use Rattle.rules.specs.declared.Piece.{Piece}
use Rattle.rules.specs.Rules.{Board, occupied, attacks, attacked, king, touching, in_check}
use Rattle.position.specs.declared.Position.{Position}
use Rattle.position.specs.Keyed.{slot_men, board_of}
use Rattle.position.specs.Over.{strikes, attacked_over, men_over}

-- a test of the man in a slot
module _ (f : Piece → Bool) (slot : Option Piece) where
  pub any-absent : slot ≡ None → false ≡ any f (slot_men slot)
  unfolding any
  any-absent e = sym (rw e)

  pub any-present : (m : Piece) → slot ≡ Some m → f m ≡ any f (slot_men slot)
  unfolding any
  any-present m e = sym (rw e (or-false (f m)))

-- the men slot by slot
pub men-slots : (p : Position) (occ : ℕ → Bool) (colour t : ℕ) (f s : Bool)
    → f ≡ any (strikes occ colour t) (slot_men p.first) → s ≡ any (strikes occ colour t) (slot_men p.second)
    → (f || s) ≡ men_over occ (board_of p) colour t
unfolding men_over board_of
men-slots p occ colour t f s ef es =
    ap₂ ◌||◌ ef es ∙ sym (any_append (strikes occ colour t) (slot_men p.first) (slot_men p.second))

-- the king's part and the men's
pub attacked-parts : (b : Board) (occ : ℕ → Bool) (colour : ℕ) → colour < 2 → (t : ℕ)
    → attacked_over occ b colour t ≡ (reaches occ 5 (king b colour) t || men_over occ b colour t)
unfolding attacked_over men_over any attacks
attacked-parts b occ zero l t = refl
attacked-parts b occ (suc zero) l t = refl
attacked-parts b occ (suc (suc n)) l t = absurd (omega arith)

module _ (b : Board) (apart : touching b ≡ false) where
  kings-apart : (occ : ℕ → Bool) → reaches occ 5 b.white b.black ≡ false
  unfolding touching
  kings-apart occ = king-reaches occ (λ s. false) b.white b.black ∙ apart

  kings-back : (occ : ℕ → Bool) → reaches occ 5 b.black b.white ≡ false
  kings-back occ = reaches-sym occ 5 b.black b.white ∙ kings-apart occ

  -- a king is attacked by men alone
  pub attacked-king : (occ : ℕ → Bool) (side : ℕ)
      → attacked_over occ b (1 - side) (king b side) ≡ men_over occ b (1 - side) (king b side)
  attacked-king occ zero = attacked-parts b occ 1 (omega arith) b.white ∙ rw (kings-back occ)
  attacked-king occ (suc zero) = attacked-parts b occ 0 (omega arith) b.black ∙ rw (kings-apart occ)
  attacked-king occ (suc (suc n)) =
      let e : 1 - suc (suc n) ≡ 0 = omega arith in
      rw (e, ne_eqb (suc (suc n)) 0 (λ z. absurd (omega arith)))
      (attacked-parts b occ 0 (omega arith) b.black ∙ rw (kings-apart occ))

  pub check-men : (side : ℕ) → in_check b side ≡ men_over (occupied b) b (1 - side) (king b side)
  unfolding in_check attacked attacked_over
  check-men side = attacked-king (occupied b) side

-- check as code finds it: by the first man, or else by the second
module _ (p : Position) (apart : touching (board_of p) ≡ false) (side foe at : ℕ) (ef : foe ≡ 1 - side)
    (ek : at ≡ king (board_of p) side) (first : Bool)
    (e : first ≡ any (strikes (occupied (board_of p)) foe at) (slot_men p.first)) where
  either : (second : Bool) → second ≡ any (strikes (occupied (board_of p)) foe at) (slot_men p.second)
      → (first || second) ≡ in_check (board_of p) side
  either second q =
      men-slots p (occupied (board_of p)) foe at first second e q
      ∙ ap₂ (men_over (occupied (board_of p)) (board_of p)) ef ek
      ∙ sym (check-men (board_of p) apart side)

  pub by_first : first ≡ true → true ≡ in_check (board_of p) side
  by_first h = ap (λ (x : Bool). x || any (strikes (occupied (board_of p)) foe at) (slot_men p.second)) (sym h) ∙ either _ refl

  pub by-second : first ≡ false → (second : Bool)
      → second ≡ any (strikes (occupied (board_of p)) foe at) (slot_men p.second)
      → second ≡ in_check (board_of p) side
  by-second h second q = ap (λ (x : Bool). x || second) (sym h) ∙ either second q

-- Each number below 196,608 leads back to a board with a pawn that bears it, the normal board of its class.
use Rattle.std.specs.Prelude.{◌≡◌, refl, false, ℕ, ◌+◌, ◌*◌, ◌/◌, ◌%◌, ◌<◌, T, ltb}
use Rattle.std.proofs.Common.{ap, sym, ◌∙◌, arith, lt→ltb}
use Rattle.std.proofs.Math.Path.{subst⁻¹}
use Rattle.finite.specs.Truth.{and_both}
use Rattle.theory.specs.Value.{TrueByte}
use Rattle.rules.specs.Rules.{Board, legal_with_pawn}
use Rattle.rules.specs.Chess.{chess}
use Rattle.pawn_numbers.specs.PawnNumber.{Flip, flip, flipped, normal_pawn, slot_of, slot_square, pawn_key, pawn_flip, pawn_number, pawn_size, pawn_board, separated, used_pawn, HasPawn}
use Rattle.pawn_numbers.proofs.laws.FlipLaws.{flip-none, has-flipped, legal-flipped, byte-flipped, separated-flipped, legal-separated}
use Rattle.pawn_numbers.proofs.laws.NormalPawn.{facts-normal, key-is, key-own, normal-flipped, one-flip, number_lt}

pub board-has : (n : ℕ) → HasPawn (pawn_board n)
unfolding pawn_board
board-has n =
    let s = slot_square (n / 4096 % 24) in
    record {
      colour = 0;
      square = s;
      men = refl;
      white-or-black = omega arith;
      inner = and_both (ltb 7 s) (ltb s 56) (lt→ltb 7 s (omega arith)) (lt→ltb s 56 (omega arith));
      side = omega arith;
      white = omega arith;
      black = omega arith;
    }

board-normal : (n : ℕ) → T (normal_pawn (pawn_board n))
unfolding board-has pawn_board
board-normal n = facts-normal (pawn_board n) (board-has n) refl (omega arith)

slot-back : (t : ℕ) → t < 24 → slot_of (slot_square t) ≡ t
slot-back t h = omega arith

lead-back : (p : ℕ) → p < 48 → p / 24 % 2 * 24 + slot_of (slot_square (p % 24)) ≡ p
lead-back p h = let e = slot-back (p % 24) (omega arith) in omega arith

digits-back : (n : ℕ) → n < pawn_size
    → (n / 4096 / 24 % 2 * 24 + slot_of (slot_square (n / 4096 % 24))) * 4096 + n / 64 % 64 * 64 + n % 64 ≡ n
digits-back n h =
    ap (λ (p : ℕ). p * 4096 + n / 64 % 64 * 64 + n % 64) (lead-back (n / 4096) (omega arith)) ∙ three n
  where
    three : (n : ℕ) → n / 4096 * 4096 + n / 64 % 64 * 64 + n % 64 ≡ n
    three n = omega arith

board-key : (n : ℕ) → n < pawn_size → pawn_key (pawn_board n) ≡ n
unfolding board-has pawn_board
board-key n h = key-is (pawn_board n) (board-has n) ∙ digits-back n h

-- the board of a number is normal as it stands
pub board-stays : (n : ℕ) → flipped (pawn_flip (pawn_board n)) (pawn_board n) ≡ pawn_board n
board-stays n =
    let b = pawn_board n in
    let e = one-flip b (board-has n) (flip false false)
    (subst⁻¹ (λ (c : Board). T (normal_pawn c)) (flip-none b) (board-normal n)) in
    ap (λ (s : Flip). flipped s b) (sym e) ∙ flip-none b

-- each number below 196,608 leads back to a board that bears it
pub board-number : (n : ℕ) → n < pawn_size → pawn_number (pawn_board n) ≡ n
unfolding pawn_number
board-number n h = ap pawn_key (board-stays n) ∙ board-key n h

-- and a board's number leads back to its normal board
pub number-board : (b : Board) → HasPawn b → pawn_board (pawn_number b) ≡ flipped (pawn_flip b) b
unfolding pawn_number
number-board b h =
    key-own (pawn_board (pawn_number b)) (flipped (pawn_flip b) b) (board-has (pawn_number b)) (has-flipped (pawn_flip b) b h)
    (board-normal (pawn_number b)) (normal-flipped b h) (board-key (pawn_number b) (number_lt b h))

-- its number is used exactly where its men are apart and the kings do not touch
pub used-number : (b : Board) → HasPawn b → used_pawn (pawn_number b) ≡ separated b
unfolding used_pawn
used-number b h = ap separated (number-board b h) ∙ separated-flipped (pawn_flip b) b

pub legal-used : (b : Board) → HasPawn b → T (legal_with_pawn b) → T (used_pawn (pawn_number b))
legal-used b h l = subst⁻¹ T (used-number b h) (legal-separated b l)

-- the board at a legal board's number is legal, and one byte is true of both
pub legal-at-number : (b : Board) → HasPawn b → legal_with_pawn (pawn_board (pawn_number b)) ≡ legal_with_pawn b
legal-at-number b h = ap legal_with_pawn (number-board b h) ∙ legal-flipped (pawn_flip b) b

pub byte-at-number : (b : Board) (v : ℕ) → HasPawn b → T (legal_with_pawn b) → TrueByte chess b v
    → TrueByte chess (pawn_board (pawn_number b)) v
byte-at-number b v h l t =
    subst⁻¹ (λ (c : Board). TrueByte chess c v) (number-board b h) (byte-flipped (pawn_flip b) b v l t)
